-- `difference_ones` meets its contract: x stands for f and the difference of the bytes before i.
use mathlib.Core.Path.{ap, ◌∙◌}
use Prim.Native.Nat.{ℕ, ◌+◌, ◌*◌}
use native.Mathlib.Omega.{arith}
use lib.ListN.{get_or}
use Rattle.gf2.specs.Polynomials.{◌⊕◌, rem}
use Rattle.gf2.specs.Moduli.{polynomial}
use Rattle.big_endian.proofs.Pieces.{value-one}
use Rattle.sparse.proofs.Differences.{apart, apart-all}
use Rattle.sparse.proofs.difference_ones.Goals as goal

pub loop-i-preserved : goal.loop-i-preserved
unfolding ◌⊕◌
loop-i-preserved c =
    let a = c.args in
    let l = c.loop-i in
    let u = get_or a.old.now l.i 0 in
    let v = get_or a.new.now l.i 0 in
    apart a.p c.requires.0.0 a.f a.old.now a.new.now c.requires.2 0 l.i l.x l.invariant 1 u v c.behind-x.result (omega arith)
    (value-one a.old.now l.i (omega arith) (omega arith))
    (value-one a.new.now l.i (omega (arith, c.requires.2)) (omega arith))
    (c.behind-x.ensures ∙ ap (λ (z : ℕ). rem (polynomial a.p) (l.x * 256 + z)) c.from.ensures)

pub returns : goal.returns
returns c =
    let a = c.args in
    let l = c.loop-i in
    apart-all a.p c.requires.0.0 a.f a.old.now a.new.now c.requires.2 0 l.i l.x l.invariant (omega arith)
