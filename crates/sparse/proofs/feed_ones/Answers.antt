-- `feed_ones` meets its contract: x stands for f and the bytes that were fed.
use mathlib.Core.Path.{ap, ◌∙◌}
use Prim.Native.Nat.{ℕ, ◌+◌, ◌*◌}
use native.Mathlib.Omega.{arith}
use Rattle.gf2.specs.Polynomials.{rem}
use Rattle.gf2.specs.Moduli.{polynomial}
use Rattle.big_endian.proofs.Pieces.{going-one, going-all}
use Rattle.sparse.proofs.feed_ones.Goals as goal

pub loop-byte-preserved : goal.loop-byte-preserved
loop-byte-preserved c =
    let a = c.args in
    let l = c.loop-byte in
    going-one a.p c.requires.0.0 a.f a.part.now 0 l.byte-index l.x l.invariant c.behind-x.result (omega arith) (omega arith)
    (c.behind-x.ensures ∙ ap (λ (v : ℕ). rem (polynomial a.p) (l.x * 256 + v)) c.from.ensures)

pub returns : goal.returns
returns c =
    let a = c.args in
    let l = c.loop-byte in
    going-all a.p c.requires.0.0 a.f a.part.now 0 l.byte-index l.x l.invariant (omega arith)
