-- What is left of the bits, fed to x, gives what all of them give behind f.
use mathlib.Core.Path.{◌≡◌, sym, ap, ◌∙◌}
use Prim.Native.Nat.{ℕ}
use native.Mathlib.Omega.{arith}
use Rattle.gf2.specs.Polynomials.{rem}
use Rattle.gf2.specs.Moduli.{polynomial}
use Rattle.gf2.proofs.Monics.{monic-pos}
use Rattle.gf2.proofs.Steps.{residue-lt, residue-small}
use Rattle.files.specs.Files.{low_bits, value_from}
use Rattle.files.proofs.Computing.{next_bit}
use Rattle.files.proofs.feed_low.Goals as goal

pub loop-i-preserved : goal.loop-i-preserved
loop-i-preserved c =
    let a = c.args in
    let m = c.requires.0 in
    let l = c.loop-i in
    let next = next_bit (monic-pos a.p.degree a.p.low m.2) l.x a.b l.i (omega arith) in
    (rw (c.step-x.ensures, c.from.ensures) (residue-lt a.p.degree a.p.low m.2 _), rw (c.step-x.ensures, c.from.ensures) (next ∙ l.invariant.1))

pub returns : goal.returns
unfolding value_from low_bits
returns c =
    let a = c.args in
    let m = c.requires.0 in
    let l = c.loop-i in
    let z : l.i ≡ 0 = omega arith in
    sym (residue-small a.p.degree a.p.low m.2 l.x l.invariant.0)
    ∙ sym (ap (λ (n : ℕ). rem (polynomial a.p) (value_from l.x (low_bits n a.b))) z)
    ∙ l.invariant.1
