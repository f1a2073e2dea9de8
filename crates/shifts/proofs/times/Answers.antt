-- `times` meets its contract.
use mathlib.Core.Path.{◌≡◌, sym, ◌∙◌}
use Prim.Native.Nat.{◌+◌, ◌-◌}
use native.Mathlib.Omega.{arith}
use Rattle.gf2.specs.Polynomials.{◌⊕◌}
use Rattle.gf2.proofs.Sums.{zero-⊕}
use Rattle.lookups.specs.Groups.{looked}
use Rattle.shifts.proofs.Products.{look_next, look_done}
use Rattle.shifts.proofs.times.Goals as goal

pub loop-j-init : goal.loop-j-init
loop-j-init c = (omega arith, zero-⊕ (looked 8 c.args.words.now 8 0 c.args.f))

pub loop-j-preserved : goal.loop-j-preserved
unfolding ◌⊕◌
loop-j-preserved c =
    let a = c.args in
    let l = c.loop-j in
    let e : 8 - (l.j + 1) ≡ 8 - l.j - 1 = omega arith in
    (omega arith, rw e (sym (look_next a.words.now l.sum l.rest (8 - l.j) l.j (omega arith)) ∙ l.invariant.1))

pub returns : goal.returns
returns c =
    let l = c.loop-j in
    sym (look_done c.args.words.now l.sum l.rest (8 - l.j) l.j (omega arith)) ∙ l.invariant.1
