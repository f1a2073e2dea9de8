use mathlib.Core.Path.{◌≡◌, sym, ap, ◌∙◌}
use Prim.Native.Nat.{ℕ, ◌+◌, ◌-◌}
use native.Mathlib.Omega.{arith}
use Rattle.gf2.specs.Polynomials.{◌⊕◌}
use Rattle.gf2.proofs.Sums.{zero-⊕}
use Rattle.irreducibility.specs.Squares.{folded}
use Rattle.irreducibility.proofs.Folding.{fold_next, fold_done}
use Rattle.irreducibility.proofs.fold.Goals as goal

pub loop-init : goal.loop-init
loop-init c = zero-⊕ (folded 6 c.args.x)

pub loop-preserved : goal.loop-preserved
unfolding ◌⊕◌
loop-preserved c =
    let l = c.loop in
    let e : 6 - l.counter - 1 ≡ 6 - (l.counter + 1) = omega arith in
    rw (c.even_root-rest.ensures, c.odd_part-sum.ensures, ← e) (sym (fold_next (6 - l.counter) l.rest l.sum (omega arith)) ∙ l.invariant)

pub returns : goal.returns
unfolding ◌⊕◌
returns c =
    let l = c.loop in
    let e : 6 - l.counter ≡ 0 = omega arith in
    ap (λ (y : ℕ). l.sum ⊕ y) (sym (fold_done l.rest) ∙ ap (λ (n : ℕ). folded n l.rest) (sym e)) ∙ l.invariant
