-- `times_bits` meets its contract: the sum is the product with the i low bits.
use mathlib.Core.Path.{◌≡◌, sym, ap, ap₂, ◌∙◌}
use Prim.Native.Nat.{ℕ, ◌+◌, ◌*◌, ◌/◌, ◌%◌, ◌^◌, ◌<◌}
use native.Mathlib.Nat.{mod-one}
use native.Mathlib.Numerals.{add-one}
use native.Mathlib.Omega.{arith}
use lib.Pow.{shl_exact}
use Rattle.gf2.specs.Polynomials.{◌⊕◌, ◌⊗◌}
use Rattle.gf2.proofs.Products.{⊗-zero}
use Rattle.gf2.proofs.Steps.{⊗-next}
use Rattle.sparse.proofs.times_bits.Goals as goal

sum-next : (h low sum i : ℕ) → h < 2 ^ 56 → i < 8 → sum ≡ h ⊗ (low % 2 ^ i)
    → sum ⊕ h * 2 ^ i % 2 ^ 64 * (low / 2 ^ i % 2) ≡ h ⊗ (low % 2 ^ (i + 1))
sum-next h low sum i b l e =
    ap₂ (λ (x y : ℕ). x ⊕ y * (low / 2 ^ i % 2)) e (shl_exact 56 i 64 b (omega arith))
    ∙ sym (⊗-next h low i)
    ∙ ap (λ (n : ℕ). h ⊗ (low % 2 ^ n)) (sym (add-one i))

pub loop-i-init : goal.loop-i-init
loop-i-init c = sym (ap (λ (x : ℕ). c.args.h ⊗ x) (mod-one c.args.low) ∙ ⊗-zero c.args.h)

pub loop-i-preserved : goal.loop-i-preserved
unfolding ◌⊕◌
loop-i-preserved c =
    let l = c.loop-i in
    sum-next c.args.h c.args.low l.sum l.i c.requires.0 (omega arith) l.invariant
