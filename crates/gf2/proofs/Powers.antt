-- Laws of powers, and of powers modulo a polynomial.
use mathlib.Core.Path.{◌≡◌, refl, sym, ap, ap₂, ◌∙◌}
use Prim.Native.Nat.{ℕ, zero, suc, ◌+◌, ◌*◌, ◌^◌, ◌<◌}
use native.Mathlib.Nat.{add-zero, zero-add, add_comm, suc-add, mul-zero, mul-suc, pow-suc}
use lib.Pow.{pow_pos}
use Rattle.gf2.specs.Polynomials.{◌⊕◌, ◌⊗◌, rem}
use Rattle.gf2.specs.Powers.{◌⊗^◌}
use Rattle.gf2.proofs.Sums.{⊕-zero}
use Rattle.gf2.proofs.Products.{one-⊗, ⊗_comm, ⊗_assoc, ⊗-pow}
use Rattle.gf2.proofs.Residues.{rem-⊗, rem_lt, rem-small, rem-append}

pub pow-zero : (a : ℕ) → a ⊗^ 0 ≡ 1
unfolding ◌⊗^◌
pow-zero a = refl

pub pow_step : (a n : ℕ) → a ⊗^ suc n ≡ a ⊗ a ⊗^ n
unfolding ◌⊗^◌
pow_step a n = refl

pub pow-add : (a m n : ℕ) → a ⊗^ (m + n) ≡ a ⊗^ m ⊗ a ⊗^ n
pow-add a zero n = rw (zero-add, pow-zero) (sym (one-⊗ (a ⊗^ n)))
pow-add a (suc m) n =
    rw (suc-add, pow_step a (m + n), pow_step a m, pow-add a m n) (sym (⊗_assoc a (a ⊗^ m) (a ⊗^ n)))

-- t^n is 2 ^ n
pub pow-t : (n : ℕ) → 2 ⊗^ n ≡ 2 ^ n
pow-t zero = pow-zero 2
pow-t (suc n) = rw (pow_step 2 n, pow-t n, ⊗_comm 2 (2 ^ n), pow-suc 2 n) (⊗-pow 1 (2 ^ n))

-- t^w to the power n
pub pow-word : (w n : ℕ) → (2 ^ w) ⊗^ n ≡ 2 ^ (w * n)
pow-word w zero = rw mul-zero (pow-zero (2 ^ w))
pow-word w (suc n) =
    pow_step (2 ^ w) n
    ∙ ap₂ (λ (x y : ℕ). x ⊗ y) (sym (pow-t w)) (pow-word w n ∙ sym (pow-t (w * n)))
    ∙ sym (pow-add 2 w (w * n))
    ∙ rw (mul-suc, add_comm (w * n) w) (pow-t (w + w * n))

module _ {p : ℕ} (pos : 0 < p) where
  pub rem-rem : (a : ℕ) → rem p (rem p a) ≡ rem p a
  rem-rem a = rem-small pos (rem p a) (rem_lt pos a)

  -- t^w times a residue
  pub rem_shl : (a w : ℕ) → rem p (rem p a * 2 ^ w) ≡ rem p (a * 2 ^ w)
  rem_shl a w = sym (ap (rem p) (sym (add-zero (a * 2 ^ w))) ∙ rem-append pos a w 0 (pow_pos w) ∙ ap (rem p) (⊕-zero (rem p a * 2 ^ w)))

  -- a residue may stand for what it is the residue of, with w coefficients more below
  pub rem-behind : (a w v : ℕ) → v < 2 ^ w → rem p (rem p a * 2 ^ w + v) ≡ rem p (a * 2 ^ w + v)
  rem-behind a w v h =
      rem-append pos (rem p a) w v h ∙ ap (λ (x : ℕ). rem p (x * 2 ^ w ⊕ v)) (rem-rem a) ∙ sym (rem-append pos a w v h)

  -- a factor may be reduced first
  pub rem-⊗-left : (a b : ℕ) → rem p (rem p a ⊗ b) ≡ rem p (a ⊗ b)
  rem-⊗-left a b = rem-⊗ pos (rem p a) b ∙ ap (λ (x : ℕ). rem p (x ⊗ rem p b)) (rem-rem a) ∙ sym (rem-⊗ pos a b)

  pub rem-⊗-right : (a b : ℕ) → rem p (a ⊗ rem p b) ≡ rem p (a ⊗ b)
  rem-⊗-right a b = ap (rem p) (⊗_comm a (rem p b)) ∙ rem-⊗-left b a ∙ ap (rem p) (⊗_comm b a)

  -- a power of t may be reduced first
  pub rem-⊗-pow : (a n : ℕ) → rem p (a ⊗ rem p (2 ^ n)) ≡ rem p (a * 2 ^ n)
  rem-⊗-pow a n = rem-⊗-right a (2 ^ n) ∙ ap (rem p) (⊗-pow n a)

  -- the base may be reduced first
  pub rem-pow : (a n : ℕ) → rem p (rem p a ⊗^ n) ≡ rem p (a ⊗^ n)
  rem-pow a zero = rw (pow-zero, pow-zero)
  rem-pow a (suc n) =
      rw (pow_step (rem p a) n, pow_step a n)
      (rem-⊗-left a (rem p a ⊗^ n) ∙ sym (rem-⊗-right a (rem p a ⊗^ n)) ∙ ap (λ (x : ℕ). rem p (a ⊗ x)) (rem-pow a n) ∙ rem-⊗-right a (a ⊗^ n))
