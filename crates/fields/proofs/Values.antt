-- Laws of the value p(e) of a polynomial at another, and of its residue `at f p e`.
use mathlib.Core.Path.{◌≡◌, refl, sym, ap, ap₂, ◌∙◌}
use Prim.Native.Nat.{ℕ, zero, suc, ◌*◌, ◌/◌, ◌%◌, ◌^◌, ◌≤◌, ◌<◌}
use native.Mathlib.Nat.{le_refl, not-suc-le-zero, one-mul, zero-mul, mul-one}
use native.Mathlib.Decide.{le_ind}
use lib.Arith.{half_le, bin_ind}
use Rattle.gf2.specs.Polynomials.{◌⊕◌, ◌⊗◌, degree, Divides, rem}
use Rattle.gf2.proofs.Sums.{⊕-zero, zero-⊕, ⊕-half}
use Rattle.gf2.proofs.Products.{zero-⊗, one-⊗, ⊗-step, ⊗-pow, by_bit, by_low, low-⊕, dbl_half, dbl_low, bit-square, ring}
use Rattle.gf2.proofs.Divisors.{dvd_by, dvd-zero, dvd-⊕, dvd-⊗}
use Rattle.gf2.proofs.Residues.{rem-⊕, rem-⊗, rem-small}
use Rattle.fields.specs.Fields.{terms, compose, at}

more : (n p e : ℕ) → p ≤ n → terms (suc n) p e ≡ terms n p e
unfolding terms
more zero zero e h = refl
more zero (suc p) e h = absurd (not-suc-le-zero h)
more (suc n) zero e h = refl
more (suc n) (suc p) e h = ap (λ (x : ℕ). x ⊗ e ⊕ suc p % 2) (more n (suc p / 2) e (half_le h))

enough : (n p e : ℕ) → p ≤ n → terms n p e ≡ terms p p e
enough n p e h = le_ind (λ (m : ℕ). terms m p e ≡ terms p p e) refl (λ m k q. more m p e k ∙ q) n h

pub compose-zero : (e : ℕ) → compose 0 e ≡ 0
unfolding compose terms
compose-zero e = refl

pub compose-step : (p e : ℕ) → compose p e ≡ compose (p / 2) e ⊗ e ⊕ p % 2
unfolding compose terms
compose-step zero e = sym (simp (zero-⊗, zero-⊕))
compose-step (suc p) e = ap (λ (x : ℕ). x ⊗ e ⊕ suc p % 2) (enough p (suc p / 2) e (half_le (le_refl (suc p))))

-- ---- one digit

low_sum : (a b : ℕ) → (a ⊕ b) % 2 ≡ a % 2 ⊕ b % 2
low_sum a b = simp mul-one at (low-⊕ a b 1)

-- ---- the laws

pub compose-one : (e : ℕ) → compose 1 e ≡ 1
compose-one e = compose-step 1 e ∙ rw (compose-zero, zero-⊗) (zero-⊕ 1)

pub compose-two : (e : ℕ) → compose 2 e ≡ e
compose-two e = compose-step 2 e ∙ rw (compose-one, one-⊗) (⊕-zero e)

pub compose_id : (p : ℕ) → compose p 2 ≡ p
compose_id =
    bin_ind (λ (n : ℕ). compose n 2 ≡ n) (compose-zero 2)
    (λ n ih. compose-step n 2 ∙ rw (ih, ⊗-pow 1 (n / 2)) (by_low n))

sum_step : (x y e a b : ℕ) → (x ⊕ y) ⊗ e ⊕ (a ⊕ b) ≡ x ⊗ e ⊕ a ⊕ (y ⊗ e ⊕ b)
sum_step x y e a b = simp ring

pub compose-⊕ : (a b e : ℕ) → compose (a ⊕ b) e ≡ compose a e ⊕ compose b e
compose-⊕ a b e =
    bin_ind (λ (n : ℕ). (m : ℕ) → compose (n ⊕ m) e ≡ compose n e ⊕ compose m e) (λ m. simp (zero-⊕, compose-zero))
    (λ n ih m. rw (compose-step (n ⊕ m) e, compose-step n e, compose-step m e, ⊕-half n m, low_sum n m, ih (m / 2))
    (sum_step (compose (n / 2) e) (compose (m / 2) e) e (n % 2) (m % 2))) a b

compose_dbl : (a e : ℕ) → compose (a * 2) e ≡ compose a e ⊗ e
compose_dbl a e = compose-step (a * 2) e ∙ rw (dbl_half a, dbl_low a) (⊕-zero (compose a e ⊗ e))

compose-bit : (a b e : ℕ) → compose (a % 2 * b) e ≡ a % 2 ⊗ compose b e
compose-bit a b e =
    by_bit (λ (x : ℕ). compose (x * b) e ≡ x ⊗ compose b e) (simp (zero-mul, compose-zero, zero-⊗)) (simp (one-mul, one-⊗)) a

product-step : (x y e c : ℕ) → x ⊗ y ⊗ e ⊕ c ⊗ y ≡ (x ⊗ e ⊕ c) ⊗ y
product-step x y e c = simp ring

pub compose-⊗ : (a b e : ℕ) → compose (a ⊗ b) e ≡ compose a e ⊗ compose b e
compose-⊗ a b e =
    bin_ind (λ (n : ℕ). compose (n ⊗ b) e ≡ compose n e ⊗ compose b e) (simp (zero-⊗, compose-zero))
    (λ n ih. ap (λ (x : ℕ). compose x e) (⊗-step n b) ∙ compose-⊕ (n / 2 ⊗ b * 2) (n % 2 * b) e
    ∙ ap₂ (λ (x y : ℕ). x ⊕ y) (compose_dbl (n / 2 ⊗ b) e ∙ ap (λ (x : ℕ). x ⊗ e) ih) (compose-bit n b e)
    ∙ product-step (compose (n / 2) e) (compose b e) e (n % 2) ∙ ap (λ (x : ℕ). x ⊗ compose b e) (sym (compose-step n e))) a

-- Frobenius: squaring is linear, and passes through a polynomial
square-step : (x e c : ℕ) → c ⊗ c ≡ c → x ⊗ x ⊗ (e ⊗ e) ⊕ c ≡ (x ⊗ e ⊕ c) ⊗ (x ⊗ e ⊕ c)
square-step x e c h = ap (λ (z : ℕ). x ⊗ x ⊗ (e ⊗ e) ⊕ z) (sym h) ∙ expand
  where
    expand : x ⊗ x ⊗ (e ⊗ e) ⊕ c ⊗ c ≡ (x ⊗ e ⊕ c) ⊗ (x ⊗ e ⊕ c)
    expand = simp ring

pub compose-square : (p e : ℕ) → compose p (e ⊗ e) ≡ compose p e ⊗ compose p e
compose-square p e =
    bin_ind (λ (n : ℕ). compose n (e ⊗ e) ≡ compose n e ⊗ compose n e) (simp (zero-⊗, compose-zero))
    (λ n ih. rw (compose-step n (e ⊗ e), compose-step n e, ih) (square-step (compose (n / 2) e) e (n % 2) (bit-square n))) p

cong_step : (x y a b c : ℕ) → a ⊗ (x ⊕ y) ⊕ y ⊗ (a ⊕ b) ≡ x ⊗ a ⊕ c ⊕ (y ⊗ b ⊕ c)
cong_step x y a b c = simp ring

-- what is equal modulo f may stand for one another
pub compose_cong : (f p a b : ℕ) → Divides f (a ⊕ b) → Divides f (compose p a ⊕ compose p b)
compose_cong f p a b h =
    bin_ind (λ (n : ℕ). Divides f (compose n a ⊕ compose n b)) (dvd_by (dvd-zero f) (sym (simp (compose-zero, zero-⊕))))
    (λ n ih. rw (compose-step n a, compose-step n b)
    (dvd_by (dvd-⊕ (dvd-⊗ a ih) (dvd-⊗ (compose (n / 2) b) h)) (cong_step (compose (n / 2) a) (compose (n / 2) b) a b (n % 2)))) p

-- ---- residues modulo f

module _ {f : ℕ} (pos : 0 < f) where
  pub at-⊕ : (p q e : ℕ) → at f (p ⊕ q) e ≡ at f p e ⊕ at f q e
  unfolding at
  at-⊕ p q e = ap (rem f) (compose-⊕ p q e) ∙ rem-⊕ pos (compose p e) (compose q e)

  -- the powers of e: t^0, and one more each time
  pub at_one : (e : ℕ) → 1 < 2 ^ degree f → at f 1 e ≡ 1
  unfolding at
  at_one e o = ap (rem f) (compose-one e) ∙ rem-small pos 1 o

  pub at_dbl : (p e : ℕ) → e < 2 ^ degree f → at f (p * 2) e ≡ rem f (at f p e ⊗ e)
  unfolding at
  at_dbl p e h =
      ap (rem f) (compose_dbl p e) ∙ rem-⊗ pos (compose p e) e ∙ ap (λ (x : ℕ). rem f (rem f (compose p e) ⊗ x)) (rem-small pos e h)
