-- Laws of the degree: `Degree n d` by one equation, which sums and products keep well, and `degree n`, which computes it.
use mathlib.Core.Path.{◌≡◌, refl, sym, ap, ◌∙◌}
use mathlib.Core.Logic.{◌⊎◌, inl, inr}
use Prim.Native.Nat.{ℕ, zero, suc, ◌+◌, ◌*◌, ◌/◌, ◌%◌, ◌^◌, ◌≤◌, ◌<◌, zero-le, suc-le-suc}
use native.Mathlib.Nat.{le_refl, le-suc, le_trans, le_of_eq, le_antisymm, le_of_suc-le-suc, le-add_left, lt_of_lt_of_le, lt_of_le_of_lt, not-le_of_lt}
use native.Mathlib.Nat.{zero-add, suc-add, zero-mul, one-mul, pow-suc, pow-succ', div-one, eq-zero-or-pos}
use native.Mathlib.Nat.{div-div-eq-div-mul, div-eq_of_lt, le-div_iff_mul-le, div-lt_iff_lt-mul}
use native.Mathlib.Decide.{dec_lt}
use native.Mathlib.Omega.{arith}
use lib.Arith.{half_le}
use lib.Pow.{pow_pos, pow_mono}
use Rattle.gf2.specs.Polynomials.{◌⊕◌, ◌⊗◌, halvings, degree}
use Rattle.gf2.specs.Degrees.{Degree}
use Rattle.gf2.proofs.Sums.{⊕-zero, ⊕_self, ⊕_shr}
use Rattle.gf2.proofs.Products.{⊗-step, zero-⊗, ⊗-zero, one-⊗, by_bit}

-- ---- as an order: 2 ^ d ≤ n < 2 ^ (d + 1)

pub deg-lo : (n d : ℕ) → Degree n d → 2 ^ d ≤ n
deg-lo n d h = rw one-mul at ((le-div_iff_mul-le (pow_pos d)).0 (le_of_eq (sym h)))

pub deg_hi : (n d : ℕ) → Degree n d → n < 2 ^ suc d
deg_hi n d h = rw pow-succ' ((div-lt_iff_lt-mul (pow_pos d)).0 (suc-le-suc (le_of_eq h)))

pub deg_intro : (n d : ℕ) → 2 ^ d ≤ n → n < 2 ^ suc d → Degree n d
deg_intro n d l h =
    le_antisymm (le_of_suc-le-suc ((div-lt_iff_lt-mul (pow_pos d)).1 (rw pow-succ' at h)))
    ((le-div_iff_mul-le (pow_pos d)).1 (rw one-mul l))

pub deg-pos : (n d : ℕ) → Degree n d → 0 < n
deg-pos n d h = le_trans (pow_pos d) (deg-lo n d h)

pub lt_of_pow-lt : (d e : ℕ) → 2 ^ d < 2 ^ e → d < e
lt_of_pow-lt d e h = go (dec_lt d e)
  where
    go : Dec (d < e) → d < e
    go (yes l) = l
    go (no n) = absurd (not-le_of_lt h (pow_mono {i = e} {j = d} (omega arith)))

-- the larger number has no smaller degree
pub deg_mono : (m n d e : ℕ) → Degree m d → Degree n e → m ≤ n → d ≤ e
deg_mono m n d e h k l =
    le_of_suc-le-suc (lt_of_pow-lt d (suc e) (lt_of_le_of_lt (le_trans (deg-lo m d h) l) (deg_hi n e k)))

pub deg_unique : (n d e : ℕ) → Degree n d → Degree n e → d ≡ e
deg_unique n d e h k = le_antisymm (deg_mono n n d e h k (le_refl n)) (deg_mono n n e d k h (le_refl n))

pub deg-le : (n d k : ℕ) → Degree n d → n < 2 ^ k → d < k
deg-le n d k h l = lt_of_pow-lt d k (lt_of_le_of_lt (deg-lo n d h) l)

-- ---- one digit more, one digit less

pub half_lt : (n d : ℕ) → n < 2 ^ suc d → n / 2 < 2 ^ d
half_lt n d l = (div-lt_iff_lt-mul (le-suc 1)).1 (rw pow-suc at l)

pub half_pow : (n d : ℕ) → n / 2 ^ suc d ≡ n / 2 / 2 ^ d
half_pow n d = ap (λ (x : ℕ). n / x) (pow-succ' 2 d) ∙ sym (div-div-eq-div-mul n 2 (2 ^ d))

pub deg-half : (n d : ℕ) → Degree n (suc d) → Degree (n / 2) d
deg-half n d h = sym (half_pow n d) ∙ h

pub deg_dbl : (n d : ℕ) → Degree n d → Degree (n * 2) (suc d)
deg_dbl n d h = half_pow (n * 2) d ∙ ap (λ (x : ℕ). x / 2 ^ d) half ∙ h
  where
    half : n * 2 / 2 ≡ n
    half = omega arith

pub deg-zero : (n : ℕ) → Degree n 0 → n ≡ 1
deg-zero n h = sym (div-one n) ∙ h

-- ---- sums and products

pub deg-⊕ : (a b d : ℕ) → Degree a d → b < 2 ^ d → Degree (a ⊕ b) d
deg-⊕ a b d h l = ⊕_shr d a b ∙ rw (h, div-eq_of_lt l) (⊕-zero 1)

pub lt_of_high : (n d : ℕ) → n / 2 ^ d ≡ 0 → n < 2 ^ d
lt_of_high n d h = rw one-mul at ((div-lt_iff_lt-mul (pow_pos d)).0 (suc-le-suc (le_of_eq h)))

-- the highest ones cancel
pub deg-cancel : (a b d : ℕ) → Degree a d → Degree b d → a ⊕ b < 2 ^ d
deg-cancel a b d h k = lt_of_high (a ⊕ b) d (⊕_shr d a b ∙ rw (h, k) (⊕_self 1))

bit-mul-le : (a b : ℕ) → a % 2 * b ≤ b
bit-mul-le a b = by_bit (λ (x : ℕ). x * b ≤ b) (rw zero-mul zero-le) (rw one-mul (le_refl b)) a

pub deg-⊗ : (a b d e : ℕ) → Degree a d → Degree b e → Degree (a ⊗ b) (d + e)
deg-⊗ a b zero e h k = rw (deg-zero a h, one-⊗, zero-add) k
deg-⊗ a b (suc d) e h k =
    rw (suc-add, ⊗-step a b)
    (deg-⊕ (a / 2 ⊗ b * 2) (a % 2 * b) (suc (d + e))
    (deg_dbl (a / 2 ⊗ b) (d + e) (deg-⊗ (a / 2) b d e (deg-half a d h) k))
    (lt_of_le_of_lt (bit-mul-le a b) (lt_of_lt_of_le (deg_hi b e k) (pow_mono (suc-le-suc (le-add_left e d))))))

-- ---- the degree, computed

halvings-is : (n a : ℕ) → 0 < a → a ≤ n → Degree a (halvings n a)
unfolding halvings
halvings-is zero zero p h = absurd (omega arith)
halvings-is zero (suc a) p h = absurd (omega arith)
halvings-is (suc n) zero p h = absurd (omega arith)
halvings-is (suc n) (suc zero) p h = refl
halvings-is (suc n) (suc (suc a)) p h =
    half_pow (suc (suc a)) (halvings n (suc (suc a) / 2)) ∙ halvings-is n (suc (suc a) / 2) (omega arith) (half_le h)

pub degree-is : (a : ℕ) → 0 < a → Degree a (degree a)
unfolding degree
degree-is a p = halvings-is a a p (le_refl a)

pub degree-eq : (a d : ℕ) → Degree a d → degree a ≡ d
degree-eq a d h = deg_unique a (degree a) d (degree-is a (deg-pos a d h)) h

pub degree-from : (d a : ℕ) → 2 ^ d ≤ a → d ≤ degree a
degree-from d a l = le_of_suc-le-suc (lt_of_pow-lt d (suc (degree a)) (lt_of_le_of_lt l (deg_hi a (degree a) (degree-is a (le_trans (pow_pos d) l)))))

pub pos-⊗ : (a b : ℕ) → 0 < a → 0 < b → 0 < a ⊗ b
pos-⊗ a b p q = deg-pos (a ⊗ b) (degree a + degree b) (deg-⊗ a b (degree a) (degree b) (degree-is a p) (degree-is b q))

pub degree-⊗ : (a b : ℕ) → 0 < a → 0 < b → degree (a ⊗ b) ≡ degree a + degree b
degree-⊗ a b p q = degree-eq (a ⊗ b) (degree a + degree b) (deg-⊗ a b (degree a) (degree b) (degree-is a p) (degree-is b q))

-- a product has as many places as its factors together, less one
pub ⊗-lt : (a b m n : ℕ) → a < 2 ^ m → b < 2 ^ suc n → a ⊗ b < 2 ^ (m + n)
⊗-lt a b m n ha hb = go (eq-zero-or-pos a) (eq-zero-or-pos b)
  where
    go : (a ≡ 0) ⊎ (0 < a) → (b ≡ 0) ⊎ (0 < b) → a ⊗ b < 2 ^ (m + n)
    go (inl p) y = rw (p, zero-⊗) (pow_pos (m + n))
    go (inr p) (inl q) = rw (q, ⊗-zero) (pow_pos (m + n))
    go (inr p) (inr q) =
        let d = deg-le a (degree a) m (degree-is a p) ha in
        let e = deg-le b (degree b) (suc n) (degree-is b q) hb in
        lt_of_lt_of_le (deg_hi (a ⊗ b) (degree a + degree b) (deg-⊗ a b (degree a) (degree b) (degree-is a p) (degree-is b q)))
        (pow_mono (omega arith))

-- no zero divisors
pub ⊗_no_zero : (a b : ℕ) → a ⊗ b ≡ 0 → (a ≡ 0) ⊎ (b ≡ 0)
⊗_no_zero a b e = go (eq-zero-or-pos a) (eq-zero-or-pos b)
  where
    go : (a ≡ 0) ⊎ (0 < a) → (b ≡ 0) ⊎ (0 < b) → (a ≡ 0) ⊎ (b ≡ 0)
    go (inl p) y = inl p
    go (inr p) (inl q) = inr q
    go (inr p) (inr q) = absurd (omega (arith, pos-⊗ a b p q))
