-- Laws of the residue: `rem_lt` and `rem-dvd` say what it is, `rem_unique` that nothing else is that, and the others follow.
use mathlib.Core.Path.{◌≡◌, refl, sym, ap, ◌∙◌}
use mathlib.Core.Logic.{◌⊎◌, inl, inr}
use Prim.Native.Nat.{ℕ, zero, suc, ◌+◌, ◌*◌, ◌/◌, ◌%◌, ◌^◌, ◌≤◌, ◌<◌}
use native.Mathlib.Nat.{le_refl, not-suc-le-zero, zero-mul, one-mul, zero-div, div-lt_iff_lt-mul, pow-suc, pow-succ'}
use native.Mathlib.Decide.{le_ind}
use native.Mathlib.Omega.{arith}
use lib.Arith.{half_le, bin_ind}
use lib.Pow.{pow_pos}
use Rattle.gf2.specs.Polynomials.{◌⊕◌, ◌⊗◌, degree, reduce, long_division, rem, Divides, RemIs}
use Rattle.gf2.specs.Degrees.{Degree}
use Rattle.gf2.proofs.Sums.{⊕-zero, zero-⊕, ⊕-bit, ⊕-append, ⊕-lt, ⊕-eq, ⊕_shl, ⊕_dbl, xor}
use Rattle.gf2.proofs.Products.{zero-⊗, one-⊗, dbl_⊗, ⊗-pow, ⊗_comm, by_low, mod_2, bit-cases, ring}
use Rattle.gf2.proofs.Degrees.{degree-is, deg-cancel, lt_of_high}
use Rattle.gf2.proofs.Divisors.{dvd_by, dvd-left, dvd-zero, dvd-⊕, dvd-⊗, dvd-small}

more : (p k n a : ℕ) → a ≤ n → long_division p k (suc n) a ≡ long_division p k n a
unfolding long_division
more p k zero zero h = refl
more p k zero (suc a) h = absurd (not-suc-le-zero h)
more p k (suc n) zero h = refl
more p k (suc n) (suc a) h = ap (λ (x : ℕ). reduce p k (x * 2 + suc a % 2)) (more p k n (suc a / 2) (half_le h))

enough : (p k n a : ℕ) → a ≤ n → long_division p k n a ≡ long_division p k a a
enough p k n a h = le_ind (λ (m : ℕ). long_division p k m a ≡ long_division p k a a) refl (λ m l e. more p k m a l ∙ e) n h

pub rem-zero : (p : ℕ) → rem p 0 ≡ 0
unfolding rem long_division
rem-zero p = refl

pub rem-step : (p a : ℕ) → rem p a ≡ reduce p (degree p) (rem p (a / 2) * 2 + a % 2)
unfolding rem long_division reduce
rem-step p zero = sym (rw (zero-div, zero-mul) (zero-⊕ 0))
rem-step p (suc a) =
    ap (λ (x : ℕ). reduce p (degree p) (x * 2 + suc a % 2)) (enough p (degree p) a (suc a / 2) (half_le (le_refl (suc a))))

-- ---- one step

bit-mul : (c p : ℕ) → c < 2 → c * p ≡ c ⊗ p
bit-mul c p h = go (bit-cases c h)
  where
    go : (c ≡ 0) ⊎ (c ≡ 1) → c * p ≡ c ⊗ p
    go (inl e) = rw (e, zero-⊗) (zero-mul p)
    go (inr e) = rw (e, one-⊗) (one-mul p)

module _ (p k s : ℕ) (hp : Degree p k) (hs : s < 2 ^ suc k) where
  high_bit : s / 2 ^ k < 2
  high_bit = (div-lt_iff_lt-mul (pow_pos k)).1 (rw pow-succ' at hs)

  reduce-lt : reduce p k s < 2 ^ k
  unfolding reduce
  reduce-lt = go (bit-cases (s / 2 ^ k) high_bit)
    where
      go : (s / 2 ^ k ≡ 0) ⊎ (s / 2 ^ k ≡ 1) → s / 2 ^ k * p ⊕ s < 2 ^ k
      go (inl e) = rw (e, zero-mul, zero-⊕) (lt_of_high s k e)
      go (inr e) = rw (e, one-mul) (deg-cancel p s k hp e)

  reduce-dvd : Divides p (s ⊕ reduce p k s)
  unfolding reduce
  reduce-dvd = dvd_by (dvd-left (s / 2 ^ k) p) (rw (← (bit-mul (s / 2 ^ k) p high_bit)) (simp xor))

-- ---- what the residue is

append-lt : (r c k : ℕ) → r < 2 ^ k → c < 2 → r * 2 + c < 2 ^ suc k
append-lt r c k h l = rw pow-suc (omega arith)

two-⊗ : (x : ℕ) → 2 ⊗ x ≡ x * 2
two-⊗ x = dbl_⊗ 1 x ∙ ap (λ (y : ℕ). y * 2) (one-⊗ x)

append-eq : (n r t : ℕ) → 2 ⊗ (n / 2 ⊕ r) ⊕ (r * 2 + n % 2 ⊕ t) ≡ n ⊕ t
append-eq n r t = rw (two-⊗, ⊕_dbl, ← (⊕-bit r (n % 2) (mod_2 n))) (sorted ∙ ap (λ (x : ℕ). x ⊕ t) (by_low n))
  where
    sorted : n / 2 * 2 ⊕ r * 2 ⊕ (r * 2 ⊕ n % 2 ⊕ t) ≡ n / 2 * 2 ⊕ n % 2 ⊕ t
    sorted = simp xor

module _ {p : ℕ} (pos : 0 < p) where
  pub rem_lt : (a : ℕ) → rem p a < 2 ^ degree p
  rem_lt =
      bin_ind (λ (n : ℕ). rem p n < 2 ^ degree p) (rw rem-zero (pow_pos (degree p)))
      (λ n ih. rw (rem-step p n)
      (reduce-lt p (degree p) (rem p (n / 2) * 2 + n % 2) (degree-is p pos) (append-lt (rem p (n / 2)) (n % 2) (degree p) ih (mod_2 n))))

  pub rem-dvd : (a : ℕ) → Divides p (a ⊕ rem p a)
  rem-dvd =
      bin_ind (λ (n : ℕ). Divides p (n ⊕ rem p n)) (dvd_by (dvd-zero p) (simp (rem-zero, zero-⊕)))
      (λ n ih. rw (rem-step p n)
      (dvd_by (dvd-⊕ (dvd-⊗ 2 ih)
      (reduce-dvd p (degree p) (rem p (n / 2) * 2 + n % 2) (degree-is p pos) (append-lt (rem p (n / 2)) (n % 2) (degree p) (rem_lt (n / 2)) (mod_2 n))))
      (append-eq n (rem p (n / 2)) (reduce p (degree p) (rem p (n / 2) * 2 + n % 2)))))

  pub rem_unique : (a r : ℕ) → r < 2 ^ degree p → Divides p (a ⊕ r) → rem p a ≡ r
  rem_unique a r l h =
      ⊕-eq (rem p a) r
      (dvd-small (degree p) (degree-is p pos) (dvd_by (dvd-⊕ (rem-dvd a) h) (simp xor)) (⊕-lt (degree p) (rem p a) r (rem_lt a) l))

  -- ---- laws

  pub rem-small : (a : ℕ) → a < 2 ^ degree p → rem p a ≡ a
  rem-small a l = rem_unique a a l (dvd_by (dvd-zero p) (simp xor))

  pub rem_cong : (a b : ℕ) → Divides p (a ⊕ b) → rem p a ≡ rem p b
  rem_cong a b h = rem_unique a (rem p b) (rem_lt b) (dvd_by (dvd-⊕ h (rem-dvd b)) (simp xor))

  pub dvd_of_rem : (a b : ℕ) → rem p a ≡ rem p b → Divides p (a ⊕ b)
  dvd_of_rem a b e = dvd_by (dvd-⊕ (rem-dvd a) (rem-dvd b)) (rw e (simp xor))

  pub rem-⊕ : (a b : ℕ) → rem p (a ⊕ b) ≡ rem p a ⊕ rem p b
  rem-⊕ a b =
      rem_unique (a ⊕ b) (rem p a ⊕ rem p b) (⊕-lt (degree p) (rem p a) (rem p b) (rem_lt a) (rem_lt b))
      (dvd_by (dvd-⊕ (rem-dvd a) (rem-dvd b)) (simp xor))

  pub rem-⊗ : (a b : ℕ) → rem p (a ⊗ b) ≡ rem p (rem p a ⊗ rem p b)
  rem-⊗ a b =
      rem_cong (a ⊗ b) (rem p a ⊗ rem p b)
      (dvd_by (dvd-⊕ (dvd-⊗ b (rem-dvd a)) (dvd-⊗ (rem p a) (rem-dvd b))) (simp ring))

  -- w coefficients more, appended below
  pub rem-append : (a w v : ℕ) → v < 2 ^ w → rem p (a * 2 ^ w + v) ≡ rem p (rem p a * 2 ^ w ⊕ v)
  rem-append a w v h =
      ap (rem p) (sym (⊕-append a w v h))
      ∙ rem_cong (a * 2 ^ w ⊕ v) (rem p a * 2 ^ w ⊕ v)
      (dvd_by (dvd-⊗ (2 ^ w) (rem-dvd a)) (⊗_comm (2 ^ w) (a ⊕ rem p a) ∙ ⊗-pow w (a ⊕ rem p a) ∙ ⊕_shl w a (rem p a) ∙ simp xor))

  pub rem_of_dvd : (a : ℕ) → Divides p a → rem p a ≡ 0
  rem_of_dvd a h = rem_unique a 0 (pow_pos (degree p)) (dvd_by h (sym (⊕-zero a)))

  pub dvd_of_rem-zero : (a : ℕ) → rem p a ≡ 0 → Divides p a
  dvd_of_rem-zero a e = dvd_by (rem-dvd a) (rw e (⊕-zero a))

-- the residue is the one number that is below 2^k and differs by a multiple of p
pub rem_is : RemIs
rem_is p pos a r = (λ e. rw (← e) (rem_lt pos a, rem-dvd pos a), λ h. rem_unique pos a r h.0 h.1)
