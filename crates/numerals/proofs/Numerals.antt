-- The fewest digits that hold a number are its numeral; the digit 1 in front of a word of sixteen.
use mathlib.Core.Path.{◌≡◌, refl, sym, ap, ◌∙◌}
use mathlib.Core.List.{List, [], ◌∷◌, ◌++◌}
use Prim.Native.Nat.{ℕ, zero, suc, ◌+◌, ◌-◌, ◌/◌, ◌%◌, ◌^◌, ◌≤◌, ◌<◌}
use native.Mathlib.Nat.{le_refl, one-mul, mul-le-mul_right, mod-eq_of_lt, pow-zero, pow-suc, one-le-pow, pow-le-pow_right}
use native.Mathlib.Nat.{div-lt_iff_lt-mul, le-div_iff_mul-le, div-lt_self}
use native.Mathlib.Decide.{dec_lt}
use native.Mathlib.Omega.{arith}
use lib.Dec.{lit<}
use borrow.Author.Tests.{lt-ltb, le-ltb}
use Rattle.io.specs.Digits.{hex_digit_ascii, last_digits, IsDigitCount}
use Rattle.gf2.specs.Polynomials.{monic}
use Rattle.gf2.proofs.Steps.{less_one}
use Rattle.numerals.specs.Numerals.{digits_of, numeral}

module _ (b : ℕ) (two : 1 < b) where
  -- a power above the first is no smaller than the base
  base_le : (j : ℕ) → b ≤ b ^ suc j
  base_le j = let p : 1 ≤ b ^ j = one-le-pow j b (omega arith) in rw pow-suc (rw one-mul at (mul-le-mul_right b p))

  pos_base : 0 < b
  pos_base = omega arith

  -- a number below the base has one digit, any other has more
  single : (n j : ℕ) → n < b → IsDigitCount b 1 n (suc j) → j ≡ 0
  single n zero l h = refl
  single n (suc j) l h =
      let q : b ^ suc j ≤ n = rw (less_one (suc j)) at (h.2 (omega arith)) in
      absurd (omega (arith, base_le j))

  several : (n j : ℕ) → b ≤ n → IsDigitCount b 1 n (suc j) → 0 < j
  several n zero l h = let e : b ^ 1 ≡ b = pow-suc b 0 ∙ simp (pow-zero, one-mul) in absurd (omega (arith, h.1))
  several n (suc j) l h = omega arith

  -- the digits above the last
  above : (n j : ℕ) → b ≤ n → IsDigitCount b 1 n (suc j) → IsDigitCount b 1 (n / b) j
  above n j l h = (pos, (div-lt_iff_lt-mul pos_base).1 (rw pow-suc at h.1), low j h)
    where
      pos : 0 < j
      pos = several n j l h

      low : (j : ℕ) → IsDigitCount b 1 n (suc j) → 1 < j → b ^ (j - 1) ≤ n / b
      low zero h m = absurd (omega arith)
      low (suc j) h m =
          let q : b ^ suc j ≤ n = rw (less_one (suc j)) at (h.2 (omega arith)) in
          rw less_one ((le-div_iff_mul-le pos_base).1 (rw pow-suc at q))

  step : (s n j : ℕ) → n ≤ suc s → IsDigitCount b 1 n (suc j) → Dec (n < b)
      → (n / b ≤ s → IsDigitCount b 1 (n / b) j → last_digits b j (n / b) ≡ digits_of s b (n / b))
      → last_digits b (suc j) n ≡ digits_of (suc s) b n
  unfolding digits_of
  step s n j l h (yes q) ih = rw (lt-ltb n b q, single n j q h, mod-eq_of_lt q)
  step s n j l h (no q) ih =
      let m : b ≤ n = omega arith in
      let d : n / b < n = div-lt_self (omega arith) two in
      rw (le-ltb n b m, ih (omega arith) (above n j m h))

  fewest : (s n k : ℕ) → n ≤ s → IsDigitCount b 1 n k → last_digits b k n ≡ digits_of s b n
  unfolding digits_of
  fewest s n zero l h = absurd (omega (arith, h.0))
  fewest zero n (suc j) l h = rw (single n j (omega arith) h)
  fewest (suc s) n (suc j) l h = step s n j l h (dec_lt n b) (λ m f. fewest s (n / b) j m f)

  -- no more digits than any count that holds the number, if it is not below the least
  pub fewest-le : (least s n k : ℕ) → least ≤ s → n < b ^ s → IsDigitCount b least n k → k ≤ s
  fewest-le least s n k p l h = go (dec_lt s k)
    where
      go : Dec (s < k) → k ≤ s
      go (yes q) =
          let m : s ≤ k - 1 = omega arith in
          let w : b ^ s ≤ b ^ (k - 1) = pow-le-pow_right pos_base m in
          let v : b ^ (k - 1) ≤ n = h.2 (omega arith) in
          absurd (omega arith)
      go (no q) = omega arith

  pub numeral-is : (n k : ℕ) → IsDigitCount b 1 n k → last_digits b k n ≡ numeral b n
  unfolding numeral
  numeral-is n k h = fewest n n k (le_refl n) h

top_one : (k w : ℕ) → w < 16 ^ k → last_digits 16 (suc k) (16 ^ k + w) ≡ 49 ∷ last_digits 16 k w
top_one zero w l = let e : w ≡ 0 = omega arith in rw e
top_one (suc k) w l =
    let d : (16 ^ suc k + w) / 16 ≡ 16 ^ k + w / 16 = omega (arith, pow-suc 16 k) in
    let m : (16 ^ suc k + w) % 16 ≡ w % 16 = omega (arith, pow-suc 16 k) in
    rw (d, m) (ap (λ (xs : List ℕ). xs ++ hex_digit_ascii (w % 16) ∷ []) (top_one k (w / 16) (omega (arith, pow-suc 16 k))))

-- the polynomial of a key of degree 64
pub numeral_64 : (w : ℕ) → w < 2 ^ 64 → 49 ∷ last_digits 16 16 w ≡ numeral 16 (monic 64 w)
unfolding monic
numeral_64 w l = sym (top_one 16 w l) ∙ numeral-is 16 (omega arith) (2 ^ 64 + w) 17 (omega arith, omega arith, λ m. omega arith)

-- all sixteen digits of a word
pub all_sixteen : (w : ℕ) → w < 2 ^ 64 → {k : ℕ} → IsDigitCount 16 16 w k → k ≡ 16
all_sixteen w fits {k} few = omega (arith, few.0, fewest-le 16 (lit< tt) 16 16 w k (omega arith) fits few)
