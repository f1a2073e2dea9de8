-- What the code computes modulo t^k with the coefficients `low` below it: one bit behind a residue, a product and a power bit by bit.
use mathlib.Core.Path.{◌≡◌, sym, ap, ap₂, ◌∙◌}
use mathlib.Core.Bool.{◌||◌}
use mathlib.Core.Logic.{◌⊎◌, inl, inr}
use Prim.Native.Nat.{ℕ, zero, suc, ◌+◌, ◌-◌, ◌*◌, ◌/◌, ◌%◌, ◌^◌, ◌≤◌, ◌<◌, zero-le}
use native.Mathlib.Nat.{le_refl, lt_of_lt_of_le, div-eq_of_lt, one-mul, zero-mul, mul-one, mul-zero, mod-lt}
use native.Mathlib.Nat.{pow-suc, pow-succ', add-zero, div-lt_iff_lt-mul, div-div-eq-div-mul}
use native.Mathlib.Numerals.{add-one, one-add}
use native.Mathlib.Decide.{dec_lt}
use native.Mathlib.Omega.{arith}
use lib.Bits.{bit_or, or_lt, or_add_and, and_le_l, and_le_r}
use lib.Dec.{leb, lit<}
use lib.Count.{count_leading_zeros, leading_length}
use lib.Pow.{pow_pos, pow_mono, pow-lt, split, shl_exact, high, low, mod-pow-add}
use borrow.Author.Tests.{le-leb, lt-leb}
use Rattle.gf2.specs.Polynomials.{◌⊕◌, monic, rem, ◌⊗◌, StepIs}
use Rattle.gf2.specs.Powers.{◌⊗^◌}
use Rattle.gf2.specs.Moduli.{polynomial, Proper}
use Rattle.gf2.specs.declared.Modulus.{Modulus}
use Rattle.gf2.proofs.Sums.{⊕-append, ⊕_comm}
use Rattle.gf2.proofs.Products.{⊗-zero, ⊗-⊕, ⊗_comm, ⊗-pow, shl_suc, bit-cases, by_bit}
use Rattle.gf2.proofs.Degrees.{half_pow}
use Rattle.gf2.proofs.Divisors.{dvd_by, dvd_refl}
use Rattle.gf2.proofs.Residues.{rem_lt, rem-zero, rem-small, rem_unique, rem-⊕, rem-⊗}
use Rattle.gf2.proofs.Powers.{pow-add, pow_step, rem_shl, rem-⊗-left}
use Rattle.gf2.proofs.Monics.{monic-⊕, monic-pos, monic-degree}

-- the power 2 ^ n as the code makes it, by a shift of 1 in 64 bits
pub shifted_one : (n : ℕ) → n < 64 → 1 * 2 ^ n % 2 ^ 64 ≡ 2 ^ n
shifted_one n h = shl_exact 1 n 64 (lit< tt) (omega arith) ∙ one-mul (2 ^ n)

-- numbers gathered by or reach 2 ^ n where one of them does
pub or_leb : (n a b : ℕ) → leb (2 ^ n) (bit_or a b) ≡ (leb (2 ^ n) a || leb (2 ^ n) b)
or_leb n a b = go (dec_lt a (2 ^ n)) (dec_lt b (2 ^ n))
  where
    go : Dec (a < 2 ^ n) → Dec (b < 2 ^ n) → leb (2 ^ n) (bit_or a b) ≡ (leb (2 ^ n) a || leb (2 ^ n) b)
    go (yes h) (yes l) = rw (lt-leb (2 ^ n) (bit_or a b) (or_lt n a b h l), lt-leb (2 ^ n) a h, lt-leb (2 ^ n) b l)
    go (yes h) (no l) = rw (le-leb (2 ^ n) (bit_or a b) (omega (arith, or_add_and a b, and_le_l a b)), lt-leb (2 ^ n) a h, le-leb (2 ^ n) b (omega arith))
    go (no h) l = rw (le-leb (2 ^ n) (bit_or a b) (omega (arith, or_add_and a b, and_le_r a b)), le-leb (2 ^ n) a (omega arith))

module _ (k c : ℕ) (h : c < 2 ^ k) where
  pub residue-lt : (x : ℕ) → rem (monic k c) x < 2 ^ k
  residue-lt x = rw (monic-degree k c h) at (rem_lt (monic-pos k c h) x)

  -- it fits a word of 64 bits
  pub residue-word : k ≤ 64 → (x : ℕ) → rem (monic k c) x < 2 ^ 64
  residue-word l x = lt_of_lt_of_le (residue-lt x) (pow_mono l)

  pub residue-small : (x : ℕ) → x < 2 ^ k → rem (monic k c) x ≡ x
  residue-small x l = rem-small (monic-pos k c h) x (rw (monic-degree k c h) l)

  -- what stands at t^k and above is reduced, what stands below stays
  pub residue-split : (x : ℕ) → rem (monic k c) x ≡ rem (monic k c) (x / 2 ^ k * 2 ^ k) ⊕ x % 2 ^ k
  residue-split x =
      ap (rem (monic k c)) (sym (⊕-append (x / 2 ^ k) k (x % 2 ^ k) (mod-lt x (pow_pos k)) ∙ split x k))
      ∙ rem-⊕ (monic-pos k c h) (x / 2 ^ k * 2 ^ k) (x % 2 ^ k)
      ∙ ap (λ (y : ℕ). rem (monic k c) (x / 2 ^ k * 2 ^ k) ⊕ y) (residue-small (x % 2 ^ k) (mod-lt x (pow_pos k)))

  -- t^k is c
  pub residue-top : rem (monic k c) (2 ^ k) ≡ c
  residue-top =
      rem_unique (monic-pos k c h) (2 ^ k) c (rw (monic-degree k c h) h) (dvd_by (dvd_refl (monic k c)) (monic-⊕ k c h))

  residue-top-bit : (b : ℕ) → b < 2 → rem (monic k c) (b * 2 ^ k) ≡ c * b
  residue-top-bit b l = go (bit-cases b l)
    where
      go : (b ≡ 0) ⊎ (b ≡ 1) → rem (monic k c) (b * 2 ^ k) ≡ c * b
      go (inl e) = rw (e, zero-mul, mul-zero) (rem-zero (monic k c))
      go (inr e) = rw (e, one-mul, mul-one) residue-top

pub residue-one : (p : Modulus) → Proper p → rem (polynomial p) 1 ≡ 1
residue-one p h = residue-small p.degree p.low h.2 1 (pow-lt h.0)

pub residue-below : (p : Modulus) → Proper p → (x z : ℕ) → x ≡ rem (polynomial p) z → x < 2 ^ p.degree
residue-below p h x z e = rw e (residue-lt p.degree p.low h.2 z)

pub less_one : (j : ℕ) → suc j - 1 ≡ j
less_one j = omega arith

-- ---- one bit behind a residue

-- the coefficient that falls out is a bit, and the others have room for one more
pub top_bit : (k f : ℕ) → 0 < k → f < 2 ^ k → f / 2 ^ (k - 1) < 2
top_bit zero f p l = absurd (omega arith)
top_bit (suc j) f p l = rw less_one ((div-lt_iff_lt-mul (pow_pos j)).1 (rw pow-succ' at l))

pub append-lt : (k f b : ℕ) → 0 < k → b < 2 → f % 2 ^ (k - 1) * 2 + b < 2 ^ k
append-lt zero f b p m = absurd (omega arith)
append-lt (suc j) f b p m = rw (less_one, pow-suc) (omega (arith, mod-lt f (pow_pos j)))

pub bit-mul-le : (c b : ℕ) → b < 2 → c * b ≤ c
bit-mul-le c b l = go (bit-cases b l)
  where
    go : (b ≡ 0) ⊎ (b ≡ 1) → c * b ≤ c
    go (inl e) = rw (e, mul-zero) zero-le
    go (inr e) = rw (e, mul-one) (le_refl c)

pub step_is : StepIs
step_is zero c f b p h l m = absurd (omega arith)
step_is (suc j) c f b p h l m =
    rw less_one
    (residue-split (suc j) c h (f * 2 + b)
    ∙ ap₂ (λ (x y : ℕ). rem (monic (suc j) c) (x * 2 ^ suc j) ⊕ y) above below
    ∙ ap (λ (x : ℕ). x ⊕ (f % 2 ^ j * 2 + b)) (residue-top-bit (suc j) c h (f / 2 ^ j) (rw less_one at (top_bit (suc j) f p l)))
    ∙ ⊕_comm (c * (f / 2 ^ j)) (f % 2 ^ j * 2 + b))
  where
    above : (f * 2 + b) / 2 ^ suc j ≡ f / 2 ^ j
    above = half_pow (f * 2 + b) j ∙ ap (λ (x : ℕ). x / 2 ^ j) (high f 1 m)

    below : (f * 2 + b) % 2 ^ suc j ≡ f % 2 ^ j * 2 + b
    below =
        ap (λ (n : ℕ). (f * 2 + b) % 2 ^ n) (sym (add-one j))
        ∙ mod-pow-add (f * 2 + b) j 1
        ∙ ap₂ (λ (x y : ℕ). x % 2 ^ j * 2 + y) (high f 1 m) (low f 1 m)

-- ---- a product and a power, bit by bit

-- one bit more of the second factor, from the lowest
pub ⊗-next : (a b i : ℕ) → a ⊗ (b % 2 ^ suc i) ≡ a ⊗ (b % 2 ^ i) ⊕ a * 2 ^ i * (b / 2 ^ i % 2)
⊗-next a b i =
    ap (λ (x : ℕ). a ⊗ x) bits
    ∙ ⊗-⊕ a (b / 2 ^ i % 2 * 2 ^ i) (b % 2 ^ i)
    ∙ ⊕_comm (a ⊗ (b / 2 ^ i % 2 * 2 ^ i)) (a ⊗ (b % 2 ^ i))
    ∙ ap (λ (x : ℕ). a ⊗ (b % 2 ^ i) ⊕ x) one_bit
  where
    bits : b % 2 ^ suc i ≡ b / 2 ^ i % 2 * 2 ^ i ⊕ b % 2 ^ i
    bits =
        ap (λ (n : ℕ). b % 2 ^ n) (sym (one-add i)) ∙ mod-pow-add b 1 i
        ∙ sym (⊕-append (b / 2 ^ i % 2) i (b % 2 ^ i) (mod-lt b (pow_pos i)))

    one_bit : a ⊗ (b / 2 ^ i % 2 * 2 ^ i) ≡ a * 2 ^ i * (b / 2 ^ i % 2)
    one_bit =
        by_bit (λ (x : ℕ). a ⊗ (x * 2 ^ i) ≡ a * 2 ^ i * x) (rw (zero-mul, ⊗-zero, mul-zero)) (rw (one-mul, ⊗-pow, mul-one)) (b / 2 ^ i)

module _ {p : ℕ} (pos : 0 < p) where
  -- its residue
  pub product-next : (a b i : ℕ) → rem p (a ⊗ (b % 2 ^ suc i)) ≡ rem p (a ⊗ (b % 2 ^ i)) ⊕ rem p (a * 2 ^ i) * (b / 2 ^ i % 2)
  product-next a b i =
      ap (rem p) (⊗-next a b i)
      ∙ rem-⊕ pos (a ⊗ (b % 2 ^ i)) (a * 2 ^ i * (b / 2 ^ i % 2))
      ∙ ap (λ (x : ℕ). rem p (a ⊗ (b % 2 ^ i)) ⊕ x) one_bit
    where
      one_bit : rem p (a * 2 ^ i * (b / 2 ^ i % 2)) ≡ rem p (a * 2 ^ i) * (b / 2 ^ i % 2)
      one_bit =
          by_bit (λ (x : ℕ). rem p (a * 2 ^ i * x) ≡ rem p (a * 2 ^ i) * x) (rw (mul-zero, rem-zero, mul-zero)) (rw (mul-one, mul-one)) (b / 2 ^ i)

  pub shift-next : (a i : ℕ) → rem p (rem p (a * 2 ^ i) * 2 + 0) ≡ rem p (a * 2 ^ suc i)
  shift-next a i = rw add-zero (rem_shl pos (a * 2 ^ i) 1 ∙ ap (rem p) (sym (shl_suc a i)))

  -- the square of a power, and one factor more where the exponent is odd
  pub power-even : (a q : ℕ) → (q % 2 ≡ 1 → ⊥) → rem p (rem p (a ⊗^ (q / 2)) ⊗ rem p (a ⊗^ (q / 2))) ≡ rem p (a ⊗^ q)
  power-even a q odd =
      sym (rem-⊗ pos (a ⊗^ (q / 2)) (a ⊗^ (q / 2)))
      ∙ ap (rem p) (sym (pow-add a (q / 2) (q / 2)))
      ∙ ap (λ (n : ℕ). rem p (a ⊗^ n)) twice
    where
      twice : q / 2 + q / 2 ≡ q
      twice = omega arith

  pub power-odd : (a q : ℕ) → q % 2 ≡ 1 → rem p (rem p (rem p (a ⊗^ (q / 2)) ⊗ rem p (a ⊗^ (q / 2))) ⊗ a) ≡ rem p (a ⊗^ q)
  power-odd a q odd =
      ap (λ (x : ℕ). rem p (x ⊗ a)) (sym (rem-⊗ pos (a ⊗^ (q / 2)) (a ⊗^ (q / 2))) ∙ ap (rem p) (sym (pow-add a (q / 2) (q / 2))))
      ∙ rem-⊗-left pos (a ⊗^ (q / 2 + q / 2)) a
      ∙ ap (rem p) (⊗_comm (a ⊗^ (q / 2 + q / 2)) a ∙ sym (pow_step a (q / 2 + q / 2)))
      ∙ ap (λ (n : ℕ). rem p (a ⊗^ n)) twice
    where
      twice : suc (q / 2 + q / 2) ≡ q
      twice = omega arith

-- the bits of an exponent from the highest
pub no_bits : (n : ℕ) → n < 2 ^ 64 → n / 2 ^ (64 - count_leading_zeros 64 n) ≡ 0
no_bits n h =
    let t = leading_length 64 n h in
    let e : t.0 ≡ 64 - count_leading_zeros 64 n = omega (arith, t.1) in
    div-eq_of_lt (rw e at t.2)

pub next-bits : (n i : ℕ) → 0 < i → n / 2 ^ (i - 1) / 2 ≡ n / 2 ^ i
next-bits n zero h = absurd (omega arith)
next-bits n (suc j) h = rw less_one (div-div-eq-div-mul n (2 ^ j) 2 ∙ ap (λ (x : ℕ). n / x) (sym (pow-suc 2 j)))

-- ---- one turn of the loops

module _ {p : ℕ} (pos : 0 < p) where
  -- a product: one bit more of the second factor
  pub sum-next : (a b i sum shifted : ℕ) → shifted ≡ rem p (a * 2 ^ i) → sum ≡ rem p (a ⊗ (b % 2 ^ i))
      → sum ⊕ shifted * (b / 2 ^ i % 2) ≡ rem p (a ⊗ (b % 2 ^ (i + 1)))
  sum-next a b i sum shifted e d = rw (add-one, e, d) (sym (product-next pos a b i))

  -- a power: one bit more of the exponent, which is 0, or 1
  module _ (a n i x y : ℕ) (more : 0 < i) (e : x ≡ rem p (a ⊗^ (n / 2 ^ i))) (square : y ≡ rem p (x ⊗ x)) where
    pub square-next : (n / 2 ^ (i - 1) % 2 ≡ 1 → ⊥) → y ≡ rem p (a ⊗^ (n / 2 ^ (i - 1)))
    square-next even = square ∙ rw (e, ← (next-bits n i more)) (power-even pos a (n / 2 ^ (i - 1)) even)

    pub times_next : (z : ℕ) → z ≡ rem p (y ⊗ a) → n / 2 ^ (i - 1) % 2 ≡ 1 → z ≡ rem p (a ⊗^ (n / 2 ^ (i - 1)))
    times_next z times odd = times ∙ rw (square, e, ← (next-bits n i more)) (power-odd pos a (n / 2 ^ (i - 1)) odd)
