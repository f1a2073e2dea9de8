-- Polynomials over the field of two elements, as numbers: bit i is the coefficient of t^i (document 01, "Polynomials and keys").
-- So 2 is t, 2 ^ n is t^n, x * 2 ^ n is the product of x and t^n, and the numbers below 2 ^ k are the polynomials of degree less than k.
use Rattle.std.specs.Prelude.{◌≡◌, ◌⊎◌, ◌↔◌, ℕ, zero, suc, ◌+◌, ◌-◌, ◌*◌, ◌/◌, ◌%◌, ◌^◌, ◌<◌}
use Rattle.std.specs.Int.Bits.{bit_xor}

-- ---- the sum: exclusive or

infixl 65 ◌⊕◌
unfoldable pub ◌⊕◌ : ℕ → ℕ → ℕ
a ⊕ b = bit_xor a b

-- ---- the degree: the place of the highest one bit, counted from 0

-- how often a can be halved before it is 1, at most n times
unfoldable pub halvings : ℕ → ℕ → ℕ
halvings zero a = 0
halvings (suc n) zero = 0
halvings (suc n) (suc zero) = 0
halvings (suc n) (suc (suc a)) = suc (halvings n (suc (suc a) / 2))

unfoldable pub degree : ℕ → ℕ
degree a = halvings a a

-- the polynomial t^k with the coefficients c below it
unfoldable pub monic : ℕ → ℕ → ℕ
monic k c = 2 ^ k + c

-- ---- the residue modulo p: long division, the highest coefficient first

-- s less p where the coefficient of t^k in s is 1
unfoldable pub reduce : ℕ → ℕ → ℕ → ℕ
reduce p k s = s / 2 ^ k * p ⊕ s

-- by the bits of a, at most n of them: one bit comes in below, and p is added where a bit reaches t^k
unfoldable pub long_division : ℕ → ℕ → ℕ → ℕ → ℕ
long_division p k zero a = 0
long_division p k (suc n) zero = 0
long_division p k (suc n) (suc a) = reduce p k (long_division p k n (suc a / 2) * 2 + suc a % 2)

unfoldable pub rem : ℕ → ℕ → ℕ
rem p a = long_division p (degree p) a a

-- ---- claims: the residue by divisors

-- the product: long multiplication without carries, by the bits of a, at most n of them
unfoldable pub long_product : ℕ → ℕ → ℕ → ℕ
long_product zero a b = 0
long_product (suc n) zero b = 0
long_product (suc n) (suc a) b = long_product n (suc a / 2) b * 2 ⊕ suc a % 2 * b

infixl 70 ◌⊗◌
unfoldable pub ◌⊗◌ : ℕ → ℕ → ℕ
a ⊗ b = long_product a a b

pub record Divides (d a : ℕ) : Type 0 where
  pub quotient : ℕ
  pub product : quotient ⊗ d ≡ a

-- The residue of a is below 2^k, k being the degree of p, and differs from a by a multiple of p; no other number does both.
abbrev pub RemIs : Type 0
RemIs = (p : ℕ) → 0 < p → (a r : ℕ) → (rem p a ≡ r) ↔ ((r < 2 ^ degree p) × Divides p (a ⊕ r))

-- One bit b comes in behind a residue f modulo t^k with the coefficients c below it: c times the bit that falls out at t^k is added.
abbrev pub StepIs : Type 0
StepIs =
    (k c f b : ℕ) → 0 < k → c < 2 ^ k → f < 2 ^ k → b < 2
    → rem (monic k c) (f * 2 + b) ≡ (f % 2 ^ (k - 1) * 2 + b) ⊕ c * (f / 2 ^ (k - 1))

-- of degree at least 1, and with no divisor but 1 and itself (over the field of two elements no other constant is left)
pub record Irreducible (p : ℕ) : Type 0 where
  pub proper : 1 < p
  pub only : (d : ℕ) → Divides d p → (d ≡ 1) ⊎ (d ≡ p)
