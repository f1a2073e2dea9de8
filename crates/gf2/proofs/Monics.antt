-- Laws of the polynomial t^k with the coefficients c below it: the modulus as the code holds it, a degree and a word.
use mathlib.Core.Path.{◌≡◌, sym, ap, ◌∙◌}
use Prim.Native.Nat.{ℕ, ◌/◌, ◌%◌, ◌^◌, ◌<◌}
use native.Mathlib.Nat.{one-mul, div_self}
use native.Mathlib.Omega.{arith}
use lib.Pow.{pow_pos, pow-lt, split, low}
use Rattle.gf2.specs.Polynomials.{◌⊕◌, degree, monic}
use Rattle.gf2.specs.Degrees.{Degree}
use Rattle.gf2.proofs.Sums.{⊕-append}
use Rattle.gf2.proofs.Degrees.{degree-is, degree-eq, deg-pos, deg-le, deg-⊕}

pub monic-⊕ : (k c : ℕ) → c < 2 ^ k → monic k c ≡ 2 ^ k ⊕ c
unfolding monic
monic-⊕ k c h = sym (simp one-mul at (⊕-append 1 k c h))

pub monic-deg : (k c : ℕ) → c < 2 ^ k → Degree (monic k c) k
monic-deg k c h = ap (λ (x : ℕ). x / 2 ^ k) (monic-⊕ k c h) ∙ deg-⊕ (2 ^ k) c k (div_self (pow_pos k)) h

pub monic-degree : (k c : ℕ) → c < 2 ^ k → degree (monic k c) ≡ k
monic-degree k c h = degree-eq (monic k c) k (monic-deg k c h)

pub monic-pos : (k c : ℕ) → c < 2 ^ k → 0 < monic k c
monic-pos k c h = deg-pos (monic k c) k (monic-deg k c h)

pub of_degree-one : (k c : ℕ) → 0 < k → c < 2 ^ k → 1 < monic k c
unfolding monic
of_degree-one k c p h = omega (arith, pow-lt {i = 0} p)

-- the coefficients below t^k
pub monic-word : (k c : ℕ) → c < 2 ^ k → monic k c % 2 ^ k ≡ c
unfolding monic
monic-word k c h = rw one-mul at (low 1 k h)

-- every polynomial of degree k is one
pub monic_of : (k p : ℕ) → Degree p k → monic k (p % 2 ^ k) ≡ p
unfolding monic
monic_of k p h = simp (h, one-mul) at (split p k)

-- ---- a number of 64 bits, taken apart

pub word-degree : (p : ℕ) → 0 < p → p < 2 ^ 64 → degree p < 64
word-degree p h l = deg-le p (degree p) 64 (degree-is p h) l

pub word-whole : (p : ℕ) → 0 < p → monic (degree p) (p % 2 ^ degree p) ≡ p
word-whole p h = monic_of (degree p) p (degree-is p h)
