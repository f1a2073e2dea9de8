-- Laws of the product of polynomials over GF(2): a commutative ring. `◌⊗◌` stays shut: its one equation is `⊗-step`, from which
-- every law follows.
use mathlib.Core.Path.{◌≡◌, refl, sym, ap, ap₂, ◌∙◌}
use mathlib.Core.Logic.{◌⊎◌, inl, inr}
use Prim.Native.Nat.{ℕ, zero, suc, ◌+◌, ◌*◌, ◌/◌, ◌%◌, ◌^◌, ◌≤◌, ◌<◌}
use native.Mathlib.Nat.{le_refl, not-suc-le-zero, mul_assoc, one-mul, zero-mul, mul-zero, mul-one, pow-suc}
use native.Mathlib.Decide.{le_ind}
use native.Mathlib.Omega.{arith}
use lib.Arith.{half_le, bin_ind}
use Rattle.gf2.specs.Polynomials.{◌⊕◌, long_product, ◌⊗◌}
use Rattle.gf2.proofs.Sums.{⊕-zero, zero-⊕, ⊕-half, ⊕-low, ⊕_dbl, ⊕-bit, xor}

more : (n a b : ℕ) → a ≤ n → long_product (suc n) a b ≡ long_product n a b
unfolding long_product
more zero zero b h = refl
more zero (suc a) b h = absurd (not-suc-le-zero h)
more (suc n) zero b h = refl
more (suc n) (suc a) b h = ap (λ (x : ℕ). x * 2 ⊕ suc a % 2 * b) (more n (suc a / 2) b (half_le h))

enough : (n a b : ℕ) → a ≤ n → long_product n a b ≡ long_product a a b
enough n a b h = le_ind (λ (m : ℕ). long_product m a b ≡ long_product a a b) refl (λ m k e. more m a b k ∙ e) n h

pub zero-⊗ : (b : ℕ) → 0 ⊗ b ≡ 0
unfolding ◌⊗◌ long_product
zero-⊗ b = refl

pub ⊗-step : (a b : ℕ) → a ⊗ b ≡ a / 2 ⊗ b * 2 ⊕ a % 2 * b
unfolding ◌⊗◌ long_product
⊗-step zero b = sym (simp (zero-mul, zero-⊕))
⊗-step (suc a) b = ap (λ (x : ℕ). x * 2 ⊕ suc a % 2 * b) (enough a (suc a / 2) b (half_le (le_refl (suc a))))

-- ---- a product with one digit

pub bit-cases : (c : ℕ) → c < 2 → (c ≡ 0) ⊎ (c ≡ 1)
bit-cases zero h = inl refl
bit-cases (suc zero) h = inr refl
bit-cases (suc (suc c)) h = absurd (omega arith)

pub mod_2 : (a : ℕ) → a % 2 < 2
mod_2 a = omega arith

pub dbl_half : (a : ℕ) → a * 2 / 2 ≡ a
dbl_half a = omega arith

pub dbl_low : (a : ℕ) → a * 2 % 2 ≡ 0
dbl_low a = omega arith

pub shl_suc : (a k : ℕ) → a * 2 ^ suc k ≡ a * 2 ^ k * 2
shl_suc a k = ap (λ (x : ℕ). a * x) (pow-suc 2 k) ∙ sym (mul_assoc a (2 ^ k) 2)

-- P holds of each digit when it holds of 0 and of 1
pub by_bit : (P : ℕ → Type 0) → P 0 → P 1 → (a : ℕ) → P (a % 2)
by_bit P p q a = go (bit-cases (a % 2) (mod_2 a))
  where
    go : (a % 2 ≡ 0) ⊎ (a % 2 ≡ 1) → P (a % 2)
    go (inl e) = rw e p
    go (inr e) = rw e q

pub bit-⊕ : (a b c : ℕ) → (a % 2) * (b ⊕ c) ≡ (a % 2) * b ⊕ (a % 2) * c
bit-⊕ a b c = by_bit (λ (x : ℕ). x * (b ⊕ c) ≡ x * b ⊕ x * c) (simp (zero-mul, ⊕-zero)) (simp one-mul) a

pub low-⊕ : (a b c : ℕ) → (a ⊕ b) % 2 * c ≡ a % 2 * c ⊕ b % 2 * c
low-⊕ a b c =
    ap (λ (x : ℕ). x * c) (⊕-low a b)
    ∙ ap (λ (x : ℕ). x * c) sum
    ∙ by_bit (λ (x : ℕ). (x + b % 2) % 2 * c ≡ x * c ⊕ b % 2 * c)
    (by_bit (λ (y : ℕ). (0 + y) % 2 * c ≡ 0 * c ⊕ y * c) (simp (zero-mul, xor)) (simp (zero-mul, one-mul, xor)) b)
    (by_bit (λ (y : ℕ). (1 + y) % 2 * c ≡ 1 * c ⊕ y * c) (simp (zero-mul, one-mul, xor)) (simp (zero-mul, one-mul, xor)) b)
    a
  where
    sum : (a + b) % 2 ≡ (a % 2 + b % 2) % 2
    sum = omega arith

-- ---- the laws

pub one-⊗ : (b : ℕ) → 1 ⊗ b ≡ b
one-⊗ b = ⊗-step 1 b ∙ simp (zero-⊗, one-mul, zero-⊕)

pub ⊗-zero : (a : ℕ) → a ⊗ 0 ≡ 0
⊗-zero = bin_ind (λ (n : ℕ). n ⊗ 0 ≡ 0) (zero-⊗ 0) (λ n ih. ⊗-step n 0 ∙ simp (ih, mul-zero, xor))

pub ⊗-one : (a : ℕ) → a ⊗ 1 ≡ a
⊗-one =
    bin_ind (λ (n : ℕ). n ⊗ 1 ≡ n) (zero-⊗ 1)
    (λ n ih. ⊗-step n 1 ∙ rw (ih, mul-one, ⊕-bit (n / 2) (n % 2) (mod_2 n)) (omega arith))

pub dbl_⊗ : (a b : ℕ) → a * 2 ⊗ b ≡ a ⊗ b * 2
dbl_⊗ a b = ⊗-step (a * 2) b ∙ rw (dbl_half a, dbl_low a) (simp (zero-mul, xor))

pub ⊗_dbl : (a b : ℕ) → a ⊗ (b * 2) ≡ a ⊗ b * 2
⊗_dbl a b =
    bin_ind (λ (n : ℕ). n ⊗ (b * 2) ≡ n ⊗ b * 2) (simp (zero-⊗))
    (λ n ih. rw (⊗-step n (b * 2), ⊗-step n b, ih, ⊕_dbl, mul_assoc (n % 2) b 2)) a

-- it distributes over ⊕, on both sides
pub ⊕-⊗ : (a b c : ℕ) → (a ⊕ b) ⊗ c ≡ a ⊗ c ⊕ b ⊗ c
⊕-⊗ a b c =
    bin_ind (λ (n : ℕ). (m : ℕ) → (n ⊕ m) ⊗ c ≡ n ⊗ c ⊕ m ⊗ c) (λ m. simp (zero-⊕, zero-⊗))
    (λ n ih m. rw (⊗-step (n ⊕ m) c, ⊗-step n c, ⊗-step m c) (simp (⊕-half, low-⊕, ih, ⊕_dbl, xor))) a b

pub ⊗-⊕ : (a b c : ℕ) → a ⊗ (b ⊕ c) ≡ a ⊗ b ⊕ a ⊗ c
⊗-⊕ a b c =
    bin_ind (λ (n : ℕ). n ⊗ (b ⊕ c) ≡ n ⊗ b ⊕ n ⊗ c) (simp (zero-⊕, zero-⊗))
    (λ n ih. rw (⊗-step n (b ⊕ c), ⊗-step n b, ⊗-step n c) (simp (ih, bit-⊕, ⊕_dbl, xor))) a

-- a number is its upper digits, shifted, and its low digit
pub by_low : (a : ℕ) → a / 2 * 2 ⊕ a % 2 ≡ a
by_low a = rw (⊕-bit (a / 2) (a % 2) (mod_2 a)) (omega arith)

pub ⊗-bit : (a b : ℕ) → b ⊗ (a % 2) ≡ a % 2 * b
⊗-bit a b = by_bit (λ (x : ℕ). b ⊗ x ≡ x * b) (simp (⊗-zero, zero-mul)) (simp (⊗-one, one-mul)) a

bit-⊗ : (a b c : ℕ) → (a % 2 * b) ⊗ c ≡ a % 2 * (b ⊗ c)
bit-⊗ a b c = by_bit (λ (x : ℕ). (x * b) ⊗ c ≡ x * (b ⊗ c)) (simp (zero-⊗, zero-mul)) (simp one-mul) a

pub ⊗_comm : (a b : ℕ) → a ⊗ b ≡ b ⊗ a
⊗_comm a b =
    bin_ind (λ (n : ℕ). n ⊗ b ≡ b ⊗ n) (simp (zero-⊗, ⊗-zero))
    (λ n ih. ⊗-step n b
    ∙ ap₂ (λ (x y : ℕ). x ⊕ y) (ap (λ (x : ℕ). x * 2) ih ∙ sym (⊗_dbl b (n / 2))) (sym (⊗-bit n b))
    ∙ sym (⊗-⊕ b (n / 2 * 2) (n % 2))
    ∙ ap (λ (x : ℕ). b ⊗ x) (by_low n)) a

pub ⊗_assoc : (a b c : ℕ) → a ⊗ b ⊗ c ≡ a ⊗ (b ⊗ c)
⊗_assoc a b c =
    bin_ind (λ (n : ℕ). n ⊗ b ⊗ c ≡ n ⊗ (b ⊗ c)) (simp zero-⊗)
    (λ n ih. rw (⊗-step n b, ⊗-step n (b ⊗ c), ⊕-⊗, dbl_⊗, bit-⊗, ih)) a

pub ⊗-left_comm : (a b c : ℕ) → a ⊗ (b ⊗ c) ≡ b ⊗ (a ⊗ c)
⊗-left_comm a b c = sym (⊗_assoc a b c) ∙ ap (λ (x : ℕ). x ⊗ c) (⊗_comm a b) ∙ ⊗_assoc b a c

-- the square of a digit is the digit
pub bit-square : (a : ℕ) → a % 2 ⊗ (a % 2) ≡ a % 2
bit-square a = by_bit (λ (x : ℕ). x ⊗ x ≡ x) (zero-⊗ 0) (one-⊗ 1) a

-- `simp ring` multiplies out, sorts, and drops what stands in a sum twice
pub ruleset ring = (⊕-⊗, ⊗-⊕, ⊗_assoc, ⊗_comm, ⊗-left_comm, zero-⊗, ⊗-zero, one-⊗, ⊗-one, xor)

-- squaring is linear
pub square-⊕ : (a b : ℕ) → (a ⊕ b) ⊗ (a ⊕ b) ≡ a ⊗ a ⊕ b ⊗ b
square-⊕ a b = simp ring

-- t^k times a polynomial is a shift
pub ⊗_shl : (k a b : ℕ) → a ⊗ (b * 2 ^ k) ≡ a ⊗ b * 2 ^ k
⊗_shl zero a b = simp mul-one
⊗_shl (suc k) a b =
    ap (λ (x : ℕ). a ⊗ x) (shl_suc b k) ∙ ⊗_dbl a (b * 2 ^ k) ∙ ap (λ (x : ℕ). x * 2) (⊗_shl k a b) ∙ sym (shl_suc (a ⊗ b) k)

pub ⊗-pow : (k a : ℕ) → a ⊗ 2 ^ k ≡ a * 2 ^ k
⊗-pow k a = ap (λ (x : ℕ). a ⊗ x) (sym (one-mul (2 ^ k))) ∙ ⊗_shl k a 1 ∙ ap (λ (x : ℕ). x * 2 ^ k) (⊗-one a)
