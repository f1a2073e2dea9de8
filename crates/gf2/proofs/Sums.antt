-- Laws of the sum of polynomials over GF(2). `◌⊕◌` stays shut: every other proof sees it through these laws alone.
use mathlib.Core.Path.{◌≡◌, refl, sym, ap, ◌∙◌}
use Prim.Native.Nat.{ℕ, ◌+◌, ◌*◌, ◌/◌, ◌%◌, ◌^◌, ◌<◌}
use native.Mathlib.Nat.{add-zero}
use native.Mathlib.Omega.{arith}
use lib.Arith.{bin_ind}
use lib.Pow.{pow_pos}
use lib.Bits.{xor_comm, xor_self, xor_zero_r, xor_shr, xor_mod, xor_lt, xor_shifted, xor_block, xor_add_and}
use Rattle.gf2.specs.Polynomials.{◌⊕◌}

pub ⊕_comm : (a b : ℕ) → a ⊕ b ≡ b ⊕ a
unfolding ◌⊕◌
⊕_comm = xor_comm

pub ⊕_self : (a : ℕ) → a ⊕ a ≡ 0
unfolding ◌⊕◌
⊕_self = xor_self

pub ⊕-zero : (a : ℕ) → a ⊕ 0 ≡ a
unfolding ◌⊕◌
⊕-zero = xor_zero_r

pub zero-⊕ : (a : ℕ) → 0 ⊕ a ≡ a
unfolding ◌⊕◌
zero-⊕ a = refl

-- ---- digit by digit: the low digit adds without carry, the others are a sum of their own

pub bits-eq : {a b : ℕ} → a / 2 ≡ b / 2 → a % 2 ≡ b % 2 → a ≡ b
bits-eq h l = omega arith

pub ⊕_shr : (k a b : ℕ) → (a ⊕ b) / 2 ^ k ≡ a / 2 ^ k ⊕ b / 2 ^ k
unfolding ◌⊕◌
⊕_shr k a b = xor_shr a b k

pub ⊕-half : (a b : ℕ) → (a ⊕ b) / 2 ≡ a / 2 ⊕ b / 2
⊕-half = ⊕_shr 1

pub ⊕-low : (a b : ℕ) → (a ⊕ b) % 2 ≡ (a + b) % 2
unfolding ◌⊕◌
⊕-low a b = omega (arith, xor_add_and a b)

pub ⊕_assoc : (a b c : ℕ) → a ⊕ b ⊕ c ≡ a ⊕ (b ⊕ c)
⊕_assoc =
    bin_ind (λ (n : ℕ). (b c : ℕ) → n ⊕ b ⊕ c ≡ n ⊕ (b ⊕ c)) (λ b c. simp zero-⊕)
    (λ n ih b c. bits-eq (simp ⊕-half (ih (b / 2) (c / 2)))
    (omega (arith, ⊕-low n b, ⊕-low b c, ⊕-low (n ⊕ b) c, ⊕-low n (b ⊕ c))))

pub ⊕-left_comm : (a b c : ℕ) → a ⊕ (b ⊕ c) ≡ b ⊕ (a ⊕ c)
⊕-left_comm a b c = sym (⊕_assoc a b c) ∙ ap (λ (x : ℕ). x ⊕ c) (⊕_comm a b) ∙ ⊕_assoc b a c

pub ⊕_self_left : (a b : ℕ) → a ⊕ (a ⊕ b) ≡ b
⊕_self_left a b = sym (⊕_assoc a a b) ∙ simp (⊕_self, zero-⊕)

-- `simp xor` sorts a sum and drops what stands in it twice
pub ruleset xor = (⊕_assoc, ⊕_comm, ⊕-left_comm, ⊕_self, ⊕_self_left, ⊕-zero, zero-⊕)

pub ⊕_swap : (a b c d : ℕ) → (a ⊕ b) ⊕ (c ⊕ d) ≡ (a ⊕ c) ⊕ (b ⊕ d)
⊕_swap a b c d = simp xor

-- ---- equations: what is added to both sides cancels

pub ⊕-cancel : (a b c : ℕ) → a ⊕ b ≡ a ⊕ c → b ≡ c
⊕-cancel a b c e = sym (⊕_self_left a b) ∙ ap (λ (x : ℕ). a ⊕ x) e ∙ ⊕_self_left a c

pub ⊕_move : (a b c : ℕ) → a ⊕ b ≡ c → b ≡ a ⊕ c
⊕_move a b c e = sym (⊕_self_left a b) ∙ ap (λ (x : ℕ). a ⊕ x) e

pub ⊕-eq : (a b : ℕ) → a ⊕ b ≡ 0 → a ≡ b
⊕-eq a b e = sym (⊕_move a b 0 e ∙ ⊕-zero a)

-- ---- shifts, appended digits, bounds

pub ⊕_shl : (k a b : ℕ) → (a ⊕ b) * 2 ^ k ≡ a * 2 ^ k ⊕ b * 2 ^ k
unfolding ◌⊕◌
⊕_shl k a b = sym (simp add-zero at (xor_block k a b 0 0 (pow_pos k) (pow_pos k)))

pub ⊕_dbl : (a b : ℕ) → (a ⊕ b) * 2 ≡ a * 2 ⊕ b * 2
⊕_dbl = ⊕_shl 1

-- digits appended below: a sum with nothing to carry
pub ⊕-append : (a k v : ℕ) → v < 2 ^ k → a * 2 ^ k ⊕ v ≡ a * 2 ^ k + v
unfolding ◌⊕◌
⊕-append = xor_shifted

pub ⊕-bit : (a c : ℕ) → c < 2 → a * 2 ⊕ c ≡ a * 2 + c
⊕-bit a c h = ⊕-append a 1 c h

pub ⊕-lt : (k a b : ℕ) → a < 2 ^ k → b < 2 ^ k → a ⊕ b < 2 ^ k
unfolding ◌⊕◌
⊕-lt = xor_lt

pub ⊕-mod : (k a b : ℕ) → (a ⊕ b) % 2 ^ k ≡ a % 2 ^ k ⊕ b % 2 ^ k
unfolding ◌⊕◌
⊕-mod k a b = xor_mod a b k
