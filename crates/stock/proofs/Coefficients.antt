-- Polynomials over GF(2) a second time, for tests that the checker computes: a data type of coefficients, the highest first. The checker
-- adds two of them some six times as fast as it takes `bit_xor` of numbers. Theorems speak of numbers; the laws here link the two: `value k w`
-- is the number that the first k coefficients of w write.
use mathlib.Core.Path.{◌≡◌, refl, sym, ap, ap₂, ◌∙◌}
use Prim.Native.Nat.{ℕ, zero, suc, ◌+◌, ◌*◌, ◌/◌, ◌%◌, ◌^◌, ◌≤◌, ◌<◌, suc-le-suc}
use native.Mathlib.Nat.{le_trans, le_of_suc-le, le_of_suc-le-suc, not-suc-le-zero, le-suc, lt_of_lt_of_le, le_refl, le-add_left}
use native.Mathlib.Nat.{zero-add, suc-add, zero-mul, one-mul, mul-one, mul_comm, pow-suc, mod-one, mod-lt}
use native.Mathlib.Numerals.{one-add}
use native.Mathlib.Omega.{arith}
use lib.Pow.{pow_pos, pow_mono, pow-lt, pow-add, mod-pow-add}
use Rattle.gf2.specs.Polynomials.{◌⊕◌, monic, rem, Divides}
use Rattle.gf2.specs.Degrees.{Degree}
use Rattle.gf2.proofs.Sums.{⊕-zero, zero-⊕, ⊕_self, ⊕_assoc, ⊕-left_comm, ⊕_dbl, ⊕_shl, ⊕-lt, ⊕-append, xor}
use Rattle.gf2.proofs.Products.{⊗-pow, ⊗_comm, shl_suc, mod_2}
use Rattle.gf2.proofs.Degrees.{degree-eq, deg-pos}
use Rattle.gf2.proofs.Monics.{monic-⊕, monic-deg}
use Rattle.gf2.proofs.Divisors.{dvd_by, dvd-left, dvd-zero, dvd-⊕}
use Rattle.gf2.proofs.Residues.{rem_unique}

-- `end`: every coefficient from here on is 0
pub data Word : Type 0 where
  end : Word
  O I : Word → Word

unfoldable pub value : ℕ → Word → ℕ
value zero w = 0
value (suc k) end = 0
value (suc k) (O w) = value k w
value (suc k) (I w) = 2 ^ k ⊕ value k w

pub value-end : (k : ℕ) → value k end ≡ 0
unfolding value
value-end zero = refl
value-end (suc k) = refl

pub value-lt : (k : ℕ) (w : Word) → value k w < 2 ^ k
unfolding value
value-lt zero w = le_refl 1
value-lt (suc k) end = pow_pos (suc k)
value-lt (suc k) (O w) = lt_of_lt_of_le (value-lt k w) (pow_mono (le-suc k))
value-lt (suc k) (I w) = ⊕-lt (suc k) (2 ^ k) (value k w) (pow-lt (le_refl (suc k))) (lt_of_lt_of_le (value-lt k w) (pow_mono (le-suc k)))

-- ---- the sum. It ends with its first operand, so the shorter one goes first.

unfoldable pub plus : Word → Word → Word
plus end b = b
plus (O a) end = O a
plus (O a) (O b) = O (plus a b)
plus (O a) (I b) = I (plus a b)
plus (I a) end = I a
plus (I a) (O b) = I (plus a b)
plus (I a) (I b) = O (plus a b)

twice : (t a b : ℕ) → a ⊕ b ≡ (t ⊕ a) ⊕ (t ⊕ b)
twice t a b = simp xor

pub value-plus : (k : ℕ) (a b : Word) → value k (plus a b) ≡ value k a ⊕ value k b
unfolding value plus
value-plus zero a b = sym (⊕-zero 0)
value-plus (suc k) end b = sym (zero-⊕ (value (suc k) b))
value-plus (suc k) (O a) end = sym (⊕-zero (value k a))
value-plus (suc k) (O a) (O b) = value-plus k a b
value-plus (suc k) (O a) (I b) = ap (λ (x : ℕ). 2 ^ k ⊕ x) (value-plus k a b) ∙ ⊕-left_comm (2 ^ k) (value k a) (value k b)
value-plus (suc k) (I a) end = sym (⊕-zero (2 ^ k ⊕ value k a))
value-plus (suc k) (I a) (O b) = ap (λ (x : ℕ). 2 ^ k ⊕ x) (value-plus k a b) ∙ sym (⊕_assoc (2 ^ k) (value k a) (value k b))
value-plus (suc k) (I a) (I b) = value-plus k a b ∙ twice (2 ^ k) (value k a) (value k b)

-- ---- a word that k coefficients write whole

unfoldable pub size : Word → ℕ
size end = 0
size (O w) = suc (size w)
size (I w) = suc (size w)

pub value-suc : (k : ℕ) (w : Word) → size w ≤ k → value (suc k) w ≡ value k w * 2
unfolding value size
value-suc zero end h = refl
value-suc zero (O w) h = absurd (not-suc-le-zero h)
value-suc zero (I w) h = absurd (not-suc-le-zero h)
value-suc (suc k) end h = refl
value-suc (suc k) (O w) h = value-suc k w (le_of_suc-le-suc h)
value-suc (suc k) (I w) h = rw (value-suc k w (le_of_suc-le-suc h), pow-suc 2 k) (sym (⊕_dbl (2 ^ k) (value k w)))

pub value_shl : (j k : ℕ) (w : Word) → size w ≤ k → value (j + k) w ≡ value k w * 2 ^ j
value_shl zero k w h = rw (zero-add, mul-one)
value_shl (suc j) k w h =
    rw (suc-add, value-suc (j + k) w (le_trans h (le-add_left k j)), value_shl j k w h) (sym (shl_suc (value k w) j))

pub size-plus : (k : ℕ) (a b : Word) → size a ≤ k → size b ≤ k → size (plus a b) ≤ k
unfolding size plus
size-plus k end b h l = l
size-plus k (O a) end h l = h
size-plus k (I a) end h l = h
size-plus zero (O a) (O b) h l = absurd (not-suc-le-zero h)
size-plus zero (O a) (I b) h l = absurd (not-suc-le-zero h)
size-plus zero (I a) (O b) h l = absurd (not-suc-le-zero h)
size-plus zero (I a) (I b) h l = absurd (not-suc-le-zero h)
size-plus (suc k) (O a) (O b) h l = suc-le-suc (size-plus k a b (le_of_suc-le-suc h) (le_of_suc-le-suc l))
size-plus (suc k) (O a) (I b) h l = suc-le-suc (size-plus k a b (le_of_suc-le-suc h) (le_of_suc-le-suc l))
size-plus (suc k) (I a) (O b) h l = suc-le-suc (size-plus k a b (le_of_suc-le-suc h) (le_of_suc-le-suc l))
size-plus (suc k) (I a) (I b) h l = suc-le-suc (size-plus k a b (le_of_suc-le-suc h) (le_of_suc-le-suc l))

-- ---- long division by the polynomial t^k ⊕ p: j of the coefficients of m, the highest first

unfoldable pub divide : Word → ℕ → Word → Word
divide p zero m = m
divide p (suc j) end = end
divide p (suc j) (O m) = divide p j m
divide p (suc j) (I m) = divide p j (plus p m)

-- the polynomial t^k ⊕ p as a number
abbrev pub modulus : ℕ → Word → ℕ
modulus k p = monic k (value k p)

pub modulus-deg : (k : ℕ) (p : Word) → Degree (modulus k p) k
modulus-deg k p = monic-deg k (value k p) (value-lt k p)

module _ (k : ℕ) (p : Word) (fits : size p ≤ k) where
  multiple : (j : ℕ) → modulus k p * 2 ^ j ≡ 2 ^ (j + k) ⊕ value (j + k) p
  multiple j =
      ap (λ (x : ℕ). x * 2 ^ j) (monic-⊕ k (value k p) (value-lt k p))
      ∙ ⊕_shl j (2 ^ k) (value k p)
      ∙ ap₂ (λ (x y : ℕ). x ⊕ y) (mul_comm (2 ^ k) (2 ^ j) ∙ sym (pow-add 2 j k)) (sym (value_shl j k p fits))

  less : (t a b r : ℕ) → a ⊕ b ⊕ r ⊕ (t ⊕ a) ≡ t ⊕ b ⊕ r
  less t a b r = simp xor

  divide-dvd : (j : ℕ) (m : Word) → Divides (modulus k p) (value (j + k) m ⊕ value k (divide p j m))
  unfolding divide value
  divide-dvd zero m = dvd_by (dvd-zero (modulus k p)) (rw zero-add (sym (⊕_self (value k m))))
  divide-dvd (suc j) end = dvd_by (dvd-zero (modulus k p)) (rw (value-end (suc j + k), value-end k) (sym (⊕_self 0)))
  divide-dvd (suc j) (O m) = rw suc-add (divide-dvd j m)
  divide-dvd (suc j) (I m) =
      dvd_by (dvd-⊕ (divide-dvd j (plus p m)) (dvd-left (2 ^ j) (modulus k p)))
      (rw (suc-add, value-plus (j + k) p m, ⊗_comm (2 ^ j) (modulus k p), ⊗-pow j (modulus k p), multiple j)
      (less (2 ^ (j + k)) (value (j + k) p) (value (j + k) m) (value k (divide p j (plus p m)))))

  pub divide-size : (j : ℕ) (m : Word) → size m ≤ k → size (divide p j m) ≤ k
  unfolding divide size
  divide-size zero m h = h
  divide-size (suc j) end h = h
  divide-size (suc j) (O m) h = divide-size j m (le_of_suc-le h)
  divide-size (suc j) (I m) h = divide-size j (plus p m) (size-plus k p m fits (le_of_suc-le h))

  pub divide-rem : (j : ℕ) (m : Word) → rem (modulus k p) (value (j + k) m) ≡ value k (divide p j m)
  divide-rem j m =
      rem_unique (deg-pos (modulus k p) k (modulus-deg k p)) (value (j + k) m) (value k (divide p j m))
      (rw (degree-eq (modulus k p) k (modulus-deg k p)) (value-lt k (divide p j m))) (divide-dvd j m)

-- ---- the word of a number's k low digits

unfoldable pub digit : ℕ → Word → Word
digit zero w = O w
digit (suc c) w = I w

unfoldable pub word : ℕ → ℕ → Word
word zero n = end
word (suc k) n = digit (n / 2 ^ k % 2) (word k n)

value-digit : (k c : ℕ) (w : Word) → c < 2 → value (suc k) (digit c w) ≡ c * 2 ^ k ⊕ value k w
unfolding value digit
value-digit k zero w h = sym (rw zero-mul (zero-⊕ (value k w)))
value-digit k (suc zero) w h = rw one-mul refl
value-digit k (suc (suc c)) w h = absurd (omega arith)

pub value-word : (k n : ℕ) → value k (word k n) ≡ n % 2 ^ k
unfolding word value
value-word zero n = sym (mod-one n)
value-word (suc k) n =
    value-digit k (n / 2 ^ k % 2) (word k n) (mod_2 (n / 2 ^ k))
    ∙ rw (value-word k n, ⊕-append (n / 2 ^ k % 2) k (n % 2 ^ k) (mod-lt n (pow_pos k)))
    (sym (ap (λ (x : ℕ). n % 2 ^ x) (sym (one-add k)) ∙ mod-pow-add n 1 k))

size-digit : (c : ℕ) (w : Word) → size (digit c w) ≡ suc (size w)
unfolding digit size
size-digit zero w = refl
size-digit (suc c) w = refl

pub size_word : (k n : ℕ) → size (word k n) ≡ k
unfolding word size
size_word zero n = refl
size_word (suc k) n = size-digit (n / 2 ^ k % 2) (word k n) ∙ ap suc (size_word k n)
