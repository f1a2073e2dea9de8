-- Laws of the value of a string of bits: appended bits, changed bits, and that different files have different values.
use mathlib.Core.Path.{◌≡◌, refl, sym, ap, ap₂, ◌∙◌}
use mathlib.Core.List.{List, [], ◌∷◌, ◌++◌, append_assoc}
use Prim.Native.Nat.{ℕ, zero, suc, ◌+◌, ◌*◌, ◌/◌, ◌%◌, ◌^◌, ◌<◌}
use native.Mathlib.Nat.{mul-one, mul_comm, add-zero, mod-one, mod-mod, mod-eq_of_lt, pow-suc}
use native.Mathlib.Numerals.{one-add, add-one}
use native.Mathlib.Omega.{arith}
use lib.Arith.{digits_lt, digits_div}
use lib.ListN.{length, get_or, drop, length-append}
use lib.Pow.{mod-pow-add}
use lib.Seq.{drop-cons}
use Rattle.gf2.specs.Polynomials.{◌⊕◌, rem}
use Rattle.gf2.specs.Degrees.{Degree}
use Rattle.gf2.proofs.Sums.{⊕_self, ⊕-append, ⊕_shl, xor}
use Rattle.gf2.proofs.Products.{shl_suc}
use Rattle.gf2.proofs.Degrees.{deg_unique, degree-eq}
use Rattle.gf2.proofs.Residues.{rem_lt, rem-small, rem-append}
use Rattle.files.specs.Files.{low_bits, bits, value_from, value, Bits, ValuesDiffer, ValueDegree}

pub value-append : (s : ℕ) (a b : List ℕ) → value_from s (a ++ b) ≡ value_from (value_from s a) b
unfolding value_from
value-append s [] b = refl
value-append s (x ∷ a) b = value-append (s * 2 + x % 2) a b

-- the start stands above the bits
pub value-split : (s : ℕ) (a : List ℕ) → value_from s a ≡ s * 2 ^ length a + value_from 0 a
unfolding value_from
value-split s [] = simp (mul-one, add-zero)
value-split s (x ∷ a) = omega (arith, value-split (s * 2 + x % 2) a, value-split (0 * 2 + x % 2) a, shl_suc s (length a))

pub value-lt : (a : List ℕ) → value_from 0 a < 2 ^ length a
unfolding value_from
value-lt [] = omega arith
value-lt (x ∷ a) = rw (value-split (0 * 2 + x % 2) a, pow-suc) (step (2 ^ length a) (value_from 0 a) (value-lt a))
  where
    step : (p v : ℕ) → v < p → (0 * 2 + x % 2) * p + v < p * 2
    step p v h = rw (mul_comm p 2) (digits_lt {q = 0 * 2 + x % 2} {m = 2} (omega arith) h)

pub value-⊕ : (s : ℕ) (a : List ℕ) → value_from s a ≡ s * 2 ^ length a ⊕ value_from 0 a
value-⊕ s a = value-split s a ∙ sym (⊕-append s (length a) (value_from 0 a) (value-lt a))

-- ---- bytes

pub length-low : (n b : ℕ) → length (low_bits n b) ≡ n
unfolding low_bits
length-low zero b = refl
length-low (suc n) b = ap suc (length-low n b)

pub length-bits : (file : List ℕ) → length (bits file) ≡ 8 * length file
unfolding bits
length-bits [] = refl
length-bits (b ∷ file) = length-append (low_bits 8 b) (bits file) ∙ omega (arith, length-low 8 b, length-bits file)

pub bits-append : (a b : List ℕ) → bits (a ++ b) ≡ bits a ++ bits b
unfolding bits
bits-append [] b = refl
bits-append (x ∷ a) b = ap (λ r. low_bits 8 x ++ r) (bits-append a b) ∙ sym (append_assoc (low_bits 8 x) (bits a) (bits b))

low-suc : (n b : ℕ) → b % 2 ^ suc n ≡ b / 2 ^ n % 2 * 2 ^ n + b % 2 ^ n
low-suc n b = ap (λ (x : ℕ). b % 2 ^ x) (sym (one-add n)) ∙ mod-pow-add b 1 n

-- n low bits come in as one number
pub value_low : (n s b : ℕ) (r : List ℕ) → value_from s (low_bits n b ++ r) ≡ value_from (s * 2 ^ n + b % 2 ^ n) r
unfolding value_from low_bits
value_low zero s b r = simp (mul-one, mod-one, add-zero)
value_low (suc n) s b r = value_low n (s * 2 + b / 2 ^ n % 2 % 2) b r ∙ ap (λ (x : ℕ). value_from x r) sum
  where
    sum : (s * 2 + b / 2 ^ n % 2 % 2) * 2 ^ n + b % 2 ^ n ≡ s * 2 ^ suc n + b % 2 ^ suc n
    sum = rw (mod-mod, low-suc, shl_suc) (omega arith)

-- the byte law
pub value-byte : (s b : ℕ) (file : List ℕ) → value_from s (bits (b ∷ file)) ≡ value_from (s * 256 + b % 256) (bits file)
unfolding bits
value-byte s b file = value_low 8 s b (bits file)

-- the byte at a place, and what is behind it
pub value-next : (s i : ℕ) (file : List ℕ) → i < length file → get_or file i 0 < 256
    → value_from s (bits (drop i file)) ≡ value_from (s * 256 + get_or file i 0) (bits (drop (i + 1) file))
value-next s i file h l = rw (drop-cons file i 0 h, add-one, value-byte s, mod-eq_of_lt l)

-- ---- appending and changing

module _ {p : ℕ} (pos : 0 < p) where
  -- feeding: the residue may stand for what came before
  pub rem-from : (s : ℕ) (a : List ℕ) → rem p (value_from (rem p s) a) ≡ rem p (value_from s a)
  rem-from s a =
      ap (rem p) (value-split (rem p s) a)
      ∙ rem-append pos (rem p s) (length a) (value_from 0 a) (value-lt a)
      ∙ ap (λ (x : ℕ). rem p (x * 2 ^ length a ⊕ value_from 0 a)) (rem-small pos (rem p s) (rem_lt pos s))
      ∙ sym (rem-append pos s (length a) (value_from 0 a) (value-lt a))
      ∙ ap (rem p) (sym (value-split s a))

same_end : (a b : ℕ) (post : List ℕ) → value_from a post ⊕ value_from b post ≡ (a ⊕ b) * 2 ^ length post
same_end a b post = rw (value-⊕ a post, value-⊕ b post, ⊕_shl) (simp xor)

-- of two strings of one length only the sum of the starts matters
pub value-starts : (s t u v : ℕ) (x y : List ℕ) → length x ≡ length y → s ⊕ t ≡ u ⊕ v → value_from s x ⊕ value_from t y ≡ value_from u x ⊕ value_from v y
value-starts s t u v x y e h = apart s t ∙ ap (λ (c : ℕ). c * 2 ^ length y ⊕ (value_from 0 x ⊕ value_from 0 y)) h ∙ sym (apart u v)
  where
    apart : (c d : ℕ) → value_from c x ⊕ value_from d y ≡ (c ⊕ d) * 2 ^ length y ⊕ (value_from 0 x ⊕ value_from 0 y)
    apart c d = rw (value-⊕ c x, value-⊕ d y, e, ⊕_shl) (simp xor)

-- where only the middle differs, the difference of the values is the middles' difference, shifted
pub value-change : (s u : ℕ) (pre x y post : List ℕ) → length x ≡ length y
    → value_from s (pre ++ x ++ post) ⊕ value_from s (pre ++ y ++ post) ≡ (value_from u x ⊕ value_from u y) * 2 ^ length post
value-change s u pre x y post e =
    ap₂ (λ (c d : ℕ). c ⊕ d) (parts x) (parts y)
    ∙ same_end (value_from (value_from s pre) x) (value_from (value_from s pre) y) post
    ∙ ap (λ (c : ℕ). c * 2 ^ length post) (value-starts (value_from s pre) (value_from s pre) u u x y e (⊕_self (value_from s pre) ∙ sym (⊕_self u)))
  where
    parts : (z : List ℕ) → value_from s (pre ++ z ++ post) ≡ value_from (value_from (value_from s pre) z) post
    parts z = value-append s (pre ++ z) post ∙ ap (λ (c : ℕ). value_from c post) (value-append s pre z)

-- ---- different files have different values

pub value-deg : (file : List ℕ) → Degree (value file) (length file)
value-deg file = ap (λ (v : ℕ). v / 2 ^ length file) (value-split 1 file) ∙ digits_div 1 (value-lt file)

pub value-degree : ValueDegree
value-degree file = degree-eq (value file) (length file) (value-deg file)

bit-eq : (s t x y : ℕ) → x < 2 → y < 2 → s * 2 + x % 2 ≡ t * 2 + y % 2 → (s ≡ t) × (x ≡ y)
bit-eq s t x y hx hy e = omega arith

from_inj : (a b : List ℕ) (s t : ℕ) → length a ≡ length b → Bits a → Bits b → value_from s a ≡ value_from t b → (s ≡ t) × (a ≡ b)
unfolding value_from
from_inj [] [] s t l ha hb e = (e, refl)
from_inj [] (y ∷ b) s t l ha hb e = absurd (omega arith)
from_inj (x ∷ a) [] s t l ha hb e = absurd (omega arith)
from_inj (x ∷ a) (y ∷ b) s t l ha hb e =
    let ih = from_inj a b (s * 2 + x % 2) (t * 2 + y % 2) (omega arith) ha.1 hb.1 e in
    let d = bit-eq s t x y ha.0 hb.0 ih.0 in
    (d.0, ap₂ {C = List ℕ} (λ (z : ℕ) (c : List ℕ). z ∷ c) d.1 ih.1)

pub value-length : (a b : List ℕ) → value a ≡ value b → length a ≡ length b
value-length a b e = omega (arith, deg_unique (value a) (length a) (length b) (value-deg a) (rw e (value-deg b)))

pub value_inj : ValuesDiffer
value_inj a b ha hb e = (from_inj a b 1 1 (value-length a b e) ha hb e).1
