-- A test that the checker computes, and that shows a polynomial over GF(2) irreducible: the squares t^(2i) are independent modulo it,
-- and so are t^(2i) ⊕ t^i for i > 0 (gf2/proofs/Criterion, after Berlekamp).
use mathlib.Core.Path.{◌≡◌, refl, sym, ap, ap₂, ◌∙◌}
use mathlib.Core.Bool.{Bool, ◌&&◌}
use mathlib.Core.List.{List, [], ◌∷◌, map}
use Prim.Native.Nat.{ℕ, zero, suc, ◌*◌, ◌/◌, ◌%◌, ◌^◌, ◌≤◌, ◌<◌}
use native.Mathlib.Nat.{le_of_eq, mul-one, pow-suc, lt_of_lt_of_le, mod-eq_of_lt}
use native.Mathlib.Omega.{arith}
use lib.Dec.{T, eqb, eqb→eq}
use lib.Pow.{pow_pos, pow_mono}
use Rattle.gf2.specs.Polynomials.{◌⊕◌, degree, monic, rem, ◌⊗◌, Irreducible}
use Rattle.gf2.specs.Degrees.{Degree}
use Rattle.lists.specs.Lists.{list_from}
use Rattle.lists.proofs.Truth.{and_left, and_right}
use Rattle.lists.proofs.Lists.{length_list}
use Rattle.gf2.proofs.Sums.{⊕_self, ⊕-zero}
use Rattle.gf2.proofs.Products.{one-⊗, ⊗-pow, by_bit, by_low, ring}
use Rattle.gf2.proofs.Degrees.{half_lt, degree-eq, deg-lo, deg-pos}
use Rattle.gf2.proofs.Monics.{monic_of}
use Rattle.gf2.proofs.Linear.{Additive, after, both, squared, at_zero}
use Rattle.gf2.proofs.Residues.{rem-⊕, rem-small}
use Rattle.gf2.proofs.Powers.{rem-⊗-left}
use Rattle.gf2.proofs.Criterion.{rigid_irreducible}
use Rattle.basis.specs.Rows.{Independent}
use Rattle.basis.proofs.Matrices.{sum-listed}
use Rattle.stock.proofs.Coefficients.{Word, value, plus, value-plus, size, word, digit, value-word, size_word, divide, divide-rem}
use Rattle.stock.proofs.Coefficients.{divide-size, value_shl, modulus, modulus-deg}
use Rattle.stock.proofs.Independence.{basis, sound, insert, empty, independent}

-- ---- the test

-- a, t a, t² a, ..: n of them
unfoldable pub powers : Word → ℕ → Word → List Word
powers p zero a = []
powers p (suc n) a = a ∷ powers p n (divide p 1 a)

-- b, t² b, t⁴ b, ..
unfoldable pub squares : Word → ℕ → Word → List Word
squares p zero b = []
squares p (suc n) b = b ∷ squares p n (divide p 1 (divide p 1 b))

unfoldable pub sums : List Word → List Word → List Word
sums [] ys = []
sums (x ∷ xs) [] = []
sums (x ∷ xs) (y ∷ ys) = plus x y ∷ sums xs ys

-- Of the polynomial t^k ⊕ p, k = n + 1: its `t` and `1`,
abbrev one : ℕ → Word
one n = word (suc n) 1

abbrev by_t : ℕ → Word → Word
by_t n p = divide p 1 (one n)

-- squaring kills no residue,
unfoldable pub injective : ℕ → Word → Bool
injective n p = sound (basis (suc n) (squares p (suc n) (one n)))

-- and fixes none but 0 and 1
unfoldable pub two_fixed : ℕ → Word → Bool
two_fixed n p = sound (basis (suc n) (sums (powers p n (by_t n p)) (squares p n (divide p 1 (by_t n p)))))

-- `unfolding passes` opens all that the test computes with
unfoldable pub passes : ℕ → Word → Bool
unfolding injective two_fixed powers squares sums basis sound insert empty word digit plus divide
passes n p = injective n p && two_fixed n p

-- ---- the words' values: those of linear maps at the powers of t, modulo the polynomial P

module _ (k : ℕ) (p : Word) (fits : size p ≤ k) where
  abbrev P : ℕ
  P = modulus k p

  pos : 0 < P
  pos = deg-pos (modulus k p) k (modulus-deg k p)

  small : (x : ℕ) → x < 2 ^ k → rem P x ≡ x
  small x h = rem-small pos x (rw (degree-eq (modulus k p) k (modulus-deg k p)) h)

  reduction : Additive (rem P)
  reduction = record { sum = rem-⊕ pos }

  squaring : Additive (λ x. rem P (x ⊗ x))
  squaring = after reduction squared

  times_t : (w : Word) → size w ≤ k → (x : ℕ) → value k w ≡ rem P x → value k (divide p 1 w) ≡ rem P (x ⊗ 2)
  times_t w h x e =
      sym (divide-rem k p fits 1 w) ∙ ap (rem P) (value_shl 1 k w h ∙ sym (⊗-pow 1 (value k w)))
      ∙ ap (λ (y : ℕ). rem P (y ⊗ 2)) e ∙ rem-⊗-left pos x 2

  power_up : (i : ℕ) → 2 ^ i ⊗ 2 ≡ 2 ^ suc i
  power_up i = ⊗-pow 1 (2 ^ i) ∙ sym (pow-suc 2 i)

  next_power : (i : ℕ) (a : Word) → size a ≤ k → value k a ≡ rem P (2 ^ i) → value k (divide p 1 a) ≡ rem P (2 ^ suc i)
  next_power i a f e = times_t a f (2 ^ i) e ∙ ap (rem P) (power_up i)

  next-square : (i : ℕ) (b : Word) → size b ≤ k → value k b ≡ rem P (2 ^ i ⊗ 2 ^ i)
      → value k (divide p 1 (divide p 1 b)) ≡ rem P (2 ^ suc i ⊗ 2 ^ suc i)
  next-square i b f e =
      times_t (divide p 1 b) (divide-size k p fits 1 b f) (2 ^ i ⊗ 2 ^ i ⊗ 2) (times_t b f (2 ^ i ⊗ 2 ^ i) e)
      ∙ ap (rem P) (sorted (2 ^ i) 2 ∙ ap (λ (x : ℕ). x ⊗ x) (power_up i))
    where
      sorted : (v t : ℕ) → v ⊗ v ⊗ t ⊗ t ≡ v ⊗ t ⊗ (v ⊗ t)
      sorted v t = simp ring

  twice-size : (b : Word) → size b ≤ k → size (divide p 1 (divide p 1 b)) ≤ k
  twice-size b f = divide-size k p fits 1 (divide p 1 b) (divide-size k p fits 1 b f)

  values-squares : (n i : ℕ) (b : Word) → size b ≤ k → value k b ≡ rem P (2 ^ i ⊗ 2 ^ i)
      → map (value k) (squares p n b) ≡ list_from (λ j. rem P (2 ^ j ⊗ 2 ^ j)) i n
  unfolding squares list_from
  values-squares zero i b f e = refl
  values-squares (suc n) i b f e =
      ap₂ {C = List ℕ} (λ (x : ℕ) (xs : List ℕ). x ∷ xs) e
      (values-squares n (suc i) (divide p 1 (divide p 1 b)) (twice-size b f) (next-square i b f e))

  values-sums : (n i : ℕ) (a b : Word) → size a ≤ k → size b ≤ k → value k a ≡ rem P (2 ^ i) → value k b ≡ rem P (2 ^ i ⊗ 2 ^ i)
      → map (value k) (sums (powers p n a) (squares p n b)) ≡ list_from (λ j. rem P (2 ^ j) ⊕ rem P (2 ^ j ⊗ 2 ^ j)) i n
  unfolding sums powers squares list_from
  values-sums zero i a b f g d e = refl
  values-sums (suc n) i a b f g d e =
      ap₂ {C = List ℕ} (λ (x : ℕ) (xs : List ℕ). x ∷ xs) (value-plus k a b ∙ ap₂ (λ (x y : ℕ). x ⊕ y) d e)
      (values-sums n (suc i) (divide p 1 a) (divide p 1 (divide p 1 b)) (divide-size k p fits 1 a f) (twice-size b g)
      (next_power i a f d) (next-square i b g e))

-- ---- a polynomial that passes is irreducible

one-lt : (n : ℕ) → 1 < 2 ^ suc n
one-lt n = rw pow-suc (omega (arith, pow_pos n))

module _ (n : ℕ) (p : Word) (fits : size p ≤ suc n) where
  abbrev R : ℕ → ℕ
  R x = rem (modulus (suc n) p) x

  rem-one : R 1 ≡ 1
  rem-one = small (suc n) p fits 1 (one-lt n)

  size-one : size (one n) ≤ suc n
  size-one = le_of_eq (size_word (suc n) 1)

  value-one : value (suc n) (one n) ≡ R 1
  value-one = value-word (suc n) 1 ∙ mod-eq_of_lt (one-lt n) ∙ sym rem-one

  value-square : value (suc n) (one n) ≡ R (1 ⊗ 1)
  value-square = value-one ∙ ap R (sym (one-⊗ 1))

  no_nilpotent : T (injective n p) → (h : ℕ) → 0 < h → h < 2 ^ suc n → R (h ⊗ h) ≡ 0 → ⊥
  unfolding injective
  no_nilpotent t h l s e =
      omega (
        arith,
        rows h (rw length_list s) (sum-listed (squaring (suc n) p fits) 0 (suc n) h s ∙ ap (λ (x : ℕ). R (x ⊗ x)) (mul-one h) ∙ e),
      )
    where
      rows : Independent (list_from (λ j. R (2 ^ j ⊗ 2 ^ j)) 0 (suc n))
      rows =
          rw (values-squares (suc n) p fits (suc n) 0 (one n) size-one value-square) at
          (independent (suc n) (squares p (suc n) (one n)) t)

  -- x and its square
  difference : Additive (λ x. R x ⊕ R (x ⊗ x))
  difference = both (reduction (suc n) p fits) (squaring (suc n) p fits)

  -- it is 0 at a residue that squaring fixes; so it is at h = 2 g ⊕ c less its lowest coefficient
  at_rest : (h : ℕ) → h < 2 ^ suc n → R (h ⊗ h) ≡ h → R (h / 2 * 2) ⊕ R (h / 2 * 2 ⊗ (h / 2 * 2)) ≡ 0
  at_rest h s e =
      sym (⊕-zero (D (h / 2 * 2))) ∙ ap (λ (x : ℕ). D (h / 2 * 2) ⊕ x) (sym (at-digit h))
      ∙ sym (difference.sum (h / 2 * 2) (h % 2)) ∙ ap D (by_low h)
      ∙ ap₂ (λ (x y : ℕ). x ⊕ y) (small (suc n) p fits h s) e ∙ ⊕_self h
    where
      D : ℕ → ℕ
      D x = R x ⊕ R (x ⊗ x)

      at-digit : (h : ℕ) → D (h % 2) ≡ 0
      at-digit = by_bit (λ (c : ℕ). D c ≡ 0) (at_zero difference) (ap (λ (x : ℕ). R 1 ⊕ R x) (one-⊗ 1) ∙ ⊕_self (R 1))

  no_idempotent : T (two_fixed n p) → (h : ℕ) → 1 < h → h < 2 ^ suc n → R (h ⊗ h) ≡ h → ⊥
  unfolding two_fixed
  no_idempotent t h l s e =
      omega (
        arith,
        rows (h / 2) (rw length_list (half_lt h n s)) (sum-listed difference 1 n (h / 2) (half_lt h n s) ∙ at_rest h s e),
      )
    where
      rows : Independent (list_from (λ j. R (2 ^ j) ⊕ R (2 ^ j ⊗ 2 ^ j)) 1 n)
      rows =
          rw (values-sums (suc n) p fits n 1 (by_t n p) (divide p 1 (by_t n p)) (divide-size (suc n) p fits 1 (one n) size-one)
          (twice-size (suc n) p fits (one n) size-one) (next_power (suc n) p fits 0 (one n) size-one value-one)
          (next-square (suc n) p fits 0 (one n) size-one value-square)) at
          (independent (suc n) (sums (powers p n (by_t n p)) (squares p n (divide p 1 (by_t n p)))) t)

  pub passes-irreducible : T (passes n p) → Irreducible (modulus (suc n) p)
  unfolding passes
  passes-irreducible t =
      rigid_irreducible (modulus (suc n) p)
      (record {
        proper = lt_of_lt_of_le (one-lt n) (deg-lo (modulus (suc n) p) (suc n) (modulus-deg (suc n) p));
        no_nilpotent = λ h l s e. no_nilpotent (and_left (injective n p) (two_fixed n p) t) h l (lt_of_lt_of_le s (pow_mono (omega (arith, full)))) e;
        no_idempotent = λ h l s e. no_idempotent (and_right (injective n p) (two_fixed n p) t) h l (rw full at s) e;
      })
    where
      full : degree (modulus (suc n) p) ≡ suc n
      full = degree-eq (modulus (suc n) p) (suc n) (modulus-deg (suc n) p)

-- ---- the same of polynomials that are written as numbers

pub modulus-number : (k p : ℕ) → Degree p k → modulus k (word k p) ≡ p
modulus-number k p h = ap (monic k) (value-word k p) ∙ monic_of k p h

pub irreducible_by_test : (n p : ℕ) → Degree p (suc n) → T (passes n (word (suc n) p)) → Irreducible p
irreducible_by_test n p h t =
    rw (modulus-number (suc n) p h) at (passes-irreducible n (word (suc n) p) (le_of_eq (size_word (suc n) p)) t)

-- a table's test: each entry has the degree n + 1 and is irreducible
unfoldable pub good : ℕ → ℕ → Bool
unfolding passes
good n p = eqb (p / 2 ^ suc n) 1 && passes n (word (suc n) p)

pub good-irreducible : (n p : ℕ) → T (good n p) → Irreducible p × Degree p (suc n)
unfolding good
good-irreducible n p t =
    let d = eqb→eq (p / 2 ^ suc n) 1 (and_left (eqb (p / 2 ^ suc n) 1) (passes n (word (suc n) p)) t) in
    (irreducible_by_test n p d (and_right (eqb (p / 2 ^ suc n) 1) (passes n (word (suc n) p)) t), d)
