-- How many roots a polynomial has whose coefficients are residues modulo an irreducible f: with as many different roots as
-- coefficients, each coefficient is 0. By synthetic division.
use mathlib.Core.Path.{◌≡◌, refl, sym, ap, ◌∙◌}
use mathlib.Core.Logic.{◌⊎◌, inl, inr}
use mathlib.Core.List.{List, [], ◌∷◌}
use Prim.Native.Nat.{ℕ, zero, suc, ◌/◌, ◌%◌, ◌^◌, ◌≤◌, ◌<◌}
use native.Mathlib.Nat.{le_refl, le_step, le_of_eq, le_of_suc-le-suc, not-suc-le-zero}
use native.Mathlib.Omega.{arith}
use lib.Arith.{lt-one}
use lib.ListN.{length}
use Rattle.lists.specs.Lists.{All}
use Rattle.gf2.specs.Polynomials.{◌⊕◌, ◌⊗◌, Divides, Irreducible}
use Rattle.gf2.specs.Degrees.{Degree}
use Rattle.gf2.proofs.Sums.{xor}
use Rattle.gf2.proofs.Products.{ring}
use Rattle.gf2.proofs.Degrees.{half_lt}
use Rattle.gf2.proofs.Divisors.{dvd_by, dvd-⊕, dvd-⊗, dvd-small}
use Rattle.gf2.proofs.Irreducibles.{euclid_lemma}
use Rattle.fields.specs.Fields.{compose}
use Rattle.fields.proofs.Values.{compose-zero, compose-step}

-- the value at x of the polynomial with these coefficients, the lowest first
unfoldable pub evaluate : List ℕ → ℕ → ℕ
evaluate [] x = 0
evaluate (c ∷ cs) x = c ⊕ x ⊗ evaluate cs x

-- the quotient by X - a, and before it the remainder: the values at a of all ends of the list
unfoldable ends : ℕ → List ℕ → List ℕ
ends a [] = []
ends a (c ∷ cs) = evaluate (c ∷ cs) a ∷ ends a cs

length-ends : (a : ℕ) (cs : List ℕ) → length (ends a cs) ≡ length cs
unfolding ends
length-ends a [] = refl
length-ends a (c ∷ cs) = ap suc (length-ends a cs)

divide_base : (c a x : ℕ) → c ⊕ x ⊗ 0 ≡ c ⊕ a ⊗ 0 ⊕ (x ⊕ a) ⊗ 0
divide_base c a x = simp ring

divide-step : (c a x v q : ℕ) → c ⊕ x ⊗ (v ⊕ (x ⊕ a) ⊗ q) ≡ c ⊕ a ⊗ v ⊕ (x ⊕ a) ⊗ (v ⊕ x ⊗ q)
divide-step c a x v q = simp ring

divided : (c : ℕ) (cs : List ℕ) (a x : ℕ) → evaluate (c ∷ cs) x ≡ evaluate (c ∷ cs) a ⊕ (x ⊕ a) ⊗ evaluate (ends a cs) x
unfolding evaluate ends
divided c [] a x = divide_base c a x
divided c (d ∷ cs) a x =
    ap (λ (y : ℕ). c ⊕ x ⊗ y) (divided d cs a x) ∙ divide-step c a x (evaluate (d ∷ cs) a) (evaluate (ends a cs) x)

head_base : (c a : ℕ) → c ⊕ a ⊗ 0 ≡ c
head_base c a = simp ring

head_step : (c a v : ℕ) → c ⊕ a ⊗ v ⊕ a ⊗ v ≡ c
head_step c a v = simp xor

-- where all ends are 0 at a, so are the coefficients
from-ends : (f a c : ℕ) (cs : List ℕ) → Divides f (evaluate (c ∷ cs) a) → All (Divides f) (ends a cs) → All (Divides f) (c ∷ cs)
unfolding evaluate ends
from-ends f a c [] h t = (dvd_by h (head_base c a), tt)
from-ends f a c (d ∷ cs) h t =
    (dvd_by (dvd-⊕ h (dvd-⊗ a t.0)) (head_step c a (evaluate (d ∷ cs) a)), from-ends f a d cs t.0 t.1)

cancel : (u v : ℕ) → v ⊕ u ⊕ v ≡ u
cancel u v = simp xor

-- another root than a is a root of the quotient
quotient-root : (f c : ℕ) (cs : List ℕ) (a x : ℕ) → Irreducible f → (Divides f (x ⊕ a) → ⊥)
    → Divides f (evaluate (c ∷ cs) x) → Divides f (evaluate (c ∷ cs) a) → Divides f (evaluate (ends a cs) x)
quotient-root f c cs a x i ne hx ha =
    go (euclid_lemma f (x ⊕ a) (evaluate (ends a cs) x) i
    (dvd_by (dvd-⊕ (dvd_by hx (divided c cs a x)) ha) (cancel ((x ⊕ a) ⊗ evaluate (ends a cs) x) (evaluate (c ∷ cs) a))))
  where
    go : Divides f (x ⊕ a) ⊎ Divides f (evaluate (ends a cs) x) → Divides f (evaluate (ends a cs) x)
    go (inl h) = absurd (ne h)
    go (inr h) = h

-- n of the numbers s 0, s 1, .., no two of them equal modulo f
abbrev pub Different : ℕ → ℕ → (ℕ → ℕ) → Type 0
Different f n s = (i j : ℕ) → i < j → j < n → Divides f (s i ⊕ s j) → ⊥

pub all-zero : (f : ℕ) → Irreducible f → (s : ℕ → ℕ) (n : ℕ) (cs : List ℕ) → length cs ≤ n → Different f n s
    → ((i : ℕ) → i < n → Divides f (evaluate cs (s i))) → All (Divides f) cs
all-zero f irr s zero [] l d r = tt
all-zero f irr s zero (c ∷ cs) l d r = absurd (not-suc-le-zero l)
all-zero f irr s (suc n) [] l d r = tt
all-zero f irr s (suc n) (c ∷ cs) l d r =
    from-ends f (s n) c cs (r n (le_refl (suc n)))
    (all-zero f irr s n (ends (s n) cs) (rw (length-ends (s n) cs) (le_of_suc-le-suc l)) (λ i j a b. d i j a (le_step b))
    (λ i a. quotient-root f c cs (s n) (s i) irr (d i n a (le_refl (suc n))) (r i (le_step a)) (r n (le_refl (suc n)))))

-- ---- a polynomial over GF(2)

unfoldable coefficients : ℕ → ℕ → List ℕ
coefficients zero p = []
coefficients (suc n) p = p % 2 ∷ coefficients n (p / 2)

length-coefficients : (n p : ℕ) → length (coefficients n p) ≡ n
unfolding coefficients
length-coefficients zero p = refl
length-coefficients (suc n) p = ap suc (length-coefficients n (p / 2))

swap_terms : (c x v : ℕ) → c ⊕ x ⊗ v ≡ v ⊗ x ⊕ c
swap_terms c x v = simp ring

evaluate-coefficients : (n p x : ℕ) → p < 2 ^ n → evaluate (coefficients n p) x ≡ compose p x
unfolding coefficients evaluate
evaluate-coefficients zero p x l = sym (ap (λ (y : ℕ). compose y x) (lt-one l) ∙ compose-zero x)
evaluate-coefficients (suc n) p x l =
    ap (λ (y : ℕ). p % 2 ⊕ x ⊗ y) (evaluate-coefficients n (p / 2) x (half_lt p n l))
    ∙ swap_terms (p % 2) x (compose (p / 2) x) ∙ sym (compose-step p x)

module _ (f k : ℕ) (of_degree : Degree f k) (proper : 1 < 2 ^ k) where
  no_digit : (n p : ℕ) → p < 2 ^ n → All (Divides f) (coefficients n p) → p ≡ 0
  unfolding coefficients
  no_digit zero p l a = lt-one l
  no_digit (suc n) p l a = omega (arith, no_digit n (p / 2) (half_lt p n l) a.1, dvd-small k of_degree a.0 (omega arith))

  -- a polynomial of degree below n with n different roots is 0
  pub few_roots : Irreducible f → (n p : ℕ) (s : ℕ → ℕ) → p < 2 ^ n → Different f n s
      → ((i : ℕ) → i < n → Divides f (compose p (s i))) → p ≡ 0
  few_roots irr n p s l d r =
      no_digit n p l
      (all-zero f irr s n (coefficients n p) (le_of_eq (length-coefficients n p)) d (λ i a. dvd_by (r i a) (sym (evaluate-coefficients n p (s i) l))))
