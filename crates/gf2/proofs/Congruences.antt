-- Polynomials with equal residues modulo irreducible ones: how many such moduli of one degree k there can be, and that there is none where
-- the two differ inside k neighbouring places; factors that cancel.
use mathlib.Core.Path.{◌≡◌, sym, ap, ◌∙◌}
use mathlib.Core.Logic.{◌≢◌, ◌⊎◌, inl, inr}
use mathlib.Core.List.{List}
use Prim.Native.Nat.{ℕ, zero, suc, ◌*◌, ◌^◌, ◌≤◌, ◌<◌}
use native.Mathlib.Nat.{lt_of_lt_of_le, eq-zero-or-pos, zero-mul, pow-succ'}
use native.Mathlib.Omega.{arith}
use lib.ListN.{length}
use lib.Pow.{pow_mono}
use Rattle.lists.specs.Lists.{All, Distinct}
use Rattle.lists.proofs.Lists.{all_map}
use Rattle.gf2.specs.Polynomials.{◌⊕◌, ◌⊗◌, degree, rem, Divides, Irreducible}
use Rattle.gf2.specs.Degrees.{Degree}
use Rattle.gf2.proofs.Sums.{⊕-eq, ⊕-lt}
use Rattle.gf2.proofs.Products.{⊕-⊗, ⊗-pow}
use Rattle.gf2.proofs.Degrees.{degree-is, deg-le}
use Rattle.gf2.proofs.Divisors.{dvd_by, dvd-small}
use Rattle.gf2.proofs.Residues.{dvd_of_rem}
use Rattle.gf2.proofs.Irreducibles.{euclid_lemma, Factor, count}

-- p is irreducible, of degree k, and the residues modulo p are equal
pub record Congruent (k a b p : ℕ) : Type 0 where
  pub irreducible : Irreducible p
  pub of_degree : Degree p k
  pub residues : rem p a ≡ rem p b

pub irreducible-pos : {p : ℕ} → Irreducible p → 0 < p
irreducible-pos i = omega (arith, i.proper)

congruent-divides : {k a b p : ℕ} → Congruent k a b p → Divides p (a ⊕ b)
congruent-divides {k} {a} {b} c = dvd_of_rem (irreducible-pos c.irreducible) a b c.residues

-- ---- how many there are

congruent_factor : (k a b p : ℕ) → Congruent k a b p → Factor k (a ⊕ b) p
congruent_factor k a b p c = record { irreducible = c.irreducible; of_degree = c.of_degree; divides = congruent-divides c }

-- different moduli of degree k, for two different polynomials of degree n at most
pub congruent-count : (k n a b : ℕ) → a ≢ b → a < 2 ^ suc n → b < 2 ^ suc n → (ps : List ℕ) → Distinct ps → All (Congruent k a b) ps
    → length ps * k ≤ n
congruent-count k n a b ne la lb ps d all = go (eq-zero-or-pos (a ⊕ b))
  where
    go : (a ⊕ b ≡ 0) ⊎ (0 < a ⊕ b) → length ps * k ≤ n
    go (inl e) = absurd (ne (⊕-eq a b e))
    go (inr pos) =
        omega (
          arith,
          count k (a ⊕ b) ps pos d (all_map (congruent_factor k a b) ps all),
          deg-le (a ⊕ b) (degree (a ⊕ b)) (suc n) (degree-is (a ⊕ b) pos) (⊕-lt (suc n) a b la lb),
        )

-- ---- powers of t

-- a polynomial of degree 2 or more that is irreducible divides no power of t
pub no_power : (p k s : ℕ) → Irreducible p → Degree p k → 2 ≤ k → Divides p (2 ^ s) → ⊥
no_power p k zero i d l h = absurd (omega (arith, dvd-small k {a = 1} d h (lt_of_lt_of_le (omega arith) (pow_mono {i = 2} l))))
no_power p k (suc s) i d l h = go (euclid_lemma p 2 (2 ^ s) i (dvd_by h (pow-succ' 2 s ∙ sym (⊗-pow s 2)))) (no_power p k s i d l)
  where
    go : Divides p 2 ⊎ Divides p (2 ^ s) → (Divides p (2 ^ s) → ⊥) → ⊥
    go (inl g) n = omega (arith, dvd-small k {a = 2} d g (lt_of_lt_of_le (omega arith) (pow_mono {i = 2} l)))
    go (inr g) n = n g

-- an irreducible polynomial of degree k divides no E·t^s, E not 0 and below t^k
pub no_burst : (p k e s : ℕ) → Irreducible p → Degree p k → 2 ≤ k → e < 2 ^ k → Divides p (e * 2 ^ s) → e ≡ 0
no_burst p k e s i d l lt h = go (euclid_lemma p e (2 ^ s) i (dvd_by h (sym (⊗-pow s e))))
  where
    go : Divides p e ⊎ Divides p (2 ^ s) → e ≡ 0
    go (inl g) = dvd-small k d g lt
    go (inr g) = absurd (no_power p k s i d l g)

-- a polynomial below t^k times a power of t
pub record Shifted (k D : ℕ) : Type 0 where
  pub part : ℕ
  pub shift : ℕ
  pub small : part < 2 ^ k
  pub is : D ≡ part * 2 ^ shift

-- so polynomials that differ inside k neighbouring places are equal where their residues are
pub congruent-equal : (k a b p : ℕ) → 2 ≤ k → Shifted k (a ⊕ b) → Congruent k a b p → a ≡ b
congruent-equal k a b p two x c = ⊕-eq a b (x.is ∙ ap (λ (y : ℕ). y * 2 ^ x.shift) none ∙ zero-mul (2 ^ x.shift))
  where
    none : x.part ≡ 0
    none = no_burst p k x.part x.shift c.irreducible c.of_degree two x.small (dvd_by (congruent-divides c) x.is)

-- ---- factors cancel

-- two residues are equal where their products with a factor that p does not divide have equal residues
pub cancel : (p a x y : ℕ) → Irreducible p → (Divides p a → ⊥) → x < 2 ^ degree p → y < 2 ^ degree p → rem p (x ⊗ a) ≡ rem p (y ⊗ a) → x ≡ y
cancel p a x y i n hx hy e = ⊕-eq x y (go (euclid_lemma p (x ⊕ y) a i (dvd_by (dvd_of_rem (irreducible-pos i) (x ⊗ a) (y ⊗ a) e) (sym (⊕-⊗ x y a)))))
  where
    go : Divides p (x ⊕ y) ⊎ Divides p a → x ⊕ y ≡ 0
    go (inl d) = dvd-small (degree p) (degree-is p (irreducible-pos i)) d (⊕-lt (degree p) x y hx hy)
    go (inr d) = absurd (n d)

-- the factor being a power of t, of which no irreducible polynomial of degree 2 or more is a divisor
pub shift_cancels : (p a b e : ℕ) → Irreducible p → 2 ≤ degree p → a < 2 ^ degree p → b < 2 ^ degree p
    → rem p (a * 2 ^ e) ≡ rem p (b * 2 ^ e) → a ≡ b
shift_cancels p a b e i two la lb h =
    cancel p (2 ^ e) a b i (no_power p (degree p) e i (degree-is p (irreducible-pos i)) two) la lb
    (ap (rem p) (⊗-pow e a) ∙ h ∙ sym (ap (rem p) (⊗-pow e b)))
