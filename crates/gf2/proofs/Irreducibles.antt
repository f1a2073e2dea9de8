-- Bezout's equation, Euclid's lemma, and how many different irreducible polynomials of one degree can divide given polynomials.
use mathlib.Core.Path.{◌≡◌, sym, ap, ◌∙◌}
use mathlib.Core.Logic.{◌≢◌, ◌⊎◌, inl, inr, ⊎_elim}
use mathlib.Core.List.{List, [], ◌∷◌}
use Prim.Native.Nat.{ℕ, zero, suc, ◌+◌, ◌*◌, ◌^◌, ◌≤◌, ◌<◌, zero-le}
use native.Mathlib.Nat.{le_refl, le_trans, lt_of_lt_of_le, lt_of_le_of_lt, zero-lt-suc, eq-zero-or-pos, le_of_suc-le-suc, zero-mul}
use native.Mathlib.Decide.{ℕ_discrete, dec_lt}
use native.Mathlib.Omega.{arith}
use lib.ListN.{length}
use lib.Pow.{pow_mono}
use Rattle.lists.specs.Lists.{All, Distinct}
use Rattle.gf2.specs.Polynomials.{◌⊕◌, ◌⊗◌, degree, rem, Divides, Irreducible}
use Rattle.gf2.specs.Degrees.{Degree}
use Rattle.lists.proofs.Lists.{all-zip}
use Rattle.gf2.proofs.Sums.{xor}
use Rattle.gf2.proofs.Products.{zero-⊗, one-⊗, ⊕-⊗, ⊗_assoc, ⊗_comm, ring}
use Rattle.gf2.proofs.Degrees.{degree-is, degree-eq, degree-⊗, deg-lo, deg_hi, lt_of_pow-lt, deg-zero}
use Rattle.gf2.proofs.Divisors.{dvd_by, dvd-left, dvd_refl, dvd-zero, dvd-⊕, dvd-⊗, dvd_trans}
use Rattle.gf2.proofs.Residues.{rem_lt, rem-dvd}

-- ---- Bezout: a common divisor that is a combination

pub record Bezout (a b : ℕ) : Type 0 where
  pub gcd : ℕ
  pub left : Divides gcd a
  pub right : Divides gcd b
  pub u : ℕ
  pub v : ℕ
  pub combines : u ⊗ a ⊕ v ⊗ b ≡ gcd

combine : (a b q r u v : ℕ) → q ⊗ b ≡ a ⊕ r → v ⊗ a ⊕ (u ⊕ v ⊗ q) ⊗ b ≡ u ⊗ b ⊕ v ⊗ r
combine a b q r u v e = rw (⊕-⊗, ⊗_assoc, e) (simp ring)

-- one division of Euclid's algorithm
divide : (a b : ℕ) → 0 < b → Bezout b (rem b a) → Bezout a b
divide a b pos e =
    record {
      gcd = e.gcd;
      left = dvd_by (dvd-⊕ (dvd_trans e.left (rem-dvd pos a)) e.right) (simp xor);
      right = e.left;
      u = e.v;
      v = e.u ⊕ e.v ⊗ (rem-dvd pos a).quotient;
      combines = combine a b (rem-dvd pos a).quotient (rem b a) e.u e.v (rem-dvd pos a).product ∙ e.combines;
    }

rem-less : (a b : ℕ) → 0 < b → rem b a < b
rem-less a b pos = lt_of_lt_of_le (rem_lt pos a) (deg-lo b (degree b) (degree-is b pos))

by_zero : (a : ℕ) → Bezout a 0
by_zero a = record { gcd = a; left = dvd_refl a; right = dvd-zero a; u = 1; v = 0; combines = simp ring }

-- at most n divisions
euclid : (n a b : ℕ) → b ≤ n → Bezout a b
euclid zero a zero h = by_zero a
euclid zero a (suc b) h = absurd (omega arith)
euclid (suc n) a zero h = by_zero a
euclid (suc n) a (suc b) h =
    divide a (suc b) (zero-lt-suc b)
    (euclid n (suc b) (rem (suc b) a) (le_of_suc-le-suc (le_trans (rem-less a (suc b) (zero-lt-suc b)) h)))

pub bezout : (a b : ℕ) → Bezout a b
bezout a b = euclid b a b (le_refl b)

-- ---- irreducible polynomials

pub euclid_lemma : (p a b : ℕ) → Irreducible p → Divides p (a ⊗ b) → Divides p a ⊎ Divides p b
euclid_lemma p a b i h = go (bezout p a)
  where
    cases : (e : Bezout p a) → (e.gcd ≡ 1) ⊎ (e.gcd ≡ p) → Divides p a ⊎ Divides p b
    cases e (inl one) = inr (dvd_by (dvd-⊕ (dvd-left (b ⊗ e.u) p) (dvd-⊗ e.v h)) (expand ∙ ap (λ (x : ℕ). x ⊗ b) (e.combines ∙ one) ∙ one-⊗ b))
      where
        expand : b ⊗ e.u ⊗ p ⊕ e.v ⊗ (a ⊗ b) ≡ (e.u ⊗ p ⊕ e.v ⊗ a) ⊗ b
        expand = simp ring
    cases e (inr whole) = inl (rw whole at e.right)

    go : Bezout p a → Divides p a ⊎ Divides p b
    go e = cases e (i.only e.gcd e.left)

-- ---- the same by degrees: no polynomial of a degree from 1 to k - 1 divides p

pub pos-left : (q d p : ℕ) → q ⊗ d ≡ p → 0 < p → 0 < q
pos-left q d p e pos = go (eq-zero-or-pos q)
  where
    go : (q ≡ 0) ⊎ (0 < q) → 0 < q
    go (inl z) = absurd (omega (arith, sym e ∙ ap (λ (x : ℕ). x ⊗ d) z ∙ zero-⊗ d))
    go (inr l) = l

pub pos-right : (q d p : ℕ) → q ⊗ d ≡ p → 0 < p → 0 < d
pos-right q d p e pos = pos-left d q p (⊗_comm d q ∙ e) pos

-- the degrees of two factors add up,
pub factor_degrees : (q d p : ℕ) → q ⊗ d ≡ p → 0 < p → degree p ≡ degree q + degree d
factor_degrees q d p e pos = ap degree (sym e) ∙ degree-⊗ q d (pos-left q d p e pos) (pos-right q d p e pos)

-- so beside a divisor that is not 1 the other factor is smaller,
pub factor_lt : (q d p : ℕ) → q ⊗ d ≡ p → 0 < p → d ≢ 1 → q < 2 ^ degree p
factor_lt q d p e pos ne =
    lt_of_lt_of_le (deg_hi q (degree q) (degree-is q (pos-left q d p e pos))) (pow_mono (omega (arith, factor_degrees q d p e pos, proper)))
  where
    proper : degree d ≢ 0
    proper z = ne (deg-zero d (rw z at (degree-is d (pos-right q d p e pos))))

-- and a divisor of full degree is the whole
pub whole : (d p : ℕ) → Divides d p → 0 < p → 2 ^ degree p ≤ d → d ≡ p
whole d p h pos l = sym (one-⊗ d) ∙ ap (λ (x : ℕ). x ⊗ d) (sym q-one) ∙ h.product
  where
    q : ℕ
    q = h.quotient

    q-pos : 0 < q
    q-pos = pos-left q d p h.product pos

    d-pos : 0 < d
    d-pos = pos-right q d p h.product pos

    no_less : degree p ≤ degree d
    no_less = le_of_suc-le-suc (lt_of_pow-lt (degree p) (suc (degree d)) (lt_of_le_of_lt l (deg_hi d (degree d) (degree-is d d-pos))))

    q-one : q ≡ 1
    q-one = deg-zero q (rw zero-degree at (degree-is q q-pos))
      where
        zero-degree : degree q ≡ 0
        zero-degree = omega (arith, factor_degrees q d p h.product pos, no_less)

pub irreducible : (p : ℕ) → 1 < p → ((d : ℕ) → 1 < d → d < 2 ^ degree p → Divides d p → ⊥) → Irreducible p
irreducible p lt none = record { proper = lt; only = λ d h. go d h (ℕ_discrete d 1) (dec_lt d (2 ^ degree p)) }
  where
    go : (d : ℕ) → Divides d p → Dec (d ≡ 1) → Dec (d < 2 ^ degree p) → (d ≡ 1) ⊎ (d ≡ p)
    go d h (yes e) small = inl e
    go d h (no n) (yes l) = absurd (none d (omega (arith, pos-right h.quotient d p h.product (omega arith))) l h)
    go d h (no n) (no m) = inr (whole d p h (omega arith) (omega arith))

pub no_divisor : (p d : ℕ) → Irreducible p → 1 < d → d < 2 ^ degree p → Divides d p → ⊥
no_divisor p d i l h e =
    ⊎_elim (λ o. omega arith) (λ w. omega (arith, deg-lo p (degree p) (degree-is p (omega (arith, i.proper))))) (i.only d e)

-- ---- how many there are

pub record Factor (k D p : ℕ) : Type 0 where
  pub irreducible : Irreducible p
  pub of_degree : Degree p k
  pub divides : Divides p D

-- another irreducible factor of q ⊗ p than p divides q
other : (k q p p' : ℕ) → Irreducible p → p' ≢ p → Factor k (q ⊗ p) p' → Factor k q p'
other k q p p' i ne f =
    record { irreducible = f.irreducible; of_degree = f.of_degree; divides = go (euclid_lemma p' q p f.irreducible f.divides) }
  where
    go : Divides p' q ⊎ Divides p' p → Divides p' q
    go (inl h) = h
    go (inr h) = ⊎_elim (λ e. absurd (omega (arith, f.irreducible.proper))) (λ e. absurd (ne e)) (i.only p' h)

-- different irreducible polynomials of degree k that divide D: their degrees add up to the degree of D at most
pub count : (k D : ℕ) (ps : List ℕ) → 0 < D → Distinct ps → All (Factor k D) ps → length ps * k ≤ degree D
count k D [] pos d f = rw zero-mul zero-le
count k D (p ∷ ps) pos d f = omega (arith, count k q ps q-pos d.1 rest, degree_D)
  where
    q : ℕ
    q = f.0.divides.quotient

    is : q ⊗ p ≡ D
    is = f.0.divides.product

    q-pos : 0 < q
    q-pos = pos-left q p D is pos

    rest : All (Factor k q) ps
    rest = all-zip (λ p' ne g. other k q p p' f.0.irreducible ne (rw (← is) at g)) ps d.0 f.1

    degree_D : degree D ≡ degree q + k
    degree_D = factor_degrees q p D is pos ∙ ap (λ (x : ℕ). degree q + x) (degree-eq p k f.0.of_degree)
