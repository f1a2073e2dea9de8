-- Rabin's Lemma 2: drawing is fair. Every irreducible polynomial of the prime degree k has a root modulo f, and so exactly k of
-- the residues from 2 to 2^k - 1 draw it: the conjugates of that root.
use mathlib.Core.Path.{◌≡◌, sym, ap, ◌∙◌}
use mathlib.Core.Logic.{◌≢◌, ◌⊎◌, inl, inr, ⊎_elim}
use Prim.Native.Nat.{ℕ, ◌+◌, ◌/◌, ◌%◌, ◌^◌, ◌<◌}
use native.Mathlib.Nat.{lt_of_lt_of_le}
use native.Mathlib.Decide.{dec_lt}
use native.Mathlib.Omega.{arith}
use lib.Arith.{bin_ind}
use lib.Pow.{pow_mono}
use Rattle.gf2.specs.Polynomials.{◌⊕◌, ◌⊗◌, degree, Divides, rem, Irreducible}
use Rattle.gf2.specs.Degrees.{Degree}
use Rattle.gf2.proofs.Sums.{⊕-zero, ⊕-lt, ⊕-bit}
use Rattle.gf2.proofs.Products.{⊗-zero, ⊗-one, bit-cases, mod_2}
use Rattle.gf2.proofs.Degrees.{degree-is, degree-eq, deg-lo, deg_hi, deg-pos}
use Rattle.gf2.proofs.Divisors.{dvd_by, dvd_refl, dvd-small}
use Rattle.gf2.proofs.Residues.{rem_lt, rem_of_dvd, dvd_of_rem-zero, dvd_of_rem}
use Rattle.gf2.proofs.Irreducibles.{euclid_lemma, pos-left, factor_degrees}
use Rattle.fields.specs.Fields.{compose, at}
use Rattle.fields.specs.Primes.{Field}
use Rattle.fields.proofs.Values.{compose-zero, compose-step, compose-⊗, compose_id, compose_cong}
use Rattle.fields.proofs.Squaring.{power, squares}
use Rattle.fields.proofs.Fermat.{fermat, fermat-all, frobenius_degree, frobenius_at, positive, one-lt, residues-differ}
use Rattle.fields.proofs.Conjugates.{field-pos, field-degree, field-four, conjugates_differ}
use Rattle.fields.proofs.Roots.{few_roots}
use Rattle.fields.proofs.Pigeonhole.{Found, stands}
use Rattle.draw.specs.Drawing.{Draws}
use Rattle.draw.proofs.Draws.{conjugate-is, conjugate-draws, only_conjugates}

-- ---- who draws p

-- the k conjugates of one residue: elements to draw with, all different, each draws p, and no other does
pub record Drawers (f k p : ℕ) : Type 0 where
  pub element : ℕ → ℕ
  pub above : (j : ℕ) → 1 < element j
  pub below : (j : ℕ) → element j < 2 ^ k
  pub different : (i j : ℕ) → i < j → j < k → element i ≢ element j
  pub draw : (j : ℕ) → Draws f k (element j) p
  pub all : (x : ℕ) → x < 2 ^ k → Draws f k x p → Found k x element

-- ---- a root: p divides t^(2^k) - t, which has every residue modulo f for a root. The quotient has too low a degree for that.

module _ (f p k : ℕ) (irr-f : Irreducible f) (deg-f : Degree f k) (irr-p : Irreducible p) (deg-p : Degree p k) where
  pos : 0 < f
  pos = deg-pos f k deg-f

  q : ℕ
  q = (fermat p k irr-p deg-p).quotient

  splits : q ⊗ p ≡ power k 2 ⊕ 2
  unfolding q
  splits = (fermat p k irr-p deg-p).product

  whole-degree : Degree (power k 2 ⊕ 2) (2 ^ k)
  whole-degree = frobenius_degree k (positive f k irr-f deg-f)

  q-pos : 0 < q
  q-pos = pos-left q p (power k 2 ⊕ 2) splits (deg-pos (power k 2 ⊕ 2) (2 ^ k) whole-degree)

  degrees : 2 ^ k ≡ degree q + k
  degrees =
      sym (degree-eq (power k 2 ⊕ 2) (2 ^ k) whole-degree)
      ∙ factor_degrees q p (power k 2 ⊕ 2) splits (deg-pos (power k 2 ⊕ 2) (2 ^ k) whole-degree)
      ∙ ap (λ (x : ℕ). degree q + x) (degree-eq p k deg-p)

  q-lt : q < 2 ^ (2 ^ k)
  q-lt = lt_of_lt_of_le (deg_hi q (degree q) (degree-is q q-pos)) (pow_mono (omega (arith, degrees, positive f k irr-f deg-f)))

  -- each residue is a root of one of the two
  either : (e : ℕ) → Divides f (compose q e) ⊎ Divides f (compose p e)
  either e =
      euclid_lemma f (compose q e) (compose p e) irr-f
      (dvd_by (fermat-all f k irr-f deg-f e) (sym (frobenius_at k e) ∙ ap (λ (x : ℕ). compose x e) (sym splits) ∙ compose-⊗ q p e))

  has_root : Found (2 ^ k) 0 (at f p)
  unfolding at
  has_root =
      stands (at f p) 0 (2 ^ k)
      (λ none. omega (
        arith,
        q-pos,
        few_roots f k deg-f (one-lt f k irr-f deg-f) irr-f (2 ^ k) q (λ x. x) q-lt (residues-differ f k irr-f deg-f)
            (λ e l. ⊎_elim (λ d. d) (λ d. absurd (none e l (rem_of_dvd pos (compose p e) d))) (either e)),
      ))

-- ---- 0 and 1 are no roots

digit_value : (p c : ℕ) → c < 2 → compose p c < 2
digit_value p c l = go (bit-cases c l)
  where
    at_zero : compose p 0 < 2
    at_zero = rw (compose-step p 0, ⊗-zero) (⊕-lt 1 0 (p % 2) (omega arith) (mod_2 p))

    at_one : compose p 1 < 2
    at_one =
        bin_ind (λ (n : ℕ). compose n 1 < 2) (rw compose-zero (omega arith))
        (λ n ih. rw (compose-step n 1, ⊗-one) (⊕-lt 1 (compose (n / 2) 1) (n % 2) ih (mod_2 n))) p

    go : (c ≡ 0) ⊎ (c ≡ 1) → compose p c < 2
    go (inl e) = rw e at_zero
    go (inr e) = rw e at_one

module _ (f k : ℕ) (h : Field f k) (p : ℕ) (irr : Irreducible p) (deg : Degree p k) where
  pos-f : 0 < f
  pos-f = field-pos f k h

  -- p(c) = 0 makes t - c a divisor
  no_digit-root : (c : ℕ) → c < 2 → at f p c ≡ 0 → ⊥
  unfolding at
  no_digit-root c l z =
      ⊎_elim (λ e. omega (arith, ⊕-bit 1 c l)) (λ e. omega (arith, ⊕-bit 1 c l, deg-lo p k deg, field-four f k h)) (irr.only (2 ⊕ c) divisor)
    where
      value-zero : compose p c ≡ 0
      value-zero = dvd-small k h.of_degree (dvd_of_rem-zero pos-f (compose p c) z) (lt_of_lt_of_le (digit_value p c l) (omega (arith, field-four f k h)))

      divisor : Divides (2 ⊕ c) p
      divisor = dvd_by (compose_cong (2 ⊕ c) p 2 c (dvd_refl (2 ⊕ c))) (rw (compose_id p, value-zero) (⊕-zero p))

  root-proper : (e : ℕ) → at f p e ≡ 0 → 1 < e
  root-proper e z = go (dec_lt 1 e)
    where
      go : Dec (1 < e) → 1 < e
      go (yes l) = l
      go (no n) = absurd (no_digit-root e (omega arith) z)

  -- ---- the conjugates of a root draw p

  pub drawers : Drawers f k p
  drawers =
      record {
        element = λ j. squares f j e;
        above = λ j. root-proper (squares f j e) (each j).root;
        below = λ j. rw (is j) (rw (field-degree f k h) at (rem_lt pos-f (power j e)));
        different = λ i j l b s. conjugates_differ f k e h low high i j l b (dvd_of_rem pos-f (power i e) (power j e) (sym (is i) ∙ s ∙ is j));
        draw = each;
        all = λ x l a. only_conjugates f k h e low high p x draws l a.root;
      }
    where
      found : Found (2 ^ k) 0 (at f p)
      found = has_root f p k h.irreducible h.of_degree irr deg

      e : ℕ
      e = found.place

      high : e < 2 ^ k
      high = found.before

      low : 1 < e
      low = root-proper e found.is

      draws : Draws f k e p
      draws = record { of_degree = deg; root = found.is }

      is : (j : ℕ) → squares f j e ≡ rem f (power j e)
      is = conjugate-is f k h e low high

      each : (j : ℕ) → Draws f k (squares f j e) p
      each j = conjugate-draws f k h e low high p j draws
