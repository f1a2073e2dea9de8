-- Rabin's drawing of a key: modulo f, irreducible of a prime degree k, each residue e but 0 and 1 is a root of exactly one
-- polynomial of degree k over GF(2). That one is irreducible, and its roots are the k conjugates of e.
use mathlib.Core.Path.{◌≡◌, sym, ap, ◌∙◌}
use mathlib.Core.Logic.{◌≢◌, ⊎_elim}
use Prim.Native.Nat.{ℕ, zero, suc, ◌^◌, ◌≤◌, ◌<◌}
use native.Mathlib.Nat.{lt_trans, two-pow-succ, le_of_suc-le-suc, not-suc-le-zero, div_self}
use native.Mathlib.Decide.{dec_lt}
use native.Mathlib.Omega.{arith}
use borrow.Author.Tests.{eqb-true, eq-eqb}
use lib.Dec.{eqb}
use lib.Pow.{pow_pos}
use Rattle.gf2.specs.Polynomials.{◌⊕◌, degree, Divides, rem, Irreducible}
use Rattle.gf2.proofs.Sums.{⊕_self, ⊕_comm, ⊕-eq, ⊕-lt, xor}
use Rattle.gf2.proofs.Degrees.{degree-eq, deg-lo, deg_hi, deg_intro, deg-pos, deg-⊕, deg-cancel}
use Rattle.gf2.proofs.Divisors.{dvd_by, dvd-⊕}
use Rattle.gf2.proofs.Residues.{rem_lt, rem-small, rem-dvd, rem_cong, rem_of_dvd, dvd_of_rem-zero}
use Rattle.gf2.proofs.Irreducibles.{irreducible, euclid_lemma, pos-left, factor_lt}
use Rattle.fields.specs.Fields.{compose, at}
use Rattle.fields.specs.Primes.{Field}
use Rattle.fields.proofs.Values.{compose-⊗, compose_cong, at-⊕}
use Rattle.fields.proofs.Squaring.{power, compose-power, dvd-power, squares, squares-power}
use Rattle.fields.proofs.Conjugates.{field-pos, field-degree, field-four, conjugates_differ}
use Rattle.fields.proofs.Roots.{Different, few_roots}
use Rattle.fields.proofs.Pigeonhole.{Collision, pigeonhole, Found, stands}
use Rattle.lists.proofs.Searches.{first-is}
use Rattle.draw.specs.Drawing.{Draws, drawn}

module _ (f k : ℕ) (h : Field f k) where
  pos : 0 < f
  pos = field-pos f k h

  full : degree f ≡ k
  full = field-degree f k h

  four : 4 ≤ 2 ^ k
  four = field-four f k h

  at_lt : (p e : ℕ) → at f p e < 2 ^ k
  unfolding at
  at_lt p e = rw full at (rem_lt pos (compose p e))

  vanishes : (p e : ℕ) → at f p e ≡ 0 → Divides f (compose p e)
  unfolding at
  vanishes p e z = dvd_of_rem-zero pos (compose p e) z

  is_zero : (p e : ℕ) → Divides f (compose p e) → at f p e ≡ 0
  unfolding at
  is_zero p e d = rem_of_dvd pos (compose p e) d

  conjugate-root : (p e j : ℕ) → Divides f (compose p e) → Divides f (compose p (power j e))
  conjugate-root p e j d = dvd_by (dvd-power f j (compose p e) d) (sym (compose-power p j e))

  module _ (e : ℕ) (low : 1 < e) (high : e < 2 ^ k) where
    -- a polynomial of degree below k would have k roots
    pub no_smaller : (p : ℕ) → p < 2 ^ k → at f p e ≡ 0 → p ≡ 0
    no_smaller p l z =
        few_roots f k h.of_degree (omega (arith, four)) h.irreducible k p (λ j. power j e) l
        (conjugates_differ f k e h low high) (λ j a. conjugate-root p e j (vanishes p e z))

    -- ---- exactly one polynomial

    same-value : (p q : ℕ) → at f p e ≡ at f q e → at f (p ⊕ q) e ≡ 0
    same-value p q s = at-⊕ pos p q e ∙ ap (λ (x : ℕ). x ⊕ at f q e) s ∙ ⊕_self (at f q e)

    -- of the 2^k + 1 values at e of polynomials up to t^k two are equal, and one of the two polynomials is t^k
    pub draw : (p : ℕ) × Draws f k e p
    draw = go (pigeonhole (2 ^ k) (λ p. at f p e) (λ p l. at_lt p e))
      where
        go : Collision (suc (2 ^ k)) (λ p. at f p e) → (p : ℕ) × Draws f k e p
        go c = settle (dec_lt j (2 ^ k))
          where
            i : ℕ
            i = c.first

            j : ℕ
            j = c.second

            i_lt : i < 2 ^ k
            i_lt = omega (arith, c.apart, c.below)

            settle : Dec (j < 2 ^ k) → (p : ℕ) × Draws f k e p
            settle (yes l) = absurd (omega (arith, c.apart, ⊕-eq i j (no_smaller (i ⊕ j) (⊕-lt k i j i_lt l) (same-value i j c.same))))
            settle (no n) = (
              2 ^ k ⊕ i,
              record {
                of_degree = deg-⊕ (2 ^ k) i k (div_self (pow_pos k)) i_lt;
                root = same-value (2 ^ k) i (ap (λ (x : ℕ). at f x e) whole ∙ sym c.same);
              },
            )
              where
                whole : 2 ^ k ≡ j
                whole = omega (arith, c.below)

    pub draw_unique : (p q : ℕ) → Draws f k e p → Draws f k e q → p ≡ q
    draw_unique p q a b =
        ⊕-eq p q (no_smaller (p ⊕ q) (deg-cancel p q k a.of_degree b.of_degree) (same-value p q (a.root ∙ sym b.root)))

    -- what e draws is `drawn f k e`
    pub drawn-is : (p : ℕ) → Draws f k e p → drawn f k e ≡ p
    unfolding drawn
    drawn-is p a =
        first-is (λ q. eqb (at f q e) 0) (2 ^ k) (2 ^ k) p (deg-lo p k a.of_degree)
        (omega (arith, deg_hi p k a.of_degree, two-pow-succ k)) (eq-eqb (at f p e) 0 a.root)
        (λ q l m t. omega (
          arith,
          draw_unique q p
              (record { of_degree = deg_intro q k l (lt_trans m (deg_hi p k a.of_degree)); root = eqb-true (at f q e) 0 t }) a,
        ))

    pub drawn-draws : Draws f k e (drawn f k e)
    drawn-draws = rw (drawn-is draw.0 draw.1) draw.1

    -- ---- it is irreducible

    -- a factor of degree below k that is not 0 has not the root e
    no_factor : (q : ℕ) → 0 < q → q < 2 ^ k → Divides f (compose q e) → ⊥
    no_factor q n l d = omega (arith, no_smaller q l (is_zero q e d))

    pub drawn-irreducible : (p : ℕ) → Draws f k e p → Irreducible p
    drawn-irreducible p a = irreducible p (omega (arith, deg-lo p k a.of_degree, four)) none
      where
        p-pos : 0 < p
        p-pos = deg-pos p k a.of_degree

        p-full : degree p ≡ k
        p-full = degree-eq p k a.of_degree

        none : (d : ℕ) → 1 < d → d < 2 ^ degree p → Divides d p → ⊥
        none d o l w =
            ⊎_elim (no_factor q (pos-left q d p w.product p-pos) (rw p-full at (factor_lt q d p w.product p-pos (λ z. omega arith))))
            (no_factor d (omega arith) (rw p-full at l))
            (euclid_lemma f (compose q e) (compose d e) h.irreducible
            (dvd_by (vanishes p e a.root) (ap (λ (x : ℕ). compose x e) (sym w.product) ∙ compose-⊗ q d e)))
          where
            q : ℕ
            q = w.quotient

    -- ---- its roots are the conjugates of e

    pub conjugate-is : (j : ℕ) → squares f j e ≡ rem f (power j e)
    conjugate-is j = squares-power pos j e (rw full high)

    pub conjugate-draws : (p j : ℕ) → Draws f k e p → Draws f k (squares f j e) p
    conjugate-draws p j a =
        record {
          of_degree = a.of_degree;
          root =
              is_zero p (squares f j e)
              (dvd_by (dvd-⊕ (compose_cong f p (squares f j e) (power j e) near) (conjugate-root p e j (vanishes p e a.root))) (simp xor));
        }
      where
        near : Divides f (squares f j e ⊕ power j e)
        near = dvd_by (rem-dvd pos (power j e)) (⊕_comm (power j e) (rem f (power j e)) ∙ ap (λ (x : ℕ). x ⊕ power j e) (sym (conjugate-is j)))

    -- with x before them
    and_conjugates : ℕ → ℕ → ℕ
    and_conjugates x zero = x
    and_conjugates x (suc j) = power j e

    module _ (p x : ℕ) (a : Draws f k e p) (l : x < 2 ^ k) (z : at f p x ≡ 0) where
      differ : ((j : ℕ) → j < k → squares f j e ≢ x) → Different f (suc k) (and_conjugates x)
      unfolding and_conjugates
      differ none i zero b c d = absurd (not-suc-le-zero b)
      differ none zero (suc j) b c d =
          none j (le_of_suc-le-suc c) (conjugate-is j ∙ sym (rem_cong pos x (power j e) d) ∙ rem-small pos x (rw full l))
      differ none (suc i) (suc j) b c d = conjugates_differ f k e h low high i j (le_of_suc-le-suc b) (le_of_suc-le-suc c) d

      vanish : (j : ℕ) → j < suc k → Divides f (compose p (and_conjugates x j))
      unfolding and_conjugates
      vanish zero b = vanishes p x z
      vanish (suc j) b = conjugate-root p e j (vanishes p e a.root)

      pub only_conjugates : Found k x (λ j. squares f j e)
      only_conjugates =
          stands (λ j. squares f j e) x k
          (λ none. omega (
            arith,
            deg-pos p k a.of_degree,
            few_roots f k h.of_degree (omega (arith, four)) h.irreducible (suc k) p (and_conjugates x) (deg_hi p k a.of_degree)
                (differ none) vanish,
          ))
