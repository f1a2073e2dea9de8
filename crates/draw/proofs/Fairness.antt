-- Drawing is fair and covers every key (Rabin's Lemmas 1 and 2): for a listed degree k each element from 2 to 2^k - 1 draws one
-- accepted key of degree k, each such key is drawn by exactly k elements, and so their number times k is 2^k - 2. What fails for few
-- keys therefore fails for few elements.
use mathlib.Core.Path.{◌≡◌, refl, sym, ap, ◌∙◌}
use mathlib.Core.Bool.{Bool, true, false, cond}
use Prim.Native.Nat.{ℕ, ◌+◌, ◌-◌, ◌*◌, ◌^◌, ◌≤◌, ◌<◌}
use native.Mathlib.Nat.{one-mul, zero-mul, two-pow-succ}
use native.Mathlib.Decide.{ℕ_discrete, dec_lt}
use native.Mathlib.Omega.{arith}
use lib.Dec.{T, leb, ltb, leb→le, eqb}
use borrow.Author.Tests.{eqb-true, eq-eqb, ne_eqb, not-false, ltb-false, leb-false}
use Rattle.gf2.specs.Polynomials.{degree}
use Rattle.lists.specs.Searches.{first_from}
use Rattle.lists.specs.Members.{among}
use Rattle.lists.proofs.Truth.{or-neither}
use Rattle.lists.proofs.Searches.{all_among}
use Rattle.lists.proofs.Lists.{every, all_by_test}
use Rattle.gf2.proofs.Degrees.{degree-is, degree-eq, deg-lo, deg_hi, deg_intro}
use Rattle.refusals.specs.Refusals.{Done}
use Rattle.refusals.proofs.Laws.{done-clear}
use Rattle.acceptance.specs.declared.Key.{Key}
use Rattle.acceptance.specs.Keys.{accepted, key_of}
use Rattle.acceptance.proofs.Laws.{accepted_iff, accepted-pos}
use Rattle.lists.specs.Counts.{count_from}
use Rattle.lists.proofs.Counts.{count-is-sum, sum_same, sum_times, count-all, count-one, count_none, count-twice}
use Rattle.fields.specs.Primes.{Prime, Field}
use Rattle.fields.proofs.Primes.{first_divisor, prime_by_test}
use Rattle.fields.proofs.Conjugates.{field-four}
use Rattle.fields.proofs.Pigeonhole.{Found}
use Rattle.stock.specs.Stock.{stock_key}
use Rattle.stock.proofs.Table.{stock_smallest}
use Rattle.draw.specs.Drawing.{degrees, drawn_key, elements, draw_tests, draw, Draws}
use Rattle.draw.proofs.Draws.{drawn-is, drawn-draws, drawn-irreducible}
use Rattle.draw.proofs.Drawers.{Drawers, drawers}

module _ (k : ℕ) (listed : among k degrees ≡ true) where
  -- ---- the listed degrees are primes from 11 to 61, by computed tests

  passes : (test : ℕ → Bool) → T (every test degrees) → T (test k)
  passes test t = all_among (λ m. T (test m)) degrees k (all_by_test test degrees t) listed

  pub range : (11 ≤ k) × (k ≤ 61)
  unfolding every
  range = (leb→le 11 k (passes (leb 11) tt), leb→le k 61 (passes (λ m. leb m 61) tt))

  prime : Prime k
  unfolding every first_divisor first_from
  prime = prime_by_test k (omega (arith, range.0)) (passes (λ m. eqb (first_divisor m) m) tt)

  -- the stock key makes a field
  pub field : Field (stock_key k) k
  field =
      let s = stock_smallest k (omega (arith, range.0)) (omega (arith, range.1)) in
      record {
        irreducible = ((accepted_iff (stock_key k)).0 s.is-accepted).2;
        of_degree = rw s.of_degree at (degree-is (stock_key k) (accepted-pos (stock_key k) s.is-accepted));
        prime = prime;
      }

  four : 4 ≤ 2 ^ k
  four = field-four (stock_key k) k field

  -- ---- what an element draws is an accepted key of degree k

  module _ (e : ℕ) (low : 2 ≤ e) (high : e < 2 ^ k) where
    pub key-drawn : Draws (stock_key k) k e (drawn_key k e)
    key-drawn = drawn-draws (stock_key k) k field e low high

    pub key-degree : degree (drawn_key k e) ≡ k
    key-degree = degree-eq (drawn_key k e) k key-drawn.of_degree

    pub key-accepted : accepted (drawn_key k e) ≡ true
    key-accepted =
        (accepted_iff (drawn_key k e)).1 (
          omega (arith, key-degree, range.0),
          omega (arith, key-degree, range.1),
          drawn-irreducible (stock_key k) k field e low high (drawn_key k e) key-drawn,
        )

    -- and nothing else has degree k and the root e
    pub key-only : (p : ℕ) → Draws (stock_key k) k e p → drawn_key k e ≡ p
    key-only p a = drawn-is (stock_key k) k field e low high p a

  -- ---- each accepted key of degree k is drawn by exactly k elements

  module _ (p : ℕ) (is-accepted : accepted p ≡ true) (of_degree : degree p ≡ k) where
    all-drawers : Drawers (stock_key k) k p
    all-drawers =
        drawers (stock_key k) k field p ((accepted_iff p).0 is-accepted).2 (rw of_degree at (degree-is p (accepted-pos p is-accepted)))

    abbrev element : ℕ → ℕ
    element = all-drawers.element

    -- of the k elements one is e where e draws p, and none elsewhere
    one_place : (e : ℕ) → 2 ≤ e → e < 2 + (2 ^ k - 2)
        → (cond true 1 0) * count_from (λ j. eqb (element j) e) 0 k ≡ cond (eqb (drawn_key k e) p) 1 0
    one_place e low bound = one-mul (count_from (λ j. eqb (element j) e) 0 k) ∙ go (ℕ_discrete (drawn_key k e) p)
      where
        high : e < 2 ^ k
        high = omega (arith, four)

        no_other : (i j : ℕ) → i < k → j < k → element i ≡ element j → i ≡ j
        no_other i j a b s = settle (dec_lt i j) (dec_lt j i)
          where
            settle : Dec (i < j) → Dec (j < i) → i ≡ j
            settle (yes l) m = absurd (all-drawers.different i j l b s)
            settle (no l) (yes m) = absurd (all-drawers.different j i m a (sym s))
            settle (no l) (no m) = omega arith

        go : Dec (drawn_key k e ≡ p) → count_from (λ j. eqb (element j) e) 0 k ≡ cond (eqb (drawn_key k e) p) 1 0
        go (yes s) =
            rw (eq-eqb (drawn_key k e) p s)
            (count-one (λ j. eqb (element j) e) found.place 0 k (omega arith) (omega (arith, found.before)) (eq-eqb (element found.place) e found.is)
            (λ j a b t. no_other found.place j found.before (omega arith) (found.is ∙ sym (eqb-true (element j) e t))))
          where
            found : Found k e element
            found = all-drawers.all e high (rw s at (key-drawn e low high))
        go (no s) =
            rw (ne_eqb (drawn_key k e) p s)
            (count_none (λ j. eqb (element j) e) 0 k
            (λ j a b t. s (key-only e low high p (rw (eqb-true (element j) e t) at (all-drawers.draw j)))))

    pub drawers-count : elements k (λ e. eqb (drawn_key k e) p) ≡ k
    drawers-count =
        count-is-sum (λ e. eqb (drawn_key k e) p) 2 (2 ^ k - 2)
        ∙ sym (sum_same (λ e. (cond true 1 0) * count_from (λ j. eqb (element j) e) 0 k) (λ e. cond (eqb (drawn_key k e) p) 1 0) 2 (2 ^ k - 2) one_place)
        ∙ sym (count-twice element (λ x. true) 0 k 2 (2 ^ k - 2)
        (λ j a b. (all-drawers.above j, omega (arith, all-drawers.below j, four))))
        ∙ count-all (λ x. true) 0 k (λ j a b. refl)

  -- ---- what holds of some accepted keys: the elements that draw one of them are k times as many as they

  module _ (t : ℕ → Bool) (of-accepted : (p : ℕ) → t p ≡ true → accepted p ≡ true) where
    -- a key that passes is drawn by k elements; what does not pass is not counted
    fibre : (p : ℕ) → 2 ^ k ≤ p → p < 2 ^ k + 2 ^ k → (cond (t p) 1 0) * elements k (λ e. eqb (drawn_key k e) p) ≡ (cond (t p) 1 0) * k
    fibre p a b = go (t p) refl
      where
        go : (c : Bool) → t p ≡ c → (cond c 1 0) * elements k (λ e. eqb (drawn_key k e) p) ≡ (cond c 1 0) * k
        go true q = ap (λ (n : ℕ). 1 * n) (drawers-count p (of-accepted p q) (degree-eq p k (deg_intro p k a (omega (arith, two-pow-succ k)))))
        go false q = zero-mul (elements k (λ e. eqb (drawn_key k e) p)) ∙ sym (zero-mul k)

    pub elements-count : elements k (λ e. t (drawn_key k e)) ≡ count_from t (2 ^ k) (2 ^ k) * k
    elements-count =
        count-twice (drawn_key k) t 2 (2 ^ k - 2) (2 ^ k) (2 ^ k) into
        ∙ sum_same (λ p. (cond (t p) 1 0) * elements k (λ e. eqb (drawn_key k e) p)) (λ p. (cond (t p) 1 0) * k) (2 ^ k) (2 ^ k) fibre
        ∙ sum_times (λ p. cond (t p) 1 0) k (2 ^ k) (2 ^ k)
        ∙ ap (λ (n : ℕ). n * k) (sym (count-is-sum t (2 ^ k) (2 ^ k)))
      where
        into : (e : ℕ) → 2 ≤ e → e < 2 + (2 ^ k - 2) → (2 ^ k ≤ drawn_key k e) × (drawn_key k e < 2 ^ k + 2 ^ k)
        into e a b =
            let d = (key-drawn e a (omega (arith, four))).of_degree in
            (deg-lo (drawn_key k e) k d, omega (arith, deg_hi (drawn_key k e) k d, two-pow-succ k))

  -- Rabin's Lemma 1: (the number of accepted keys of degree k) × k = 2^k - 2
  pub keys_count : count_from accepted (2 ^ k) (2 ^ k) * k ≡ 2 ^ k - 2
  keys_count =
      sym (elements-count accepted (λ p e. e))
      ∙ count-all (λ e. accepted (drawn_key k e)) 2 (2 ^ k - 2) (λ e a b. key-accepted e a (omega (arith, four)))

-- the key that the call answers has the degree asked for
pub answered-degree : (k e : ℕ) (x : Key) → draw k e ≡ Done x → x.degree ≡ k
unfolding draw
answered-degree k e x d =
    let c = done-clear (draw_tests k e) tt (key_of (drawn_key k e)) x d in
    let r = or-neither (ltb e 2) (leb (2 ^ k) e) c.0.1.0 in
    ap (λ (y : Key). y.degree) (sym c.1)
    ∙ key-degree k (not-false (among k degrees) c.0.0) e (ltb-false e 2 r.0) (leb-false (2 ^ k) e r.1)
