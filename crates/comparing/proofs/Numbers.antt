-- Laws of the numbers that pass a test, and of counting them.
use mathlib.Core.Path.{◌≡◌, refl, sym, ap, ap₂, ◌∙◌}
use mathlib.Core.Bool.{Bool, true, false, cond}
use mathlib.Core.List.{List, [], ◌∷◌, ◌++◌}
use Prim.Native.Nat.{ℕ, zero, suc, ◌+◌, ◌-◌, ◌≤◌, ◌<◌}
use native.Mathlib.Nat.{add-zero, zero-add, add-suc, suc-add, le_refl}
use native.Mathlib.Numerals.{add-one}
use native.Mathlib.Omega.{arith}
use lib.ListN.{length, set, length-append}
use lib.Seq.{sets, length-sets}
use Rattle.lists.specs.Lists.{passing}
use Rattle.lists.proofs.Lent.{sets_append}

-- ---- the numbers that pass a test

module _ (test : ℕ → Bool) where
  pub passing-none : (n : ℕ) → passing test n 0 ≡ []
  unfolding passing
  passing-none n = refl

  pub passing-hit : (n c : ℕ) → test n ≡ true → passing test n (suc c) ≡ n ∷ passing test (suc n) c
  unfolding passing
  passing-hit n c e = rw e

  pub passing_miss : (n c : ℕ) → test n ≡ false → passing test n (suc c) ≡ passing test (suc n) c
  unfolding passing
  passing_miss n c e = rw e

  pub passing_no : (n c : ℕ) → ((i : ℕ) → n ≤ i → i < n + c → test i ≡ false) → passing test n c ≡ []
  passing_no n zero h = passing-none n
  passing_no n (suc c) h = passing_miss n c (h n (le_refl n) (omega arith)) ∙ passing_no (suc n) c (λ i a b. h i (omega arith) (omega arith))

  cond_append : (b : Bool) (n : ℕ) (x y : List ℕ) → cond b (n ∷ (x ++ y)) (x ++ y) ≡ cond b (n ∷ x) x ++ y
  cond_append true n x y = refl
  cond_append false n x y = refl

  pub passing-append : (n c e : ℕ) → passing test n (c + e) ≡ passing test n c ++ passing test (n + c) e
  unfolding passing
  passing-append n zero e = rw (zero-add, add-zero)
  passing-append n (suc c) e =
      rw (suc-add c e, add-suc n c, ← (suc-add n c))
      (ap (λ (z : List ℕ). cond (test n) (n ∷ z) z) (passing-append (suc n) c e) ∙ cond_append (test n) n (passing test (suc n) c) (passing test (suc n + c) e))

  cond_length : (b : Bool) (n c : ℕ) (x : List ℕ) → length x ≤ c → length (cond b (n ∷ x) x) ≤ suc c
  cond_length true n c x h = omega arith
  cond_length false n c x h = omega arith

  pub passing-length : (n c : ℕ) → length (passing test n c) ≤ c
  unfolding passing
  passing-length n zero = omega arith
  passing-length n (suc c) = cond_length (test n) n c (passing test (suc n) c) (passing-length (suc n) c)

  -- what is left from the i-th of c numbers on
  left : (n i c : ℕ) → i < c → passing test (n + i) (c - i) ≡ passing test (n + i) (suc (c - (i + 1)))
  left n i c h = let e : c - i ≡ suc (c - (i + 1)) = omega arith in rw e

  pub left_miss : (n i c : ℕ) → i < c → test (n + i) ≡ false → passing test (n + i) (c - i) ≡ passing test (n + (i + 1)) (c - (i + 1))
  left_miss n i c h e =
      let z : n + (i + 1) ≡ suc (n + i) = omega arith in
      left n i c h ∙ rw z (passing_miss (n + i) (c - (i + 1)) e)

  pub left-hit : (n i c : ℕ) → i < c → test (n + i) ≡ true → passing test (n + i) (c - i) ≡ (n + i) ∷ passing test (n + (i + 1)) (c - (i + 1))
  left-hit n i c h e =
      let z : n + (i + 1) ≡ suc (n + i) = omega arith in
      left n i c h ∙ rw z (passing-hit (n + i) (c - (i + 1)) e)

  pub left-block : (n i s c : ℕ) → i + s ≤ c → passing test (n + i) (c - i) ≡ passing test (n + i) s ++ passing test (n + (i + s)) (c - (i + s))
  left-block n i s c h =
      let e : c - i ≡ s + (c - (i + s)) = omega arith in
      let z : n + i + s ≡ n + (i + s) = omega arith in
      rw e (rw z at (passing-append (n + i) s (c - (i + s))))

  pub left-all : (n c : ℕ) → passing test (n + 0) (c - 0) ≡ passing test n c
  left-all n c =
      let e : c - 0 ≡ c = omega arith in
      rw (add-zero n, e)

  pub left-none : (n i c : ℕ) → c ≤ i → passing test (n + i) (c - i) ≡ []
  left-none n i c h =
      let e : c - i ≡ 0 = omega arith in
      rw e (passing-none (n + i))

-- only the numbers in question matter
pub passing-same : (t u : ℕ → Bool) (n c : ℕ) → ((i : ℕ) → n ≤ i → i < n + c → t i ≡ u i) → passing t n c ≡ passing u n c
unfolding passing
passing-same t u n zero h = refl
passing-same t u n (suc c) h =
    ap₂ (λ (b : Bool) (x : List ℕ). cond b (n ∷ x) x) (h n (le_refl n) (omega arith))
    (passing-same t u (suc n) c (λ i a b. h i (omega arith) (omega arith)))

-- ---- a count under way: what was found, and what is left to find of c numbers, make what there is to find
-- p and a are the numbers that passed the tests P and A so far, and those of P were written to the words

pub record Tally (P A : ℕ → Bool) (n c : ℕ) (words₀ : List ℕ) (p₀ a₀ : ℕ) (words : List ℕ) (p a i : ℕ) : Type 0 where
  pub placed : p + length (passing P (n + i) (c - i)) ≡ p₀ + length (passing P n c)
  pub alarmed : a + length (passing A (n + i) (c - i)) ≡ a₀ + length (passing A n c)
  pub written : sets words p (passing P (n + i) (c - i)) ≡ sets words₀ p₀ (passing P n c)

module _ {P A : ℕ → Bool} {n c : ℕ} {words₀ : List ℕ} {p₀ a₀ : ℕ} where
  pub tally_begin : Tally P A n c words₀ p₀ a₀ words₀ p₀ a₀ 0
  tally_begin = record { placed = rw (left-all P n c); alarmed = rw (left-all A n c); written = rw (left-all P n c) }

  module _ {words : List ℕ} {p a i : ℕ} (t : Tally P A n c words₀ p₀ a₀ words p a i) where
    module _ (h : i < c) where
      pub tally_alarm : P (n + i) ≡ false → A (n + i) ≡ true → Tally P A n c words₀ p₀ a₀ words p (a + 1) (i + 1)
      tally_alarm e f =
          record {
            placed = rw (left_miss P n i c h e) at t.placed;
            alarmed = (let q = rw (left-hit A n i c h f) at t.alarmed in omega arith);
            written = rw (left_miss P n i c h e) at t.written;
          }

      pub tally_place : P (n + i) ≡ true → A (n + i) ≡ false → Tally P A n c words₀ p₀ a₀ (set words p (n + i)) (p + 1) a (i + 1)
      tally_place e f =
          record {
            placed = (let q = rw (left-hit P n i c h e) at t.placed in omega arith);
            alarmed = rw (left_miss A n i c h f) at t.alarmed;
            written = rw (add-one p) (rw (left-hit P n i c h e) at t.written);
          }

    -- s numbers at once
    pub tally_block : (next : List ℕ) (s q b : ℕ) → i + s ≤ c → next ≡ sets words p (passing P (n + i) s)
        → q ≡ p + length (passing P (n + i) s) → b ≡ a + length (passing A (n + i) s) → Tally P A n c words₀ p₀ a₀ next q b (i + s)
    tally_block next s q b h en eq eb =
        record {
          placed = count P p q eq t.placed;
          alarmed = count A a b eb t.alarmed;
          written =
              rw (en, eq)
              (sym (sets_append words p (passing P (n + i) s) (passing P (n + (i + s)) (c - (i + s)))) ∙ ap (sets words p) (sym (left-block P n i s c h))
              ∙ t.written);
        }
      where
        count : (T : ℕ → Bool) (x y : ℕ) {z : ℕ} → y ≡ x + length (passing T (n + i) s) → x + length (passing T (n + i) (c - i)) ≡ z
            → y + length (passing T (n + (i + s)) (c - (i + s))) ≡ z
        count T x y ey ex =
            let parts = ap length (left-block T n i s c h) ∙ length-append (passing T (n + i) s) (passing T (n + (i + s)) (c - (i + s))) in
            omega arith

    -- numbers that pass neither test
    pub tally_skip : (next : ℕ) → i ≤ next → next ≤ c → ((j : ℕ) → i ≤ j → j < next → (P (n + j) ≡ false) × (A (n + j) ≡ false))
        → Tally P A n c words₀ p₀ a₀ words p a next
    tally_skip next g h misses =
        let s = next - i in
        let end : i + (next - i) ≡ next = omega arith in
        let none-P = passing_no P (n + i) s (λ j u v. let z : n + (j - n) ≡ j = omega arith in rw z at (misses (j - n) (omega arith) (omega arith)).0) in
        let none-A = passing_no A (n + i) s (λ j u v. let z : n + (j - n) ≡ j = omega arith in rw z at (misses (j - n) (omega arith) (omega arith)).1) in
        rw end at (tally_block words s p a (omega arith) (rw none-P) (rw (none-P, add-zero p)) (rw (none-A, add-zero a)))

    pub tally_end : c ≤ i → (p ≡ p₀ + length (passing P n c)) × (a ≡ a₀ + length (passing A n c)) × (words ≡ sets words₀ p₀ (passing P n c))
    tally_end h =
        let placed = rw (left-none P n i c h) at t.placed in
        let alarmed = rw (left-none A n i c h) at t.alarmed in
        (omega arith, omega arith, (rw (left-none P n i c h) at t.written))

    pub tally_length : length words ≡ length words₀
    tally_length =
        sym (length-sets words p (passing P (n + i) (c - i))) ∙ ap length t.written ∙ length-sets words₀ p₀ (passing P n c)
