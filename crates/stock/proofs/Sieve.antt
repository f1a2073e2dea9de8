-- The smallest accepted key of a degree, found by the checker: the first number of that degree that is a multiple of none of a few listed
-- divisors. It is irreducible, which a computed test shows.
use mathlib.Core.Path.{◌≡◌, sym, ap, ◌∙◌}
use mathlib.Core.Bool.{Bool, true, false, ◌&&◌, ◌||◌, not}
use mathlib.Core.List.{List, [], ◌∷◌}
use Prim.Native.Nat.{ℕ, zero, suc, ◌+◌, ◌-◌, ◌^◌, ◌≤◌, ◌<◌, zero-le}
use native.Mathlib.Nat.{add-zero, add-suc, suc-add, one-mul, pow-suc, le_of_suc-le-suc, not-suc-le-zero}
use native.Mathlib.Decide.{dec_lt}
use native.Mathlib.Omega.{arith}
use lib.Dec.{T, eqb, ltb, eqb→eq, ltb→lt}
use lib.ListN.{length, get_or}
use borrow.Author.Tests.{not-false}
use Rattle.lists.specs.Lists.{All}
use Rattle.lists.specs.Searches.{first_from}
use Rattle.gf2.specs.Polynomials.{◌⊕◌, halvings, degree, monic, reduce, long_division, rem, Divides, Irreducible}
use Rattle.gf2.specs.Degrees.{Degree}
use Rattle.lists.proofs.Truth.{and_left, and_right}
use Rattle.lists.proofs.Lists.{every, all_by_test}
use Rattle.lists.proofs.Searches.{none_before}
use Rattle.gf2.proofs.Sums.{⊕_self, ⊕-append}
use Rattle.gf2.proofs.Degrees.{degree-is, degree-eq, deg-lo, deg_hi}
use Rattle.gf2.proofs.Residues.{rem-⊕, dvd_of_rem-zero}
use Rattle.gf2.proofs.Irreducibles.{no_divisor}
use Rattle.acceptance.specs.Keys.{accepted}
use Rattle.acceptance.proofs.Laws.{accepted_iff, accepted-pos}
use Rattle.stock.specs.Stock.{Smallest}
use Rattle.stock.proofs.Irreducibility.{good, good-irreducible}

-- ---- the test

unfoldable pub residues : ℕ → List ℕ → List ℕ
residues a [] = []
residues a (d ∷ ds) = rem d a ∷ residues a ds

-- modulo one of the divisors j is the residue that stands at its place
unfoldable pub struck : ℕ → List ℕ → List ℕ → Bool
struck j [] rs = false
struck j (d ∷ ds) [] = false
struck j (d ∷ ds) (r ∷ rs) = eqb (rem d j) r || struck j ds rs

unfoldable pub proper : ℕ → ℕ → Bool
proper k d = ltb 1 d && ltb d (2 ^ k)

-- the first of 256 that is not struck out
unfoldable pub first_left : List ℕ → List ℕ → ℕ
first_left ds rs = first_from (λ j. not (struck j ds rs)) 0 256

-- the first number of degree k that is a multiple of no divisor: t^k and the coefficients j, whose residues differ
unfoldable pub unstruck : ℕ → List ℕ → ℕ
unstruck k ds = monic k (first_left ds (residues (2 ^ k) ds))

-- all degrees need the divisors t and t + 1
abbrev pub with_first : List ℕ → List ℕ
with_first ds = 2 ∷ 3 ∷ ds

-- the divisors' degrees are 1 to n, and what they leave is irreducible of degree n + 1
unfoldable pub stocked : ℕ → List ℕ → Bool
stocked n ds = every (proper (suc n)) (with_first ds) && good n (unstruck (suc n) (with_first ds))

-- a list of divisors for each degree from n + 1 on
unfoldable pub stocked_table : ℕ → List (List ℕ) → Bool
stocked_table n [] = true
stocked_table n (ds ∷ dss) = stocked n ds && stocked_table (suc n) dss

-- and the coefficients below the leading one of what they leave, from degree k on (`unfolding left` opens all that this and the test compute
-- with)
unfoldable pub left : ℕ → List (List ℕ) → List ℕ
unfolding stocked_table stocked good every proper unstruck monic first_left first_from struck residues rem long_division reduce degree halvings ◌⊕◌
left k [] = []
left k (ds ∷ dss) = first_left (with_first ds) (residues (2 ^ k) (with_first ds)) ∷ left (suc k) dss

-- ---- what a number that is struck out has

pub record ProperDivisor (k q : ℕ) : Type 0 where
  pub divisor : ℕ
  pub above : 1 < divisor
  pub below : divisor < 2 ^ k
  pub divides : Divides divisor q

module _ (k j : ℕ) (fits : j < 2 ^ k) where
  divides-sum : (d : ℕ) → 0 < d → rem d j ≡ rem d (2 ^ k) → Divides d (2 ^ k + j)
  divides-sum d pos e =
      dvd_of_rem-zero pos (2 ^ k + j)
      (ap (rem d) (sym (simp one-mul at (⊕-append 1 k j fits))) ∙ rem-⊕ pos (2 ^ k) j ∙ rw e (⊕_self (rem d (2 ^ k))))

  head-divisor : (d : ℕ) → T (proper k d) → rem d j ≡ rem d (2 ^ k) → ProperDivisor k (2 ^ k + j)
  unfolding proper
  head-divisor d t e =
      let l = ltb→lt 1 d (and_left (ltb 1 d) (ltb d (2 ^ k)) t) in
      record { divisor = d; above = l; below = ltb→lt d (2 ^ k) (and_right (ltb 1 d) (ltb d (2 ^ k)) t); divides = divides-sum d (omega arith) e }

  either : (d : ℕ) (b c : Bool) → T (proper k d) → (T b → rem d j ≡ rem d (2 ^ k)) → (T c → ProperDivisor k (2 ^ k + j)) → T (b || c)
      → ProperDivisor k (2 ^ k + j)
  either d true c t e rest s = head-divisor d t (e tt)
  either d false c t e rest s = rest s

  struck-divisor : (ds : List ℕ) → All (λ d. T (proper k d)) ds → T (struck j ds (residues (2 ^ k) ds)) → ProperDivisor k (2 ^ k + j)
  unfolding struck residues
  struck-divisor [] a t = absurd t
  struck-divisor (d ∷ ds) a t =
      either d (eqb (rem d j) (rem d (2 ^ k))) (struck j ds (residues (2 ^ k) ds)) a.0 (eqb→eq (rem d j) (rem d (2 ^ k)))
      (struck-divisor ds a.1) t

-- a number of degree k before the first that is left
module _ (k : ℕ) (ds : List ℕ) (are : T (every (proper k) ds)) where
  rs : List ℕ
  rs = residues (2 ^ k) ds

  struck-before : (j : ℕ) → j < first_left ds rs → T (struck j ds rs)
  unfolding first_left
  struck-before j l = rw (not-false (struck j ds rs) (none_before (λ i. not (struck i ds rs)) 0 256 j zero-le l)) tt

  divisor-before : unstruck k ds < 2 ^ suc k → (q : ℕ) → 2 ^ k ≤ q → q < unstruck k ds → ProperDivisor k q
  unfolding unstruck monic rs
  divisor-before h q l m = rw whole at (struck-divisor k (q - 2 ^ k) fits ds (all_by_test (proper k) ds are) (struck-before (q - 2 ^ k) (omega arith)))
    where
      whole : 2 ^ k + (q - 2 ^ k) ≡ q
      whole = omega arith

      fits : q - 2 ^ k < 2 ^ k
      fits = omega (arith, pow-suc 2 k)

-- ---- the first that is left is the smallest accepted key of its degree

not-accepted : (k q : ℕ) → degree q ≡ k → ProperDivisor k q → accepted q ≡ true → ⊥
not-accepted k q e d a = no_divisor q d.divisor ((accepted_iff q).0 a).2 d.above (rw e d.below) d.divides

module _ (n : ℕ) (ds : List ℕ) (lo : 8 ≤ suc n) (hi : n < 64) (t : T (stocked n ds)) where
  abbrev p : ℕ
  p = unstruck (suc n) (with_first ds)

  abbrev all-proper : Bool
  all-proper = every (proper (suc n)) (with_first ds)

  divisors-proper : T all-proper
  unfolding stocked
  divisors-proper = and_left all-proper (good n p) t

  irreducible : Irreducible p × Degree p (suc n)
  unfolding stocked
  irreducible = good-irreducible n p (and_right all-proper (good n p) t)

  least : (q : ℕ) → degree q ≡ suc n → accepted q ≡ true → p ≤ q
  least q e a = go (dec_lt q p)
    where
      from : 2 ^ suc n ≤ q
      from = deg-lo q (suc n) (rw e at (degree-is q (accepted-pos q a)))

      go : Dec (q < p) → p ≤ q
      go (yes l) =
          absurd (not-accepted (suc n) q e
          (divisor-before (suc n) (with_first ds) divisors-proper (deg_hi p (suc n) irreducible.1) q from l) a)
      go (no l) = omega arith

  pub smallest : Smallest (suc n) p
  smallest =
      let d = degree-eq p (suc n) irreducible.1 in
      record { of_degree = d; is-accepted = (accepted_iff p).1 (rw d lo, rw d hi, irreducible.0); least = least }

pub smallest-at : (dss : List (List ℕ)) (n : ℕ) → 8 ≤ suc n → n + length dss ≤ 64 → T (stocked_table n dss)
    → (i : ℕ) → i < length dss → Smallest (suc n + i) (monic (suc n + i) (get_or (left (suc n) dss) i 0))
unfolding stocked_table left unstruck
smallest-at [] n lo hi t i l = absurd (not-suc-le-zero l)
smallest-at (ds ∷ dss) n lo hi t zero l = rw add-zero (smallest n ds lo (omega arith) (and_left (stocked n ds) (stocked_table (suc n) dss) t))
smallest-at (ds ∷ dss) n lo hi t (suc i) l =
    rw (add-suc, ← (suc-add (suc n) i))
    (smallest-at dss (suc n) (omega arith) (omega arith) (and_right (stocked n ds) (stocked_table (suc n) dss) t) i (le_of_suc-le-suc l))
