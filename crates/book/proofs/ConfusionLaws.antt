-- Accepted keys under which two different files have equal fingerprints, listed and counted.
use mathlib.Core.Path.{◌≡◌}
use mathlib.Core.Logic.{◌≢◌, ◌↔◌}
use mathlib.Core.Bool.{true, ◌&&◌}
use mathlib.Core.List.{List}
use Prim.Native.Nat.{ℕ, ◌+◌, ◌*◌, ◌^◌, ◌≤◌, ◌<◌}
use native.Mathlib.Omega.{arith}
use lib.Dec.{eqb}
use lib.ListN.{length}
use borrow.Author.Tests.{eqb-true, eq-eqb}
use Rattle.lists.specs.Lists.{passing, All, Distinct}
use Rattle.lists.proofs.Truth.{and_both}
use Rattle.lists.proofs.Lists.{all_map, Passes, all-passing, distinct_passing}
use Rattle.lists.proofs.Counts.{length-passing, count_none}
use Rattle.gf2.specs.Polynomials.{degree}
use Rattle.gf2.specs.Degrees.{Degree}
use Rattle.gf2.proofs.Degrees.{degree-is, degree-eq, deg-lo, deg_hi, deg_intro}
use Rattle.acceptance.specs.Keys.{accepted}
use Rattle.acceptance.proofs.Laws.{accepted-pos, accepted_iff}
use Rattle.files.specs.Files.{fingerprint, Bits}
use Rattle.files.specs.Bursts.{Burst}
use Rattle.files.proofs.Confusions.{Confusing, confusing-count, burst_unconfused}
use Rattle.book.specs.Confusions.{confused}
use Rattle.book.specs.Claims.{ConfusionsCount, BurstsCount}

-- an accepted key of degree k under which the fingerprints are equal
pub record Equal (k : ℕ) (a b : List ℕ) (key : ℕ) : Type 0 where
  pub is-accepted : accepted key ≡ true
  pub of_degree : degree key ≡ k
  pub prints : fingerprint key a ≡ fingerprint key b

-- these are the numbers of degree k that pass the test
pub equal_iff : (k : ℕ) (a b : List ℕ) (key : ℕ) → Equal k a b key ↔ ((2 ^ k ≤ key) × (key < 2 ^ k + 2 ^ k) × (confused a b key ≡ true))
unfolding confused
equal_iff k a b key = (there, back)
  where
    there : Equal k a b key → (2 ^ k ≤ key) × (key < 2 ^ k + 2 ^ k) × ((accepted key && eqb (fingerprint key a) (fingerprint key b)) ≡ true)
    there e =
        let is : Degree key k = rw e.of_degree at (degree-is key (accepted-pos key e.is-accepted)) in
        (deg-lo key k is, omega (arith, deg_hi key k is), rw e.is-accepted (eq-eqb (fingerprint key a) (fingerprint key b) e.prints))

    back : (2 ^ k ≤ key) × (key < 2 ^ k + 2 ^ k) × ((accepted key && eqb (fingerprint key a) (fingerprint key b)) ≡ true) → Equal k a b key
    back h =
        let t = and_both (accepted key) (eqb (fingerprint key a) (fingerprint key b)) h.2 in
        record {
          is-accepted = t.0;
          of_degree = degree-eq key k (deg_intro key k h.0 (omega (arith, h.1)));
          prints = eqb-true (fingerprint key a) (fingerprint key b) t.1;
        }

confusing : (k : ℕ) (a b : List ℕ) (key : ℕ) → Equal k a b key → Confusing k a b key
confusing k a b key e =
    record {
      irreducible = ((accepted_iff key).0 e.is-accepted).2;
      of_degree = rw e.of_degree at (degree-is key (accepted-pos key e.is-accepted));
      prints = e.prints;
    }

module _ (k : ℕ) (a b : List ℕ) (ha : Bits a) (hb : Bits b) (ne : a ≢ b) where
  pub equal_keys : (n : ℕ) → length a ≤ n → length b ≤ n → (keys : List ℕ) → Distinct keys → All (Equal k a b) keys → length keys * k ≤ n
  equal_keys n la lb keys d all = confusing-count k a b ha hb ne n la lb keys d (all_map (confusing k a b) keys all)

  pub no_equal-key : Burst k a b → (key : ℕ) → Equal k a b key → ⊥
  no_equal-key s key e =
      burst_unconfused k a b ha hb ne (omega (arith, ((accepted_iff key).0 e.is-accepted).0, e.of_degree)) s key (confusing k a b key e)

-- ---- the keys that the test counts, as a list

listed : ℕ → List ℕ → List ℕ → List ℕ
listed k a b = passing (confused a b) (2 ^ k) (2 ^ k)

all_listed : (k : ℕ) (a b : List ℕ) → All (Equal k a b) (listed k a b)
unfolding listed
all_listed k a b =
    all_map (λ key (p : Passes (confused a b) (2 ^ k) (2 ^ k) key). (equal_iff k a b key).1 (p.from, p.below, p.holds)) (listed k a b)
    (all-passing (confused a b) (2 ^ k) (2 ^ k))

pub confusions-count : ConfusionsCount
unfolding listed
confusions-count k a b ha hb ne n la lb =
    rw (length-passing (confused a b) (2 ^ k) (2 ^ k)) at
    (equal_keys k a b ha hb ne n la lb (listed k a b) (distinct_passing (confused a b) (2 ^ k) (2 ^ k)) (all_listed k a b))

pub bursts-count : BurstsCount
bursts-count k a b ha hb ne s =
    count_none (confused a b) (2 ^ k) (2 ^ k) (λ key l h e. no_equal-key k a b ha hb ne s key ((equal_iff k a b key).1 (l, h, e)))
