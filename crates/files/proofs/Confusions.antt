-- Two different files with equal fingerprints under irreducible polynomials: how many of one degree k there can be, and that there is none
-- where all differing bits stand within k places.
use mathlib.Core.Path.{◌≡◌, sym, ap₂, ◌∙◌}
use mathlib.Core.Logic.{◌≢◌, ◌⊎◌}
use mathlib.Core.List.{List}
use Prim.Native.Nat.{ℕ, suc, ◌+◌, ◌*◌, ◌^◌, ◌≤◌, ◌<◌, suc-le-suc}
use native.Mathlib.Nat.{lt_of_lt_of_le}
use native.Mathlib.Omega.{arith}
use lib.ListN.{length, get_or, take, drop, length-take}
use lib.Pow.{pow_mono}
use Rattle.lists.specs.Lists.{All, Distinct}
use Rattle.lists.proofs.Lists.{all_map}
use Rattle.lists.proofs.Sublists.{three_parts, outside, middles_length, other-middle}
use Rattle.gf2.specs.Polynomials.{◌⊕◌, degree, Irreducible}
use Rattle.gf2.specs.Degrees.{Degree}
use Rattle.gf2.proofs.Sums.{⊕-lt}
use Rattle.gf2.proofs.Degrees.{degree-is, deg_hi}
use Rattle.gf2.proofs.Congruences.{Congruent, Shifted, congruent-count, congruent-equal}
use Rattle.files.specs.Files.{value_from, value, fingerprint, Bits, fingerprint_from}
use Rattle.files.specs.Bursts.{Burst}
use Rattle.files.proofs.Values.{value-lt, value-change, value-deg, value_inj}

-- ---- strings of bits

-- two strings that agree outside k places: their values differ by a polynomial below t^k times a power of t
module _ (first k : ℕ) (x y : List ℕ) (len : length x ≡ length y)
    (agree : (i : ℕ) → (i < first) ⊎ (first + k ≤ i) → get_or x i 0 ≡ get_or y i 0) where
  middle : List ℕ → List ℕ
  middle l = take k (drop first l)

  middle-lt : (l : List ℕ) → value_from 0 (middle l) < 2 ^ k
  unfolding middle
  middle-lt l = lt_of_lt_of_le (value-lt (middle l)) (pow_mono {i = length (middle l)} {j = k} (omega (arith, length-take k (drop first l))))

  pub string_shifted : Shifted k (value_from 1 x ⊕ value_from 1 y)
  unfolding middle
  string_shifted =
      record {
        part = value_from 0 (middle x) ⊕ value_from 0 (middle y);
        shift = length (drop k (drop first x));
        small = ⊕-lt k (value_from 0 (middle x)) (value_from 0 (middle y)) (middle-lt x) (middle-lt y);
        is =
            ap₂ (λ (v w : List ℕ). value_from 1 v ⊕ value_from 1 w) (sym (three_parts first k x)) (other-middle 0 first k x y len agree)
            ∙ value-change 1 0 (take first x) (middle x) (middle y) (drop k (drop first x)) (middles_length 0 first k x y len agree);
      }

-- ---- files

pub burst_shifted : (k : ℕ) (a b : List ℕ) → Burst k a b → Shifted k (value a ⊕ value b)
burst_shifted k a b s =
    string_shifted s.first k a b s.same_length (outside a b s.first s.last k s.near s.between)

pub value-below : (n : ℕ) (a : List ℕ) → length a ≤ n → value a < 2 ^ suc n
value-below n a l = lt_of_lt_of_le (deg_hi (value a) (length a) (value-deg a)) (pow_mono (suc-le-suc l))

-- p is irreducible, of degree k, and the fingerprints under it are equal
pub record Confusing (k : ℕ) (a b : List ℕ) (p : ℕ) : Type 0 where
  pub irreducible : Irreducible p
  pub of_degree : Degree p k
  pub prints : fingerprint p a ≡ fingerprint p b

congruent : (k : ℕ) (a b : List ℕ) (p : ℕ) → Confusing k a b p → Congruent k (value a) (value b) p
unfolding fingerprint_from
congruent k a b p c = record { irreducible = c.irreducible; of_degree = c.of_degree; residues = c.prints }

module _ (k : ℕ) (a b : List ℕ) (ha : Bits a) (hb : Bits b) (ne : a ≢ b) where
  different : value a ≢ value b
  different e = ne (value_inj a b ha hb e)

  pub confusing-count : (n : ℕ) → length a ≤ n → length b ≤ n → (ps : List ℕ) → Distinct ps → All (Confusing k a b) ps → length ps * k ≤ n
  confusing-count n la lb ps d all =
      congruent-count k n (value a) (value b) different (value-below n a la) (value-below n b lb) ps d (all_map (congruent k a b) ps all)

  pub burst_unconfused : 2 ≤ k → Burst k a b → (p : ℕ) → Confusing k a b p → ⊥
  burst_unconfused two s p c = different (congruent-equal k (value a) (value b) p two (burst_shifted k a b s) (congruent k a b p c))

-- of one polynomial
pub burst_differs : (p : ℕ) (a b : List ℕ) → Irreducible p → 2 ≤ degree p → Bits a → Bits b → a ≢ b → Burst (degree p) a b
    → fingerprint p a ≢ fingerprint p b
burst_differs p a b i two ha hb ne s e =
    burst_unconfused (degree p) a b ha hb ne two s p (record { irreducible = i; of_degree = degree-is p (omega (arith, i.proper)); prints = e })
