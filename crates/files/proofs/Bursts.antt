-- A change inside k neighbouring bits of a file, k above 0, is one inside k neighbouring bits of each part of the file.
use mathlib.Core.Path.{◌≡◌, refl, sym, ◌∙◌}
use mathlib.Core.Logic.{◌≢◌}
use mathlib.Core.List.{List, [], ◌∷◌}
use Prim.Native.Nat.{ℕ, zero, suc, ◌+◌, ◌-◌, ◌≤◌, ◌<◌}
use native.Mathlib.Decide.{dec_lt}
use native.Mathlib.Omega.{arith}
use lib.ListN.{get_or, take, drop, length-take, length-drop}
use lib.Seq.{get_or-take, get_or-drop}
use Rattle.files.specs.Bursts.{Burst}

past : (m : ℕ) (l : List ℕ) (i : ℕ) → m ≤ i → get_or (take m l) i 0 ≡ 0
past zero l i h = refl
past (suc m) [] i h = refl
past (suc m) (x ∷ l) zero h = absurd (omega arith)
past (suc m) (x ∷ l) (suc i) h = past m l i (omega arith)

-- s bits from bit n on
module _ (s n : ℕ) (l : List ℕ) (i : ℕ) where
  inside : i < s → get_or (take s (drop n l)) i 0 ≡ get_or l (n + i) 0
  inside h = get_or-take s (drop n l) i 0 h ∙ get_or-drop n l i 0

pub part_burst : (k s n : ℕ) (a b : List ℕ) → 0 < k → Burst k a b → Burst k (take s (drop n a)) (take s (drop n b))
part_burst k s n a b some burst =
    record {
      same_length = omega (arith, length-take s (drop n a), length-take s (drop n b), length-drop n a, length-drop n b, burst.same_length);
      first = burst.first - n;
      last = burst.last - n;
      near = omega (arith, burst.near);
      between = between;
    }
  where
    between : (i : ℕ) → get_or (take s (drop n a)) i 0 ≢ get_or (take s (drop n b)) i 0 → (burst.first - n ≤ i) × (i ≤ burst.last - n)
    between i differ = go (dec_lt i s)
      where
        go : Dec (i < s) → (burst.first - n ≤ i) × (i ≤ burst.last - n)
        go (yes h) = let w = burst.between (n + i) (λ e. differ (inside s n a i h ∙ e ∙ sym (inside s n b i h))) in (omega arith, omega arith)
        go (no h) = absurd (differ (past s (drop n a) i (omega arith) ∙ sym (past s (drop n b) i (omega arith))))
