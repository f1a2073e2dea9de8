-- The first i rows are put through the function.
use mathlib.Core.Path.{◌≡◌}
use mathlib.Core.List.{◌++◌}
use Prim.Native.Nat.{ℕ, ◌^◌, ◌<◌}
use lib.ListN.{length, drop, get_or}
use Rattle.lists.specs.Lists.{list_from}
use Rattle.irreducibility.proofs.independent_values.Given as goal

abbrev pub invariant-loop-i : goal.invariant-loop-i
invariant-loop-i g l =
    (v : ℕ → ℕ → ℕ) → ((i x y : ℕ) → i < length l.initial.rows → x < 2 ^ 64 → goal.F-post g l.value i x y → y ≡ v i x)
    → l.rows ≡ list_from (λ i. v i (get_or l.initial.rows i 0)) 0 l.i ++ drop l.i l.initial.rows
