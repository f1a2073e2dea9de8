-- `clear` meets its contract: the lanes before y are cleared, the others are as they were.
use mathlib.Core.Path.{◌≡◌}
use Prim.Native.Nat.{ℕ, ◌%◌, ◌^◌, ◌≤◌, ◌<◌}
use lib.ListN.{length, get_or}
use Rattle.table_lanes.proofs.clear.Given as goal

abbrev pub invariant-loop-y : goal.invariant-loop-y
invariant-loop-y l =
    (length l.x ≡ 4) × ((k : ℕ) → k < l.y-index → get_or l.x k 0 ≡ get_or l.initial.x k 0 % 2 ^ l.p.degree)
    × ((k : ℕ) → l.y-index ≤ k → get_or l.x k 0 ≡ get_or l.initial.x k 0)
