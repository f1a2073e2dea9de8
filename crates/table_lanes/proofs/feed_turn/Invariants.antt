-- `feed_turn` meets its contract: in both loops the lanes before place j have their four bytes more, the others are as they were.
use mathlib.Core.Path.{◌≡◌}
use mathlib.Core.List.{List}
use Prim.Native.Nat.{ℕ, ◌+◌, ◌*◌, ◌≤◌, ◌<◌}
use lib.ListN.{length, get_or}
use Rattle.gf2.specs.declared.Modulus.{Modulus}
use Rattle.table_lanes.specs.Lanes.{FourMore}
use Rattle.table_lanes.proofs.feed_turn.Given as goal

abbrev FedBefore : Modulus → List ℕ → ℕ → ℕ → List ℕ → List ℕ → ℕ → Type 0
FedBefore p part i n before x j =
    (length x ≡ 4) × ((k : ℕ) → k < j → FourMore p part (i + k * n) (get_or before k 0) (get_or x k 0))
    × ((k : ℕ) → j ≤ k → get_or x k 0 ≡ get_or before k 0)

abbrev pub invariant-loop-j : goal.invariant-loop-j
invariant-loop-j l = FedBefore l.table.p l.part l.i l.n l.initial.x l.x l.j

abbrev pub invariant-loop-j-else-table-lt32 : goal.invariant-loop-j-else-table-lt32
invariant-loop-j-else-table-lt32 l = FedBefore l.table.p l.part l.i l.n l.initial.x l.x l.j
