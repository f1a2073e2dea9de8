-- `feed_lanes` meets its contract: each lane stands for its start and its bytes before i.
use mathlib.Core.Path.{◌≡◌}
use Prim.Native.Nat.{◌%◌, ◌≤◌}
use Rattle.table_lanes.proofs.Joining.{LanesGoing}
use Rattle.table_lanes.proofs.feed_lanes.Given as goal

abbrev pub invariant-loop-i : goal.invariant-loop-i
invariant-loop-i l = (l.i ≤ l.n) × (l.i % 4 ≡ 0) × LanesGoing l.table.p l.f l.part l.n l.i l.x
