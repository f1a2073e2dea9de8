-- `feed_eights` meets its contract: each number stands for a leading 1 and the bytes before i of its part.
use mathlib.Core.Path.{◌≡◌}
use Prim.Native.Nat.{◌%◌, ◌≤◌}
use lib.ListN.{length}
use Rattle.shifts.proofs.Eights.{Stands}
use Rattle.shifts.proofs.feed_eights.Given as goal

abbrev pub invariant-loop-i : goal.invariant-loop-i
invariant-loop-i l = (l.i ≤ length l.q) × (l.i % 8 ≡ 0) × Stands l.words l.q l.i l.a × Stands l.words l.r l.i l.b
