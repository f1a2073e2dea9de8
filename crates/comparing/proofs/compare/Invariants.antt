-- `comparing::compare` meets its contract. The loop over windows: what is found and what is left to find make what there is to find, and `next`
-- is the next flagged window. The loop over bytes: the bytes read so far are the pattern's, and nothing is counted.
use mathlib.Core.Path.{◌≡◌}
use Prim.Native.Nat.{ℕ, ◌+◌, ◌-◌, ◌≤◌, ◌<◌}
use lib.ListN.{get_or}
use Rattle.comparing.proofs.Counting.{Counted, place_of, Ahead}
use Rattle.comparing.proofs.compare.Given as goal

abbrev pub invariant-loop-j : goal.invariant-loop-j
invariant-loop-j l = (l.counts ≡ l.initial.counts) × ((k : ℕ) → k < l.j → get_or l.text (l.at + k) 0 ≡ get_or l.pattern k 0)

abbrev pub invariant-windows : goal.invariant-windows
invariant-windows l =
    Ahead l.flags l.size l.next
    × (l.counts.places ≤ l.from + place_of l.size l.next)
    × (l.counts.alarms ≤ l.from + place_of l.size l.next)
    × Counted l.flags l.text l.pattern l.from l.size l.initial.places l.initial.counts.places l.initial.counts.alarms l.places l.counts.places l.counts.alarms
    (place_of l.size l.next)

abbrev pub decreases-windows : goal.decreases-windows
decreases-windows l = l.size - place_of l.size l.next
