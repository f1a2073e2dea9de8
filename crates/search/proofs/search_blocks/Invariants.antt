-- `search::search_blocks` meets its contract. The loop's invariant: of the windows before `from` all places and false alarms are found,
-- and g is the residue of the next window. The measure is the number of windows that are left.
use Prim.Native.Nat.{◌-◌, ◌≤◌, ◌<◌}
use Rattle.search.specs.Searching.{is_place, is_alarm}
use Rattle.rolling.specs.Rolling.{key_of, ResidueAt}
use Rattle.comparing.proofs.Numbers.{Tally}
use Rattle.search.proofs.search_blocks.Given as goal

abbrev pub invariant-loop-from : goal.invariant-loop-from
invariant-loop-from l =
    (l.from ≤ l.windows)
    × (l.found.places ≤ l.from)
    × (l.found.alarms ≤ l.from)
    × (l.from < l.windows → ResidueAt l.w l.from l.g)
    × Tally (is_place l.w.text.now l.pattern) (is_alarm (key_of l.w) l.w.text.now l.pattern) 0 l.windows l.initial.places 0 0 l.places
    l.found.places l.found.alarms l.from

abbrev pub decreases-loop-from : goal.decreases-loop-from
decreases-loop-from l = l.windows - l.from
