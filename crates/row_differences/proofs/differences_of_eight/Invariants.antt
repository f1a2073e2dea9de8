-- The sum is 0 where the first i words of each part agree.
use mathlib.Core.Path.{◌≡◌}
use mathlib.Core.Logic.{◌↔◌}
use Rattle.multiples.proofs.Doubling.{Parts}
use Rattle.row_differences.proofs.differences_of_eight.Given as goal

abbrev pub invariant-loop-i : goal.invariant-loop-i
invariant-loop-i l = (l.sum ≡ 0) ↔ Parts l.at l.at1 l.at2 l.at3 l.at4 l.at5 l.at6 l.at7 l.y l.z l.v l.words l.i
