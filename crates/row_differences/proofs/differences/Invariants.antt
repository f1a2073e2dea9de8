-- The sum is 0 where the first i words agree.
use mathlib.Core.Path.{◌≡◌}
use mathlib.Core.Logic.{◌↔◌}
use Rattle.multiples.specs.Rows.{Shifted}
use Rattle.row_differences.proofs.differences.Given as goal

abbrev pub invariant-loop-i : goal.invariant-loop-i
invariant-loop-i l = (l.sum ≡ 0) ↔ Shifted l.at l.next l.i l.y l.words l.words
