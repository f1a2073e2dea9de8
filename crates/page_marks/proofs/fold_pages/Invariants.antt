-- `fold_pages` meets its contract: the numbers before place i are fingerprints.
use mathlib.Core.Path.{◌≡◌}
use lib.ListN.{length}
use Rattle.house.specs.House.{house_key}
use Rattle.page_marks.specs.Marks.{Finished}
use Rattle.page_marks.proofs.fold_pages.Given as goal

abbrev pub invariant-loop-i : goal.invariant-loop-i
invariant-loop-i l = (length l.marks ≡ length l.initial.marks) × Finished house_key l.size l.i l.pages l.marks
