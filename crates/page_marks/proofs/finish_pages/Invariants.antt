-- `finish_pages` meets its contract: the numbers before place i are fingerprints, the others as they were.
use mathlib.Core.Path.{◌≡◌}
use lib.ListN.{length}
use Rattle.gf2.specs.Moduli.{polynomial}
use Rattle.multiples.specs.Rows.{SameFrom}
use Rattle.page_marks.specs.Marks.{Finished}
use Rattle.page_marks.proofs.finish_pages.Given as goal

abbrev pub invariant-loop-i : goal.invariant-loop-i
invariant-loop-i l = (length l.marks ≡ length l.initial.marks) × Finished (polynomial l.table.p) l.size l.i l.pages l.marks × SameFrom l.i l.initial.marks
    l.marks
