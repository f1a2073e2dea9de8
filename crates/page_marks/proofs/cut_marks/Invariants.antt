-- `cut_marks` meets its contract: the numbers before this one are residues, the others as they were.
use mathlib.Core.Path.{◌≡◌}
use lib.ListN.{length}
use Rattle.gf2.specs.Moduli.{polynomial}
use Rattle.multiples.specs.Rows.{SameFrom}
use Rattle.page_marks.specs.Marks.{Reduced}
use Rattle.page_marks.proofs.cut_marks.Given as goal

abbrev pub invariant-loop-mark : goal.invariant-loop-mark
invariant-loop-mark l =
    (length l.marks ≡ length l.initial.marks) × Reduced (polynomial l.table.p) l.mark-index l.initial.marks l.marks × SameFrom l.mark-index l.initial.marks
    l.marks
