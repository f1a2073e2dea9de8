-- `begin_pages` meets its contract: the pages before page i are begun.
use mathlib.Core.Path.{◌≡◌}
use Prim.Native.Nat.{◌≤◌}
use lib.ListN.{length}
use Rattle.page_marks.specs.Marks.{BegunBy}
use Rattle.page_marks.proofs.begin_pages.Given as goal

abbrev pub invariant-loop-i : goal.invariant-loop-i
invariant-loop-i l = (l.i ≤ l.n) × (length l.marks ≡ l.n) × BegunBy l.eights l.size l.whole l.i l.pages l.marks
