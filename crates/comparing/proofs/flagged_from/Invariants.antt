-- `comparing::flagged_from` meets its contract: no window from the first one to the i-th is flagged.
use Rattle.comparing.specs.Flagged.{NoneFlagged}
use Rattle.comparing.proofs.flagged_from.Given as goal

abbrev pub invariant-loop-i : goal.invariant-loop-i
invariant-loop-i l = NoneFlagged l.flags l.first l.i
