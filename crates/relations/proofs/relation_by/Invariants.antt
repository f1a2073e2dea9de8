use Rattle.relations.proofs.Relations.{Kept}
use Rattle.relations.proofs.relation_by.Given as goal

abbrev pub invariant-loop-i : goal.invariant-loop-i
invariant-loop-i l = Kept l.initial.work l.k l.i l.work l.sums
