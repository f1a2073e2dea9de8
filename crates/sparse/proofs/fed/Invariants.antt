-- `fed` meets its contract: x, with the rest behind it, stands for f and the part.
use lib.ListN.{length}
use Rattle.sparse.proofs.Steps.{Stands}
use Rattle.sparse.proofs.fed.Given as goal

abbrev pub invariant-loop-rest : goal.invariant-loop-rest
invariant-loop-rest l = Stands l.p l.f l.part l.x l.rest

abbrev pub decreases-loop-rest : goal.decreases-loop-rest
decreases-loop-rest l = length l.rest
