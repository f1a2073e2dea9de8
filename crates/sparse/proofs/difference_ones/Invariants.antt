-- `difference_ones` meets its contract: x stands for f and the difference of the bytes before i.
use Rattle.sparse.proofs.Differences.{Apart}
use Rattle.sparse.proofs.difference_ones.Given as goal

abbrev pub invariant-loop-i : goal.invariant-loop-i
invariant-loop-i l = Apart l.p l.f l.old l.new 0 l.i l.x
