-- `feed_tail` meets its contract: x stands for f and the bytes before b.
use Rattle.big_endian.proofs.Pieces.{Going}
use Rattle.lookups.proofs.KeyTable.feed_tail.Given as goal

abbrev pub invariant-loop-b : goal.invariant-loop-b
invariant-loop-b l = Going l.self.p l.f l.tail 0 l.b-index l.x
