-- `feed_ones` meets its contract: x stands for f and the bytes that were fed.
use Rattle.big_endian.proofs.Pieces.{Going}
use Rattle.sparse.proofs.feed_ones.Given as goal

abbrev pub invariant-loop-byte : goal.invariant-loop-byte
invariant-loop-byte l = Going l.p l.f l.part 0 l.byte-index l.x
