-- `feed_lane` meets its contract: x stands for f and the groups before this one.
use Prim.Native.Nat.{◌*◌, ◌%◌, ◌^◌}
use Rattle.big_endian.proofs.Pieces.{Going}
use Rattle.lookups.proofs.KeyTable.feed_lane.Given as goal

abbrev pub invariant-loop-group : goal.invariant-loop-group
invariant-loop-group l = Going l.self.p l.f l.part 0 (l.group-index * 4) (l.x % 2 ^ l.self.p.degree)
