-- `feed_tail` meets its contract: x stands for f and the bytes before b.
use native.Mathlib.Omega.{arith}
use Rattle.big_endian.proofs.Pieces.{going-one, going-all}
use Rattle.lookups.proofs.KeyTable.feed_tail.Goals as goal

pub loop-b-preserved : goal.loop-b-preserved
loop-b-preserved c =
    let a = c.args in
    let l = c.loop-b in
    going-one a.self.p a.self.holds.0 a.f a.tail.now 0 l.b-index l.x l.invariant c.feed_byte-x.result (omega arith) (omega arith) c.feed_byte-x.ensures

pub returns : goal.returns
returns c =
    let a = c.args in
    let l = c.loop-b in
    going-all a.self.p a.self.holds.0 a.f a.tail.now 0 l.b-index l.x l.invariant (omega arith)
