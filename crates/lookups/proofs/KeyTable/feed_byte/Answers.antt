-- `feed_byte` meets its contract: the table's first row reduces one byte.
use Rattle.lookups.proofs.Rule.{first-row}
use Rattle.lookups.proofs.KeyTable.feed_byte.Goals as goal

pub feed_one-requires : goal.feed_one-requires
feed_one-requires c =
    let t = c.args.self in
    (first-row t.p t.words.now t.holds, c.requires)
