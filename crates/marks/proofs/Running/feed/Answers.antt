-- `Running::feed` meets its contract: the tests of the key, and then those of `feed_alone`.
use Rattle.std.proofs.Common.{rules}
use Rattle.marks.specs.Feeding.{feed_bits}
use Rattle.marks.proofs.Laws.{still-refused, same-mark}
use Rattle.marks.proofs.Running.feed.Goals as goal

pub returns-in_err-opened : goal.returns-in_err-opened
unfolding feed_bits
returns-in_err-opened c = search (rules, still-refused)

pub returns : goal.returns
unfolding feed_bits
returns c = let e = same-mark c.args.self _ c.in_ok-opened.ensures in search rules
