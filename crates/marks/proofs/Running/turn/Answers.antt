-- `Running::turn` meets its contract: the tests of the key, and then those of `OpenMark::turn`.
use Rattle.std.proofs.Common.{rules}
use Rattle.marks.specs.PlainMarks.{turn}
use Rattle.marks.proofs.Laws.{still-refused, same-mark}
use Rattle.marks.proofs.Running.turn.Goals as goal

pub returns-in_err-opened : goal.returns-in_err-opened
unfolding turn
returns-in_err-opened c = search (rules, still-refused)

pub returns : goal.returns
unfolding turn
returns c = let e = same-mark c.args.self _ c.in_ok-opened.ensures in search rules
