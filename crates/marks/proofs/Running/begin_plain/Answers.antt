-- `Running::begin_plain` meets its contract: that of `begin_from` with the start 0.
use Rattle.marks.proofs.Running.begin_plain.Goals as goal

pub returns : goal.returns
returns c = c.begin_from.ensures
