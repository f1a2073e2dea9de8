-- `Running::begin` meets its contract: that of `begin_from` with the start 1.
use Rattle.marks.proofs.Running.begin.Goals as goal

pub returns : goal.returns
returns c = c.begin_from.ensures
