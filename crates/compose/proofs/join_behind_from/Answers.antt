-- `compose::join_behind_from` meets its contract: that of `join`, with the running mark's own mark first.
use Rattle.std.proofs.Common.{rules}
use Rattle.compose.specs.Composing.{join_behind_from}
use Rattle.compose.proofs.join_behind_from.Goals as goal

pub returns : goal.returns
unfolding join_behind_from
returns c = search rules
