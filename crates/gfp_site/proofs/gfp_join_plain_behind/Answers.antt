-- The answer, stored: on refusal nothing is written, and the state is the mark that was handed in.
use Rattle.std.proofs.Common.{rules}
use Rattle.compose.proofs.Laws.{behind-keeps}
use Rattle.gfp_site.proofs.gfp_join_plain_behind.Goals as goal

pub returns : goal.returns
returns c = search (rules, behind-keeps)
