-- The answer, stored: on refusal nothing is written, and the state is the mark that was handed in.
use Rattle.std.proofs.Common.{rules}
use Rattle.compose.proofs.Laws.{front-keeps}
use Rattle.gfp_site.proofs.gfp_join_in_front.Goals as goal

pub returns : goal.returns
returns c = search (rules, front-keeps)
