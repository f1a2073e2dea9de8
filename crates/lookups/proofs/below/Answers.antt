-- `below` meets its contract: what stands at t^k and above is shifted out.
use Rattle.lookups.proofs.Cut.{shifted-out}
use Rattle.lookups.proofs.below.Goals as goal

pub returns : goal.returns
returns c = shifted-out c.args.x c.args.p.degree c.requires.1
