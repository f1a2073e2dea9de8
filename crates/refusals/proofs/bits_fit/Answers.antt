-- `bits_fit` meets its contract.
use Rattle.refusals.proofs.Lengths.{one-within}
use Rattle.refusals.proofs.bits_fit.Goals as goal

pub returns : goal.returns
returns c = one-within c.args.n
