-- `bytes_fit` meets its contract.
use Rattle.refusals.proofs.Lengths.{bytes-within}
use Rattle.refusals.proofs.bytes_fit.Goals as goal

pub returns : goal.returns
returns c = bytes-within c.args.n
