-- `lowest_one` meets its contract.
use Rattle.basis.proofs.Elimination.{lowest-one}
use Rattle.basis.proofs.lowest_one.Goals as goal

pub returns : goal.returns
returns c = lowest-one 64 c.args.v c.requires c.ranges.v.fits
