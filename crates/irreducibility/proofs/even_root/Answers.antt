use Rattle.gf2.specs.Polynomials.{◌⊕◌}
use Rattle.irreducibility.proofs.Folding.{closed-root}
use Rattle.irreducibility.proofs.even_root.Goals as goal

pub returns : goal.returns
unfolding ◌⊕◌
returns c = closed-root c.args.x c.ranges.x.fits
