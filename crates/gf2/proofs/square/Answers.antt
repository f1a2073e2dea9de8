-- Five times each group of bits is parted in two.
use Rattle.gf2.specs.Polynomials.{◌⊕◌}
use Rattle.gf2.proofs.Squares.{spread-square}
use Rattle.gf2.proofs.square.Goals as goal

pub returns : goal.returns
unfolding ◌⊕◌
returns c = spread-square c.args.x c.requires
