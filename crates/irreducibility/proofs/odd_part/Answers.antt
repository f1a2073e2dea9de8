use mathlib.Core.Path.{refl}
use Rattle.irreducibility.specs.Squares.{odd_part}
use Rattle.irreducibility.proofs.odd_part.Goals as goal

pub returns : goal.returns
unfolding odd_part
returns c = refl
