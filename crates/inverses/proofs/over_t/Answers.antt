-- `over_t`: the product with one bit fits.
use mathlib.Core.Path.{refl}
use Rattle.gf2.specs.Polynomials.{◌⊕◌}
use Rattle.inverses.specs.Euclid.{over_t}
use Rattle.inverses.proofs.over_t.Goals as goal

pub returns : goal.returns
unfolding over_t ◌⊕◌
returns c = refl
