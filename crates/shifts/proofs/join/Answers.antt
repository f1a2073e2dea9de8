-- `join` meets its contract.
use Rattle.gf2.specs.Polynomials.{◌⊕◌}
use Rattle.shifts.proofs.join.Goals as goal

pub returns : goal.returns
unfolding ◌⊕◌
returns c = rw c.times.ensures
