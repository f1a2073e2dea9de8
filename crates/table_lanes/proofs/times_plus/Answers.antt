-- `times_plus` meets its contract.
use mathlib.Core.Path.{ap}
use Prim.Native.Nat.{ℕ}
use Rattle.gf2.specs.Polynomials.{◌⊕◌}
use Rattle.table_lanes.proofs.times_plus.Goals as goal

pub returns : goal.returns
unfolding ◌⊕◌
returns c = ap (λ (x : ℕ). x ⊕ c.args.y) c.product.ensures
