-- `cleared` meets its contract.
use Rattle.std.proofs.Common.{ℕ, ap}
use lib.Bits.{bit_xor}
use Rattle.gf2.specs.Polynomials.{◌⊕◌}
use Rattle.basis.specs.Rows.{clear}
use Rattle.basis.proofs.cleared.Goals as goal

pub returns : goal.returns
unfolding clear ◌⊕◌
returns c = ap (λ (x : ℕ). bit_xor x c.args.r) c.chosen_from.ensures
