-- `feed_long` meets its contract: what is left has the residue of the whole.
use mathlib.Core.Path.{refl, ◌∙◌}
use mathlib.Core.Logic.{inr}
use native.Mathlib.Omega.{arith}
use Rattle.fold_blocks.specs.Folds.{front}
use Rattle.folds.proofs.feed_long.Goals as goal

pub fold_from-requires : goal.fold_from-requires
fold_from-requires c = (inr refl, omega arith, omega arith, refl)

pub returns : goal.returns
unfolding front
returns c = c.feed_middle.ensures ∙ c.fold_from.ensures
