-- `feed_middle` meets its contract: what is left has the residue of the whole.
use mathlib.Core.Path.{refl, ◌∙◌}
use mathlib.Core.Logic.{inl}
use native.Mathlib.Omega.{arith}
use Rattle.fold_blocks.specs.Folds.{front}
use Rattle.folds.proofs.feed_middle.Goals as goal

pub fold_from-requires : goal.fold_from-requires
fold_from-requires c = (inl refl, omega arith, omega arith, refl)

pub returns : goal.returns
unfolding front
returns c = c.feed_sevens.ensures ∙ c.fold_from.ensures
