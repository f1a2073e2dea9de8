-- `feed_sevens` meets its contract: under the house key seven bytes come in at a time.
use native.Mathlib.Omega.{arith}
use Rattle.gf2.specs.Polynomials.{monic}
use Rattle.folds.proofs.feed_sevens.Goals as goal

pub fed-requires : goal.fed-requires
fed-requires c =
    (((omega arith, omega arith, omega arith), omega arith, omega arith, omega arith, omega arith, omega arith), c.requires)

pub returns : goal.returns
unfolding monic
returns c = c.fed.ensures
