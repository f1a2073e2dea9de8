-- `difference` meets its contract: x, with what is left of the two parts behind it, stands for their difference.
use mathlib.Core.Path.{◌≡◌}
use lib.ListN.{length}
use Rattle.sparse.proofs.Differences.{StandsApart}
use Rattle.sparse.proofs.difference.Given as goal

abbrev pub invariant-loop-olds : goal.invariant-loop-olds
invariant-loop-olds l = (length l.olds ≡ length l.news) × StandsApart l.p 0 l.old l.new l.x l.olds l.news

abbrev pub decreases-loop-olds : goal.decreases-loop-olds
decreases-loop-olds l = length l.olds
