-- `input_feeding::feed_rest` meets its contract: the mark grows up to the limit, the buffer keeps its length, and the parts that the reads gave are fed.
use Rattle.std.proofs.Common.{◌≡◌, ◌-◌, length}
use Rattle.refusals.specs.Refusals.{longest}
use Rattle.input_feeding.proofs.Feeds.{SoFar}
use Rattle.input_feeding.proofs.feed_rest.Given as goal

abbrev pub invariant-loop-next : goal.invariant-loop-next
invariant-loop-next l = (262144 ≡ length l.buffer) × SoFar l.initial.m l.words l.initial.input l.m l.input

abbrev pub decreases-loop-next : goal.decreases-loop-next
decreases-loop-next l = longest - l.m.length
