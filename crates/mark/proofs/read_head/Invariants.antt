-- `mark::read_head` meets its contract: what is read stands behind what was read before, until it decides the key's line or the input is over.
use Rattle.std.proofs.Common.{◌≡◌, ◌-◌, ◌<◌, length}
use Rattle.mark.proofs.Heads.{Stands}
use Rattle.mark.proofs.read_head.Given as goal

abbrev pub invariant-loop-n : goal.invariant-loop-n
invariant-loop-n l = (18 ≡ length l.head) × (l.count < 18) × Stands l.initial.input l.input l.count l.head

abbrev pub decreases-loop-n : goal.decreases-loop-n
decreases-loop-n l = 18 - l.count
