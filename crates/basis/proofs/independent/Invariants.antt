use Rattle.std.proofs.Common.{◌≤◌, ◌↔◌, length, take}
use Rattle.basis.specs.Rows.{Independent}
use Rattle.basis.proofs.independent.Given as goal

abbrev pub invariant-loop-n : goal.invariant-loop-n
invariant-loop-n l = (l.n ≤ length l.initial.rows) × (Independent l.initial.rows ↔ Independent (take l.n l.rows))

abbrev pub decreases-loop-n : goal.decreases-loop-n
decreases-loop-n l = l.n
