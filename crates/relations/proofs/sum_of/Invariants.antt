-- What was summed, with what the rows that are left sum to, is the whole.
use Rattle.std.proofs.Common.{◌≡◌, drop}
use Rattle.gf2.specs.Polynomials.{◌⊕◌}
use Rattle.basis.specs.Rows.{sum_of}
use Rattle.relations.proofs.sum_of.Given as goal

abbrev pub invariant-loop-row : goal.invariant-loop-row
invariant-loop-row l = l.sum ⊕ sum_of l.bits (drop l.row-index l.rows) ≡ sum_of l.x l.rows
