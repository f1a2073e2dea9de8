-- What was summed, with what the rows that are left sum to, is the whole.
use Rattle.std.proofs.Common.{sym, ◌∙◌, arith}
use Rattle.gf2.specs.Polynomials.{◌⊕◌}
use Rattle.gf2.proofs.Sums.{zero-⊕}
use Rattle.basis.specs.Rows.{sum_of}
use Rattle.basis.proofs.Sums.{sum-next, sum_done}
use Rattle.relations.proofs.sum_of.Goals as goal

pub loop-row-init : goal.loop-row-init
loop-row-init c = zero-⊕ (sum_of c.args.x c.args.rows.now)

pub loop-row-preserved : goal.loop-row-preserved
unfolding ◌⊕◌
loop-row-preserved c =
    let l = c.loop-row in
    rw c.chosen-sum.ensures (sum-next c.args.rows.now l.row-index l.sum l.bits (omega arith) ∙ l.invariant)

pub returns : goal.returns
returns c = let l = c.loop-row in sym (sum_done c.args.rows.now l.row-index l.sum l.bits (omega arith)) ∙ l.invariant
