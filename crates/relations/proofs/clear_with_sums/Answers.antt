-- The rows before j are cleared, and their sums are changed.
use Rattle.std.proofs.Common.{ℕ, get_or, refl, ap, ◌∙◌, arith}
use Rattle.gf2.specs.Polynomials.{◌⊕◌}
use Rattle.gf2.proofs.Sums.{⊕_comm}
use Rattle.basis.specs.Rows.{clear}
use Rattle.relations.specs.Adding.{add_where}
use Rattle.basis.proofs.Mapping.{mapped_at, mapped_next}
use Rattle.relations.proofs.Relations.{added_next}
use Rattle.relations.proofs.clear_with_sums.Goals as goal

pub loop-j-init : goal.loop-j-init
unfolding add_where
loop-j-init c = (refl, refl)

pub loop-j-preserved : goal.loop-j-preserved
unfolding clear ◌⊕◌
loop-j-preserved c =
    let a = c.args in
    let l = c.loop-j in
    let f = clear a.c a.v in
    let r = get_or l.rows l.j 0 in
    let s = get_or l.sums l.j 0 in
    let row = ap (λ (x : ℕ). r ⊕ x) c.chosen.ensures ∙ ⊕_comm r _ in
    let sum = ap (λ (x : ℕ). s ⊕ x) c.chosen-in-loop-j.ensures ∙ ⊕_comm s _ in
    let at = mapped_at f l.j a.rows.now l.invariant.0 in
    (mapped_next f l.j a.rows.now l.invariant.0 (omega arith) row, added_next a.c a.w l.j a.rows.now a.sums.now l.invariant.1 (omega arith) at sum)
