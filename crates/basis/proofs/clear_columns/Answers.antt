use Rattle.std.proofs.Common.{sym, ap, ◌∙◌, arith}
use mathlib.Core.List.{map-map}
use Rattle.basis.specs.Rows.{clear}
use Rattle.basis.proofs.Mapping.{mapped_next, mapped-whole}
use Rattle.basis.proofs.clear_columns.Invariants.{both}
use Rattle.basis.proofs.clear_columns.Goals as goal

pub loop-r-preserved : goal.loop-r-preserved
loop-r-preserved c =
    let a = c.args in
    let l = c.loop-r in
    let e = c.cleared-in-loop-r.ensures ∙ ap (clear a.d a.w) c.cleared.ensures in
    mapped_next (both a.v a.c a.w a.d) l.r-index a.rows.now l.invariant (omega arith) e

pub returns : goal.returns
returns c =
    let a = c.args in
    let l = c.loop-r in
    mapped-whole (both a.v a.c a.w a.d) l.r-index a.rows.now l.invariant (omega arith) ∙ sym (map-map (clear a.d a.w) (clear a.c a.v) a.rows.now)
