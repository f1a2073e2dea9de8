-- The rows before j are cleared, and their sums are changed.
use Rattle.basis.specs.Rows.{clear}
use Rattle.basis.proofs.Mapping.{Mapped}
use Rattle.relations.proofs.Relations.{Added}
use Rattle.relations.proofs.clear_with_sums.Given as goal

abbrev pub invariant-loop-j : goal.invariant-loop-j
invariant-loop-j l = Mapped (clear l.c l.v) l.j l.initial.rows l.rows × Added l.c l.w l.j l.initial.rows l.initial.sums l.sums
