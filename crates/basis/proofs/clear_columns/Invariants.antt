use Rattle.std.proofs.Common.{ℕ}
use Rattle.basis.specs.Rows.{clear}
use Rattle.basis.proofs.Mapping.{Mapped}
use Rattle.basis.proofs.clear_columns.Given as goal

abbrev pub both : ℕ → ℕ → ℕ → ℕ → ℕ → ℕ
both v c w d r = clear d w (clear c v r)

abbrev pub invariant-loop-r : goal.invariant-loop-r
invariant-loop-r l = Mapped (both l.v l.c l.w l.d) l.r-index l.initial.rows l.rows
