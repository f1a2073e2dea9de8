-- `one_by_one` meets its contract. The loop's invariant: j windows have their flags, the other flags stay, and the residue is that of the
-- next window, if there is one.
use mathlib.Core.Path.{◌∙◌}
use mathlib.Core.Logic.{inl}
use Prim.Native.Nat.{◌+◌}
use native.Mathlib.Omega.{arith}
use Rattle.rolling.proofs.Residues.{same_place}
use Rattle.windows.proofs.Flags.{hit-is}
use Rattle.windows.proofs.Filling.{filled_more, filled-other}
use Rattle.windows.proofs.one_by_one.Goals as goal
use Rattle.windows.proofs.one_by_one.Goals.{then-i-w, else-i-w}

pub loop-j-preserved : goal.loop-j-preserved
loop-j-preserved c =
    let a = c.args in
    let l = c.loop-j in
    let h = l.invariant in (
      (λ h. elim c.if-i-w.branch [
        | then-i-w b ↦ same_place a.w (a.from + l.j + 1) (a.from + (l.j + 1)) _ (omega arith) (b.a-is ∙ b.roll-a.ensures)
        | else-i-w b ↦ absurd (omega arith)
      ]),
      filled_more 0 l.j l.flags _ h.1 (omega arith) (hit-is a.w a.from l.j _ l.a (omega arith) (h.0 (omega arith))),
      filled-other a.size 1024 l.j l.flags _ h.2 (inl (omega arith)),
    )
