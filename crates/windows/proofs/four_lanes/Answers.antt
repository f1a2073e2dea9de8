-- `four_lanes` meets its contract. The loop's invariant: j windows of each lane have their flags, and the four residues are those of the
-- next ones.
use mathlib.Core.Bool.{false}
use Prim.Native.Nat.{◌+◌}
use native.Mathlib.Omega.{arith}
use Rattle.rolling.proofs.Residues.{same_place}
use Rattle.windows.specs.Flags.{hit}
use Rattle.windows.proofs.Flags.{hit-is}
use Rattle.windows.proofs.Filling.{lanes-more}
use Rattle.windows.proofs.four_lanes.Goals as goal

pub loop-j-preserved : goal.loop-j-preserved
loop-j-preserved c =
    let w = c.args.w in
    let from = c.args.from in
    let l = c.loop-j in
    let h = l.invariant in (
      same_place w _ _ _ (omega arith) c.roll-a.ensures,
      same_place w _ _ _ (omega arith) c.roll-b.ensures,
      same_place w _ _ _ (omega arith) c.roll-c.ensures,
      same_place w _ _ _ (omega arith) c.roll-d.ensures,
      lanes-more false (hit w from) l.j l.flags _ _ _ _ (omega arith) (omega arith) h.4
          (hit-is w from l.j _ l.a (omega arith) h.0)
          (hit-is w from (l.j + 256) _ l.b (omega arith) h.1)
          (hit-is w from (l.j + 512) _ l.c (omega arith) h.2)
          (hit-is w from (l.j + 768) _ l.d (omega arith) h.3),
    )
