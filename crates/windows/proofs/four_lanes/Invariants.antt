-- `windows::four_lanes` meets its contract. The loop's invariant: j windows of each lane have their flags, and the four residues are
-- those of the next ones.
use mathlib.Core.Bool.{false}
use Prim.Native.Nat.{◌+◌}
use Rattle.rolling.specs.Rolling.{ResidueAt}
use Rattle.windows.specs.Flags.{hit}
use Rattle.windows.proofs.Filling.{LanesFilled}
use Rattle.windows.proofs.four_lanes.Given as goal

abbrev pub invariant-loop-j : goal.invariant-loop-j
invariant-loop-j l =
    ResidueAt l.w (l.from + l.j) l.a
    × ResidueAt l.w (l.from + l.j + 256) l.b
    × ResidueAt l.w (l.from + l.j + 512) l.c
    × ResidueAt l.w (l.from + l.j + 768) l.d
    × LanesFilled false (hit l.w l.from) l.j l.flags
