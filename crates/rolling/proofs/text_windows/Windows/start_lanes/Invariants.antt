-- `Windows::start_lanes` meets its contract. The loop's invariant: j bytes of each were read.
use Prim.Native.Nat.{◌+◌}
use Rattle.rolling.specs.Rolling.{ResidueOf}
use Rattle.rolling.proofs.text_windows.Windows.start_lanes.Given as goal

abbrev pub invariant-loop-j : goal.invariant-loop-j
invariant-loop-j l =
    ResidueOf l.self l.j (l.from + 256) l.b × ResidueOf l.self l.j (l.from + 512) l.c × ResidueOf l.self l.j (l.from + 768) l.d
