-- x is the number in the bytes so far.
use mathlib.Core.Path.{◌≡◌}
use lib.ListN.{take}
use Rattle.files.specs.Files.{bits, value_from}
use Rattle.big_endian.proofs.number_at.Given as goal

abbrev pub invariant-loop-b : goal.invariant-loop-b
invariant-loop-b l = l.x ≡ value_from 0 (bits (take l.b-index l.b-items))
