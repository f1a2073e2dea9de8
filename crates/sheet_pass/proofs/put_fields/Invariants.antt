-- `put_fields` meets its contract: the fingerprints from the i-th on, stored behind those that stand there, give them all.
use mathlib.Core.Path.{◌≡◌}
use Prim.Native.Nat.{◌+◌, ◌*◌}
use lib.ListN.{length, drop}
use lib.Seq.{sets}
use Rattle.big_endian.specs.Numbers.{fields_of}
use Rattle.sheet_pass.proofs.put_fields.Given as goal

abbrev pub invariant-loop-i : goal.invariant-loop-i
invariant-loop-i l =
    (length l.out ≡ length l.initial.out)
    × (sets l.out (l.from + 8 * l.i) (fields_of 8 (drop l.i l.marks)) ≡ sets l.initial.out l.from (fields_of 8 l.marks))
