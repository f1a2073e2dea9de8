-- `agreeing` meets its contract: the first i numbers agree.
use mathlib.Core.Path.{◌≡◌}
use Prim.Native.Nat.{◌+◌, ◌-◌, ◌*◌}
use lib.ListN.{length, drop}
use Rattle.big_endian.specs.Numbers.{numbers_at}
use Rattle.sheets.specs.Inner.{agreeing}
use Rattle.sheet_pass.proofs.agreeing.Given as goal

abbrev pub invariant-loop-i : goal.invariant-loop-i
invariant-loop-i l =
    l.i + agreeing (numbers_at (l.from + 8 * l.i) 8 (length l.marks - l.i) l.fields) (drop l.i l.marks) ≡ agreeing
    (numbers_at l.from 8 (length l.marks) l.fields) l.marks
