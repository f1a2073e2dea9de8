-- `copy_fields` meets its contract: the first i fields stand in the lent places.
use mathlib.Core.Path.{◌≡◌}
use mathlib.Core.List.{◌++◌}
use lib.ListN.{drop}
use Rattle.big_endian.specs.Numbers.{numbers_at}
use Rattle.sheet_reading.proofs.copy_fields.Given as goal

abbrev pub invariant-loop-i : goal.invariant-loop-i
invariant-loop-i l = l.lent ≡ numbers_at 0 8 l.i l.fields ++ drop l.i l.initial.lent
