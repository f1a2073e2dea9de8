-- `divide` meets its contract: after i bytes the quotient's bytes stand for the start and those i bytes.
use mathlib.Core.Path.{◌≡◌}
use lib.ListN.{length, take}
use Rattle.files.specs.Files.{bits, value_from}
use Rattle.fold_blocks.specs.Folds.{exponents, folded}
use Rattle.fold_blocks.proofs.divide.Given as goal

abbrev pub invariant-loop-i : goal.invariant-loop-i
invariant-loop-i l = (length l.q ≡ length l.initial.q) ×
    (folded exponents l.s l.q l.i ≡ value_from (folded exponents l.s l.initial.q 0) (bits (take l.i l.src)))
