-- `fold` meets its contract: what the words in front stand for, with the rest of the part behind it, has the residue of the whole.
use mathlib.Core.Path.{◌≡◌}
use lib.ListN.{length}
use Rattle.gf2.specs.Polynomials.{rem}
use Rattle.files.specs.Files.{bits, value_from}
use Rattle.house.specs.House.{house_key}
use Rattle.fold_blocks.specs.Folds.{exponents, folded}
use Rattle.fold_blocks.proofs.fold.Given as goal

abbrev pub invariant-loop-block : goal.invariant-loop-block
invariant-loop-block l =
    (l.block-iterator.size ≡ l.size)
    × (length l.q ≡ length l.initial.q)
    × (rem house_key (value_from (folded exponents l.s l.q 0) (bits l.block-iterator.rest.now)) ≡ rem house_key
    (value_from (folded exponents l.s l.initial.q 0) (bits l.part)))
