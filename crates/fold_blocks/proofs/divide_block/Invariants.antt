-- `divide_block` meets its contract: what the words from the i-th piece on stand for, with the bytes from there on behind it, has the residue of
-- the whole.
use mathlib.Core.Path.{◌≡◌}
use Prim.Native.Nat.{◌*◌}
use lib.ListN.{length, drop}
use Rattle.gf2.specs.Polynomials.{rem}
use Rattle.files.specs.Files.{bits, value_from}
use Rattle.house.specs.House.{house_key}
use Rattle.fold_blocks.specs.Folds.{exponents, folded}
use Rattle.fold_blocks.proofs.divide_block.Given as goal

abbrev pub invariant-loop-i : goal.invariant-loop-i
invariant-loop-i l =
    (length l.q ≡ length l.initial.q)
    × (rem house_key (value_from (folded exponents l.s (drop (64 * l.i) l.q) 0) (bits (drop (64 * l.i) l.src))) ≡ rem house_key
    (value_from (folded exponents l.s l.initial.q 0) (bits l.src)))
