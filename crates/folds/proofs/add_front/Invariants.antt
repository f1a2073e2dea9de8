-- `add_front` meets its contract: i bytes are added, and neither those before place `at` nor those behind have changed.
use mathlib.Core.Path.{◌≡◌}
use Prim.Native.Nat.{◌+◌}
use lib.ListN.{length, take, drop}
use Rattle.gf2.specs.Polynomials.{◌⊕◌}
use Rattle.fold_blocks.specs.Folds.{front}
use Rattle.folds.proofs.add_front.Given as goal

abbrev pub invariant-loop-i : goal.invariant-loop-i
invariant-loop-i l =
    (length l.q ≡ length l.initial.q) × (take l.at l.q ≡ take l.at l.initial.q) × (drop (l.at + l.i) l.q ≡ drop (l.at + l.i) l.initial.q)
    × (front l.q (l.at + l.i) ≡ front l.initial.q (l.at + l.i) ⊕ front l.initial.q l.i)
