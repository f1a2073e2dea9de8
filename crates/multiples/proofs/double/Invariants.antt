-- The words before `next` stay, and the i words behind it are shifted ones; so do those behind all n.
use Prim.Native.Nat.{◌+◌}
use Rattle.multiples.specs.Rows.{Shifted, SameBefore, SameFrom}
use Rattle.multiples.proofs.double.Given as goal

abbrev pub invariant-loop-i : goal.invariant-loop-i
invariant-loop-i l =
    SameBefore l.next l.initial.words l.words × Shifted l.at l.next l.i l.y l.initial.words l.words × SameFrom (l.next + l.n) l.initial.words l.words
