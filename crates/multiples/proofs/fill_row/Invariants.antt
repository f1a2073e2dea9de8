-- After b turns the row has 2^b words, and y is the multiple by 2^b.
use mathlib.Core.Path.{◌≡◌}
use Prim.Native.Nat.{◌+◌, ◌^◌}
use Rattle.gf2.specs.Polynomials.{◌⊗◌, rem}
use Rattle.gf2.specs.Moduli.{polynomial}
use Rattle.multiples.specs.Rows.{Multiples, SameBefore, SameFrom}
use Rattle.multiples.proofs.fill_row.Given as goal

abbrev pub invariant-loop : goal.invariant-loop
invariant-loop l =
    (l.n ≡ 2 ^ l.counter) × (l.y ≡ rem (polynomial l.p) (l.n ⊗ l.x)) × Multiples (polynomial l.p) l.x l.at l.n l.words
    × SameBefore l.at l.initial.words l.words × SameFrom (l.at + 2 ^ l.width) l.initial.words l.words
