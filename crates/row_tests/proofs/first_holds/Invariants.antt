-- The sum is 0 where the first 2^b words are the row.
use mathlib.Core.Path.{◌≡◌}
use Prim.Native.Nat.{◌^◌}
use mathlib.Core.Logic.{◌↔◌}
use Rattle.gf2.specs.Polynomials.{◌⊗◌, rem}
use Rattle.gf2.specs.Moduli.{polynomial}
use Rattle.multiples.specs.Rows.{Multiples}
use Rattle.row_tests.proofs.first_holds.Given as goal

abbrev pub invariant-loop : goal.invariant-loop
invariant-loop l =
    (l.n ≡ 2 ^ l.counter) × (l.y ≡ rem (polynomial l.p) (l.n ⊗ l.x)) × ((l.sum ≡ 0) ↔ Multiples (polynomial l.p) l.x l.at l.n l.words)
