-- After j turns the first j rows are right, and y is the start of the next one.
use mathlib.Core.Path.{◌≡◌}
use Prim.Native.Nat.{◌*◌, ◌^◌}
use Rattle.gf2.specs.Polynomials.{rem}
use Rattle.gf2.specs.Moduli.{polynomial}
use Rattle.multiples.specs.Rows.{Rows}
use Rattle.row_tests.proofs.rows_hold.Given as goal

abbrev pub invariant-loop-j : goal.invariant-loop-j
invariant-loop-j l = (l.y ≡ rem (polynomial l.p) (l.x * 2 ^ (l.width * l.j))) × Rows l.width (polynomial l.p) l.x l.j l.words
