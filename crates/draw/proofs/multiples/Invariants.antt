-- `draw::multiples` meets its contract. The loop's invariant: the rows before j are in, and x is row j. The measure is the number of rows that are left.
use mathlib.Core.Path.{◌≡◌}
use Prim.Native.Nat.{◌-◌, ◌≤◌}
use lib.ListN.{length}
use Rattle.gf2.specs.Polynomials.{◌⊗◌, rem}
use Rattle.gf2.specs.Moduli.{polynomial}
use Rattle.basis.proofs.Matrices.{Filling}
use Rattle.draw.proofs.multiples.Given as goal

abbrev pub invariant-loop-j : goal.invariant-loop-j
invariant-loop-j l = (l.j ≤ 64) × (length l.rows ≡ 64) × Filling (λ y. rem (polynomial l.p) (y ⊗ l.a)) l.rows l.x l.j

abbrev pub decreases-loop-j : goal.decreases-loop-j
decreases-loop-j l = 64 - l.j
