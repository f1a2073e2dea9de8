-- `times` meets its contract.
use mathlib.Core.Path.{◌≡◌}
use Prim.Native.Nat.{◌-◌, ◌≤◌}
use Rattle.gf2.specs.Polynomials.{◌⊕◌}
use Rattle.lookups.specs.Groups.{looked}
use Rattle.shifts.proofs.times.Given as goal

abbrev pub invariant-loop-j : goal.invariant-loop-j
invariant-loop-j l = (l.j ≤ 8) × (l.sum ⊕ looked 8 l.words (8 - l.j) l.j l.rest ≡ looked 8 l.words 8 0 l.f)
