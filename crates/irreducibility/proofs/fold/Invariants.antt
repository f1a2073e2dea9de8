use mathlib.Core.Path.{◌≡◌}
use Prim.Native.Nat.{◌-◌}
use Rattle.gf2.specs.Polynomials.{◌⊕◌}
use Rattle.irreducibility.specs.Squares.{folded}
use Rattle.irreducibility.proofs.fold.Given as goal

abbrev pub invariant-loop : goal.invariant-loop
invariant-loop l = l.sum ⊕ folded (6 - l.counter) l.rest ≡ folded 6 l.x
