-- x is the power by the bits of n from place i on.
use mathlib.Core.Path.{◌≡◌}
use Prim.Native.Nat.{◌/◌, ◌^◌}
use Rattle.gf2.specs.Polynomials.{rem}
use Rattle.gf2.specs.Powers.{◌⊗^◌}
use Rattle.gf2.specs.Moduli.{polynomial}
use Rattle.gf2.proofs.power_of_t.Given as goal

abbrev pub invariant-loop-i : goal.invariant-loop-i
invariant-loop-i l = l.x ≡ rem (polynomial l.p) (2 ⊗^ (l.n / 2 ^ l.i))
