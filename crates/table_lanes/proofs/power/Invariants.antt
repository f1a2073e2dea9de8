-- `power` meets its contract. The loop's invariant: x is the power of t^32 by the bits of n from place i on. The measure is i.
use mathlib.Core.Path.{◌≡◌}
use Prim.Native.Nat.{◌/◌, ◌^◌, ◌≤◌}
use Rattle.gf2.specs.Polynomials.{rem}
use Rattle.gf2.specs.Powers.{◌⊗^◌}
use Rattle.gf2.specs.Moduli.{polynomial}
use Rattle.table_lanes.proofs.power.Given as goal

abbrev pub invariant-loop-i : goal.invariant-loop-i
invariant-loop-i l = (l.i ≤ 63) × (l.x ≡ rem (polynomial l.table.p) ((2 ^ 32) ⊗^ (l.n / 2 ^ l.i)))
