-- `times` meets its contract: the sum is the product of the bytes of x before this one.
use mathlib.Core.Path.{◌≡◌}
use Prim.Native.Nat.{◌-◌, ◌*◌, ◌/◌, ◌^◌}
use lib.ListN.{get_or}
use Rattle.gf2.specs.Polynomials.{◌⊗◌, rem}
use Rattle.gf2.specs.Moduli.{polynomial}
use Rattle.table_lanes.proofs.times.Given as goal

abbrev pub invariant-loop-byte : goal.invariant-loop-byte
invariant-loop-byte l = l.sum ≡ rem (polynomial l.table.p) (l.x / 2 ^ (64 - 8 * l.byte-index) ⊗ get_or l.rows 1 0)
