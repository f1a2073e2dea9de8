-- `times_bits` meets its contract: the sum is the product with the i low bits.
use mathlib.Core.Path.{◌≡◌}
use Prim.Native.Nat.{◌%◌, ◌^◌}
use Rattle.gf2.specs.Polynomials.{◌⊗◌}
use Rattle.sparse.proofs.times_bits.Given as goal

abbrev pub invariant-loop-i : goal.invariant-loop-i
invariant-loop-i l = l.sum ≡ l.h ⊗ (l.low % 2 ^ l.i)
