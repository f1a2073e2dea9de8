-- The sum is the product with the i low bits of b, and a is shifted by i places.
use mathlib.Core.Path.{◌≡◌}
use Prim.Native.Nat.{◌*◌, ◌%◌, ◌^◌}
use Rattle.gf2.specs.Polynomials.{◌⊗◌, rem}
use Rattle.gf2.specs.Moduli.{polynomial}
use Rattle.gf2.proofs.product.Given as goal

abbrev pub invariant-loop-i : goal.invariant-loop-i
invariant-loop-i l = (l.shifted ≡ rem (polynomial l.p) (l.a * 2 ^ l.i)) × (l.sum ≡ rem (polynomial l.p) (l.a ⊗ (l.b % 2 ^ l.i)))
