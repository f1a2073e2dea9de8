-- `draw::powers` meets its contract. The loop's invariant: the powers before the i-th are in, and the i-th is at hand, modulo whatever
-- `times_e` is multiplication by e. The measure is the number of powers that are left.
use mathlib.Core.Path.{◌≡◌}
use Prim.Native.Nat.{◌-◌, ◌≤◌}
use lib.ListN.{length}
use Rattle.gf2.specs.Moduli.{polynomial}
use Rattle.gf2.specs.declared.Modulus.{Modulus}
use Rattle.fields.specs.Fields.{at}
use Rattle.basis.proofs.Matrices.{Filling}
use Rattle.draw.proofs.Evaluation.{Times}
use Rattle.draw.proofs.powers.Given as goal

abbrev pub invariant-loop-i : goal.invariant-loop-i
invariant-loop-i l = (l.i ≤ 64) × (length l.rows ≡ 64) × ((p : Modulus) → Times p l.e l.times_e → Filling (λ q. at (polynomial p) q l.e) l.rows l.power l.i)

abbrev pub decreases-loop-i : goal.decreases-loop-i
decreases-loop-i l = 64 - l.i
