-- The half of 2^k + low.
use mathlib.Core.Path.{◌≡◌}
use Prim.Native.Nat.{ℕ, zero, suc, ◌+◌, ◌-◌, ◌*◌, ◌/◌, ◌%◌, ◌^◌, ◌≤◌, ◌<◌}
use native.Mathlib.Omega.{arith}
use Rattle.gf2.specs.Polynomials.{monic}
use Rattle.gf2.proofs.Steps.{shifted_one}
use Rattle.inverses.proofs.inverse_of_t.Goals as goal

half_is : (k c : ℕ) → 0 < k → k ≤ 64 → c / 2 + 1 * 2 ^ (k - 1) % 2 ^ 64 ≡ monic k c / 2
unfolding monic
half_is zero c l h = absurd (omega arith)
half_is (suc k) c l h = let e = shifted_one k (omega arith) in let f : suc k - 1 ≡ k = omega arith in rw (f, e) (omega arith)

pub returns : goal.returns
returns c = half_is c.args.p.degree c.args.p.low c.requires.0 c.requires.1
