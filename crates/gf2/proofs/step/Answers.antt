use mathlib.Core.Path.{◌≡◌, sym, ap, ◌∙◌}
use Prim.Native.Nat.{ℕ, ◌+◌, ◌-◌, ◌*◌, ◌/◌, ◌%◌, ◌^◌, ◌<◌}
use native.Mathlib.Nat.{mod-eq_of_lt}
use Rattle.gf2.specs.Polynomials.{◌⊕◌, monic, rem}
use Rattle.gf2.proofs.Steps.{step_is, top_bit}
use Rattle.gf2.proofs.step.Goals as goal

-- `step_is` as the code has it: the coefficient that falls out is a bit already, and the remainder only tells the compiler so
stepped : (k c f b : ℕ) → 0 < k → c < 2 ^ k → f < 2 ^ k → b < 2 → rem (monic k c) (f * 2 + b) ≡ (f % 2 ^ (k - 1) * 2 + b) ⊕ c * (f / 2 ^ (k - 1) % 2)
stepped k c f b p h l m =
    step_is k c f b p h l m ∙ ap (λ (x : ℕ). (f % 2 ^ (k - 1) * 2 + b) ⊕ c * x) (sym (mod-eq_of_lt (top_bit k f p l)))

pub returns : goal.returns
unfolding ◌⊕◌
returns c =
    let a = c.args in
    let p = c.requires in
    rw c.low_bits-rest.ensures (sym (stepped a.p.degree a.p.low a.f a.bit p.0.0 p.0.2 p.1 p.2))
