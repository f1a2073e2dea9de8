-- `feed_four` meets its contract.
use mathlib.Core.Path.{ap, ◌∙◌}
use Prim.Native.Nat.{ℕ, ◌+◌, ◌*◌, ◌^◌}
use native.Mathlib.Nat.{mod-eq_of_lt}
use Rattle.gf2.specs.Polynomials.{rem}
use Rattle.gf2.specs.Moduli.{polynomial}
use Rattle.lookups.proofs.KeyTable.feed_four.Goals as goal

pub returns : goal.returns
returns c =
    let a = c.args in
    c.below.ensures ∙ c.append.ensures ∙ ap (λ (f : ℕ). rem (polynomial a.self.p) (f * 2 ^ 32 + a.v)) (mod-eq_of_lt c.requires.0)
