-- `look_up` meets its contract: two rows, and two behind them.
use mathlib.Core.Path.{ap₂, ◌∙◌}
use Prim.Native.Nat.{ℕ}
use Rattle.gf2.specs.Polynomials.{◌⊕◌}
use Rattle.lookups.proofs.Cut.{look_four}
use Rattle.lookups.proofs.KeyTable.look_up.Goals as goal

pub returns : goal.returns
unfolding ◌⊕◌
returns c =
    let a = c.args in
    ap₂ (λ (x y : ℕ). a.below ⊕ x ⊕ y) c.look_two.ensures c.look_two-2.ensures ∙ look_four a.self.words.now a.below a.above
