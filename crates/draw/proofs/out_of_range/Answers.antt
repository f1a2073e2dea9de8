-- `draw::out_of_range` meets its contract: 1 shifted by k is 2^k.
use mathlib.Core.Path.{ap}
use Prim.Native.Nat.{ℕ}
use borrow.Author.Tests.{lt-ltb, le-ltb}
use lib.Dec.{leb}
use Rattle.gf2.proofs.Steps.{shifted_one}
use Rattle.draw.proofs.out_of_range.Goals as goal

pub returns-then-element-lt2 : goal.returns-then-element-lt2
returns-then-element-lt2 c = rw (lt-ltb c.args.element 2 c.if-element-lt2.true)

pub returns-else-element-lt2 : goal.returns-else-element-lt2
returns-else-element-lt2 c =
    let a = c.args in
    rw (le-ltb a.element 2 c.if-element-lt2.false) (ap (λ (x : ℕ). leb x a.element) (shifted_one a.k c.requires))
