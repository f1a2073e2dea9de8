-- `key_lines::undecided` meets its contract.
use mathlib.Core.Path.{sym, ◌∙◌}
use mathlib.Core.Path.{◌≡◌}
use Prim.Native.Nat.{ℕ, ◌<◌}
use native.Mathlib.Omega.{arith}
use lib.Dec.{ltb}
use borrow.Author.Tests.{lt-ltb, le-ltb}
use Rattle.std.proofs.Common.{rules, tests, Option, Some, None, SomeIff, is_some}
use Rattle.std.proofs.lemmas.Iterator.{YieldsList-from_slice}
use Rattle.std.proofs.lemmas.Iterator.Search.{all_from_yields_List}
use Rattle.key_lines.specs.KeyLines.{digit}
use Rattle.key_lines.proofs.Laws.{digits-all, many-decided, few-undecided}
use Rattle.key_lines.proofs.undecided.Goals as goal

some_digit : (r : Option ℕ) (d : ℕ) → SomeIff r (d < 16) d → is_some r ≡ ltb d 16
some_digit None d h = sym (le-ltb d 16 (omega (arith, h)))
some_digit (Some x) d h = sym (lt-ltb d 16 h.0)

pub returns-then-input-lt18 : goal.returns-then-input-lt18
returns-then-input-lt18 c =
    all_from_yields_List (λ b. ltb (digit b) 16) _ _ _ c.all.ensures.ran (YieldsList-from_slice c.args.input.now c.iter.ensures.rest)
    (λ x b q k. (search (rules, tests), search (rules, tests, some_digit)))
    ∙ digits-all c.args.input.now
    ∙ sym (few-undecided _ c.if-input-lt18.true)

pub returns-else-input-lt18 : goal.returns-else-input-lt18
returns-else-input-lt18 c = le-ltb _ 18 c.if-input-lt18.false ∙ sym (many-decided _ c.if-input-lt18.false)
