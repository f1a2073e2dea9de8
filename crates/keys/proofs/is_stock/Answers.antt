-- `is_stock` meets its contract.
use mathlib.Core.Path.{◌∙◌}
use mathlib.Core.Bool.{false≢true}
use borrow.Author.Tests.{eqb-true}
use Rattle.keys.proofs.is_stock.Goals as goal

pub returns-then-p-ge256 : goal.returns-then-p-ge256
returns-then-p-ge256 c e = absurd (false≢true e)

pub returns : goal.returns
returns c e = eqb-true _ _ e ∙ c.stock_word.ensures
