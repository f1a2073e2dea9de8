-- `numerals::hexadecimal` meets its contract: the fewest digits are the number's numeral.
use mathlib.Core.Path.{◌∙◌}
use lib.Dec.{lit<}
use Rattle.numerals.proofs.Numerals.{numeral-is}
use Rattle.numerals.proofs.hexadecimal.Goals as goal

pub returns : goal.returns
returns c = let d = c.hex-count.ensures in d.digits ∙ numeral-is 16 (lit< tt) c.args.n _ d.len
