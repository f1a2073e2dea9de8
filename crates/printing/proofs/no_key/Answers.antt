-- `printing::no_key` meets its contract: one text, at the front.
use Rattle.printing.specs.Printing.{ascii, no_key}
use Rattle.printing.proofs.no_key.Goals as goal

pub returns : goal.returns
unfolding no_key ascii
returns c = c.put.ensures
