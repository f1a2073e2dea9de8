-- `comparing::one_of_four` meets its contract.
use Rattle.comparing.proofs.Comparing.{none-four}
use Rattle.comparing.proofs.one_of_four.Goals as goal

pub returns : goal.returns
returns c = let a = c.args in none-four a.flags.now a.i
