-- `comparing::one_of_eight` meets its contract: four windows, and four behind them.
use Rattle.comparing.proofs.Comparing.{none-eight}
use Rattle.comparing.proofs.one_of_eight.Goals as goal

pub returns : goal.returns
returns c =
    let a = c.args in
    let first = c.one_of_four in
    none-eight a.flags.now first.result c.one_of_four-2.result a.i first.ensures c.one_of_four-2.ensures
