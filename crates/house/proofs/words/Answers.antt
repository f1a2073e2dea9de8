-- The constant is the table: the checker computes the rows and compares.
use Rattle.lists.specs.Lists.{same}
use Rattle.house.proofs.Rows.{rows}
use Rattle.house.proofs.House.{house-table}
use Rattle.house.proofs.words.Goals as goal

pub returns : goal.returns
unfolding same rows
returns c = house-table _ tt
