-- `table_holds` meets its contract: the words are the table where they are four rows of multiples.
use native.Mathlib.Omega.{arith}
use Rattle.lookups.proofs.Rule.{table-told}
use Rattle.lookups.proofs.table_holds.Goals as goal

pub rows_hold-requires : goal.rows_hold-requires
rows_hold-requires c = let p = c.requires in (p.0, p.0.2, omega arith, omega arith, omega (arith, p.1))

pub returns : goal.returns
returns c =
    table-told c.args.p c.args.words.now c.requires.0 c.requires.1 c.rows_hold.result c.rows_hold.ensures
