-- `fill_table` meets its contract: four rows of multiples are the table.
use mathlib.Core.Path.{◌∙◌}
use native.Mathlib.Omega.{arith}
use Rattle.lookups.proofs.Rule.{table-made}
use Rattle.lookups.proofs.fill_table.Goals as goal

pub fill_rows-requires : goal.fill_rows-requires
fill_rows-requires c = let p = c.requires in (p.0, p.0.2, omega arith, omega arith, omega (arith, p.1))

pub shape_of-words : goal.shape_of-words
shape_of-words c = c.fill_rows.auto.words

pub returns : goal.returns
returns c =
    let r = c.fill_rows in
    table-made c.args.p r.new.words c.requires.0 (r.auto.words ∙ c.requires.1) r.ensures.0
