-- `make_under` meets its contract: number 5, or the table.
use mathlib.Core.Path.{sym, ap, ◌∙◌}
use mathlib.Core.List.{[]}
use Rattle.gf2.specs.Moduli.{polynomial}
use Rattle.refusals.specs.Refusals.{Done}
use Rattle.lookups.specs.Rule.{table}
use Rattle.table_tests.proofs.Laws.{size-refused, size-passed}
use Rattle.tables.proofs.make_under.Goals as goal

pub fill_table-requires : goal.fill_table-requires
fill_table-requires c = (c.requires, c.if-words-eq1024.true)

pub returns-then-words-eq1024 : goal.returns-then-words-eq1024
returns-then-words-eq1024 c =
    let a = c.args in
    ap Done c.fill_table.ensures
    ∙ sym (size-passed a.words.now [] a.words.now (table (polynomial a.p)) c.if-words-eq1024.true)

pub returns : goal.returns
returns c =
    let a = c.args in
    sym (size-refused a.words.now [] a.words.now (table (polynomial a.p)) c.if-words-eq1024.false)
