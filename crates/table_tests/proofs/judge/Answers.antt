-- `judge` meets its contract: number 5, then 6.
use mathlib.Core.Path.{sym}
use mathlib.Core.List.{[], ◌∷◌}
use Rattle.gf2.specs.Moduli.{polynomial}
use Rattle.refusals.specs.declared.Refusal.TheVariants.{TableWord}
use Rattle.refusals.specs.Refusals.{◌⇒◌}
use Rattle.refusals.proofs.Laws.{holds, fails}
use Rattle.lookups.specs.Rule.{word, differs}
use Rattle.table_tests.proofs.Laws.{size-refused, word-refused, table-passed}
use Rattle.table_tests.proofs.judge.Goals as goal

pub returns-then-words-ne1024 : goal.returns-then-words-ne1024
returns-then-words-ne1024 c =
    let a = c.args in
    sym (size-refused a.words.now (differs (word 8 (polynomial a.p)) 0 a.words.now ⇒ TableWord ∷ []) tt tt c.if-words-ne1024.true)

pub table_holds-requires : goal.table_holds-requires
table_holds-requires c = (c.requires, c.if-words-ne1024.false)

pub returns-then-not-table_holds : goal.returns-then-not-table_holds
returns-then-not-table_holds c =
    let a = c.args in
    let h = c.table_holds in
    sym (word-refused a.words.now (polynomial a.p) c.if-words-ne1024.false (holds h.result _ h.ensures c.if-not-table_holds.true-raw))

pub returns : goal.returns
returns c =
    let a = c.args in
    let h = c.table_holds in
    sym (table-passed a.words.now (polynomial a.p) c.if-words-ne1024.false (fails h.result _ h.ensures c.if-not-table_holds.false-raw))
