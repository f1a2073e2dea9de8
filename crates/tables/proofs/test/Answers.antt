-- `test` meets its contract: the tests of the key, and then those of `judge`.
use mathlib.Core.Path.{sym, ap, ◌∙◌}
use Prim.Native.Nat.{ℕ}
use Rattle.std.proofs.lemmas.Result.{err_from_is_err_and}
use Rattle.refusals.specs.Refusals.{judged}
use Rattle.acceptance.specs.Keys.{polynomial_of}
use Rattle.acceptance.specs.Opened.{Opened}
use Rattle.acceptance.proofs.Opened.{opened-whole, opened-proper, opened-first}
use Rattle.keys.proofs.Laws.{opened, refused}
use Rattle.tables.specs.Tables.{test_table}
use Rattle.table_tests.specs.TableTests.{table_tests}
use Rattle.tables.proofs.test.Goals as goal
use Rattle.tables.proofs.test.Goals.{In_ok-p}

key-opened : (c : In_ok-p) → Opened c.args.key c.in_ok-p.p
key-opened c = let t = c.test in opened t.result c.args.key t.ensures _ c.in_ok-p.was

pub judge-requires : goal.judge-requires
judge-requires c = opened-proper (key-opened c)

pub returns-in_err-p : goal.returns-in_err-p
unfolding test_table
returns-in_err-p c =
    let a = c.args in
    let t = c.test in
    let r = err_from_is_err_and c.from_residual.result c.from_residual.ensures.1 in
    rw (r.1, r.2) (sym (refused t.result a.key t.ensures (table_tests (polynomial_of a.key) a.words.now) tt tt _ c.in_err-p.was))

pub returns : goal.returns
unfolding test_table
returns c =
    let a = c.args in
    let words = a.words.now in
    let h = key-opened (goal.at.returns c).In_ok-p in
    c.judge.ensures ∙ ap (λ (q : ℕ). judged (table_tests q words)) (opened-whole h) ∙ sym (opened-first h (table_tests (polynomial_of a.key) words) tt tt)
