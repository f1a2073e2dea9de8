-- `compose::replace_page` meets its contract: the tests of the key, and then those of `replace`.
use Rattle.std.proofs.Common.{rules}
use Rattle.std.proofs.lemmas.Result.{err_from_is_err_and}
use Rattle.acceptance.specs.Keys.{polynomial_of, key_tests}
use Rattle.files.specs.Files.{as_part, replaced}
use Rattle.marks.specs.Answers.{mark_in}
use Rattle.marks.proofs.Laws.{still-refused, same-mark}
use Rattle.compose.specs.Composing.{page_tests, replace_page}
use Rattle.compose.proofs.replace_page.Goals as goal

pub returns-in_err-opened : goal.returns-in_err-opened
unfolding replace_page
returns-in_err-opened c =
    let a = c.args in
    let old = as_part a.old.now a.old_used in
    let new = as_part a.new.now a.new_used in
    let key = polynomial_of a.m.key in
    let m = mark_in a.m in
    let q = err_from_is_err_and c.from_residual.result c.from_residual.ensures.1 in
    rw (q.1, q.2)
    (still-refused (key_tests a.m.key) (page_tests key m a.place old new) a.m _ (replaced key m a.place old new) _ c.in_err-opened.ensures)

pub returns : goal.returns
unfolding replace_page
returns c = let e = same-mark c.args.m _ c.in_ok-opened.ensures in search rules
