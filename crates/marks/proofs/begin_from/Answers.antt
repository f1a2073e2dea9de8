-- `begin_from` meets its contract: the empty file's value is the start, which is below every modulus of degree 1 or more.
use mathlib.Core.Path.{refl, sym, ap, ◌∙◌}
use mathlib.Core.List.{[]}
use Rattle.std.proofs.lemmas.Result.{err_from_is_err_and}
use Rattle.refusals.specs.Refusals.{Done}
use Rattle.files.specs.Files.{mark_from}
use Rattle.files.proofs.Marks.{empty-from}
use Rattle.acceptance.specs.Keys.{polynomial_of}
use Rattle.acceptance.proofs.Laws.{accepted_iff}
use Rattle.acceptance.proofs.Opened.{opened-first}
use Rattle.keys.proofs.Laws.{opened, refused}
use Rattle.marks.specs.Feeding.{begin_from}
use Rattle.marks.specs.Answers.{begun_under}
use Rattle.marks.proofs.begin_from.Goals as goal

pub returns-in_err-test : goal.returns-in_err-test
unfolding begin_from
returns-in_err-test c =
    let x = c.args.key in
    let q = err_from_is_err_and c.from_residual.result c.from_residual.ensures.1 in
    let v = mark_from c.args.start (polynomial_of x) [] in
    rw (q.1, q.2) (sym (ap (begun_under x) (refused _ x c.in_err-test.ensures [] tt v _ refl)))

pub returns : goal.returns
unfolding begin_from
returns c =
    let x = c.args.key in
    let h = opened _ x c.in_ok-test.ensures _ refl in
    let key = polynomial_of x in
    let proper = ((accepted_iff key).0 h.is-accepted).2.proper in
    sym (ap (begun_under x) (opened-first h [] tt (mark_from c.args.start key []) ∙ ap Done (empty-from c.args.start key c.requires proper)))
