-- `compose::join_in_front_from` meets its contract: that of `join`, with the running mark's own mark second. The tests do not depend on the order.
use mathlib.Core.Path.{ap, ◌∙◌}
use mathlib.Core.List.{List, ◌++◌}
use Rattle.refusals.specs.Refusals.{Test, first_of}
use Rattle.acceptance.specs.Keys.{polynomial_of, key_tests}
use Rattle.files.specs.declared.Mark.{Mark}
use Rattle.files.specs.Files.{joined_from}
use Rattle.marks.specs.Answers.{mark_in, fed_under}
use Rattle.compose.specs.Composing.{join_tests, join_in_front_from}
use Rattle.compose.proofs.Laws.{marks_swap}
use Rattle.compose.proofs.join_in_front_from.Goals as goal

pub returns : goal.returns
unfolding join_in_front_from
returns c =
    let a = c.args in
    let key = a.m.key in
    let start = a.start in
    let m = mark_in a.m in
    c.join.ensures
    ∙ ap (λ (x : Mark). fed_under key (first_of (join_tests key a.other x) m (joined_from start (polynomial_of key) a.other x))) c.mark.ensures
    ∙ ap (λ (ts : List Test). fed_under key (first_of (key_tests key ++ ts) m (joined_from start (polynomial_of key) a.other m)))
    (marks_swap (polynomial_of key) a.other m)
