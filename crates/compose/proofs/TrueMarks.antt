-- Joining true marks, and a page change with true old bits: the claims of specs/Composing.antt, proved.
use mathlib.Core.Path.{sym, ◌∙◌}
use mathlib.Core.List.{◌++◌}
use Prim.Native.Nat.{◌+◌, ◌*◌, ◌<◌}
use native.Mathlib.Omega.{arith}
use lib.Dec.{eqb}
use lib.Pow.{pow_pos}
use borrow.Author.Tests.{eqb-true, not-false, ltb-false}
use Rattle.gf2.specs.Polynomials.{monic}
use Rattle.refusals.proofs.Laws.{done-clear}
use Rattle.acceptance.specs.declared.Key.{Key}
use Rattle.acceptance.specs.Keys.{polynomial_of, key_tests}
use Rattle.files.specs.Files.{mark_from, part_length, joined_from, replaced}
use Rattle.files.proofs.Marks.{join, page}
use Rattle.compose.specs.Composing.{join_tests, join_behind_from, join_in_front_from, page_tests, replace_page, BehindTrue, InFrontTrue, PageTrue}

some : (x : Key) → 0 < polynomial_of x
unfolding monic
some x = omega (arith, pow_pos x.degree)

pub behind_true : BehindTrue
unfolding join_behind_from
behind_true s x file its m other after t u e =
    let key = polynomial_of x in
    sym (done-clear (join_tests x m other) m (joined_from s key m other) after e).1 ∙ join s key file its m other (some x) t u

pub in_front_true : InFrontTrue
unfolding join_in_front_from
in_front_true s x file its m other after t u e =
    let key = polynomial_of x in
    sym (done-clear (join_tests x m other) m (joined_from s key other m) after e).1 ∙ join s key its file other m (some x) u t

pub page_true : PageTrue
unfolding replace_page mark_from
page_true s x file m after place old new t there e =
    let key = polynomial_of x in
    let d = done-clear (key_tests x ++ page_tests key m place old new) m (replaced key m place old new) after e in
    let tests = d.0.1.1.1.1 in
    let same = eqb-true (part_length old) (part_length new) (not-false (eqb (part_length old) (part_length new)) tests.0) in
    let inside = rw t at (ltb-false m.length (8 * place + part_length old) tests.1.0) in
    sym d.1 ∙ page s key file m place old new (some x) t same inside there
