-- `OpenMark::feed_under` meets its contract: numbers 5 and 6, those of the part, and the residue of the part behind the fingerprint.
use Rattle.std.proofs.Common.{rules}
use Rattle.gf2.specs.Moduli.{polynomial}
use Rattle.refusals.proofs.Laws.{Clear, more-clear}
use Rattle.acceptance.specs.Keys.{polynomial_of}
use Rattle.acceptance.proofs.Opened.{opened-whole, opened-proper, opened-eight}
use Rattle.files.specs.Files.{as_part, fed_mark}
use Rattle.mark_tests.specs.MarkTests.{feed_tests}
use Rattle.table_tests.specs.TableTests.{table_tests}
use Rattle.table_tests.proofs.Laws.{table-clear}
use Rattle.marks.specs.Answers.{mark_in}
use Rattle.marks.proofs.Laws.{clear-below, clear-used, fed-next}
use Rattle.marks.proofs.OpenMark.feed_under.Goals as goal

pub invariant_of-table : goal.invariant_of-table
invariant_of-table c =
    let h = c.args.self.opened in
    let clear : Clear (table_tests (polynomial c.args.self.p) c.args.words.now) = search rules in
    record { holds = (opened-proper h, opened-eight h, table-clear c.args.words.now (polynomial c.args.self.p) clear) }

pub part_by_table-looked-requires : goal.part_by_table-looked-requires
part_by_table-looked-requires c =
    let o = c.args.self in
    let part = as_part c.args.part.now c.args.used in
    let e = c.in_ok-length.ensures in
    (clear-below o.mark o.opened part _ e, clear-used o.mark o.opened part _ e)

pub returns : goal.returns
returns c =
    let o = c.args.self in
    let f = opened-whole o.opened in
    let key = polynomial_of o.mark.key in
    let words = c.args.words.now in
    let m = mark_in o.mark in
    let part = as_part c.args.part.now c.args.used in
    let clear : Clear (table_tests key words) = search rules in
    let more = more-clear (table_tests key words) (feed_tests key m part) m (fed_mark key m part) clear in
    search (rules, fed-next)
