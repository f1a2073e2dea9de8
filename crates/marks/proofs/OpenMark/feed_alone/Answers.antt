-- `OpenMark::feed_alone` meets its contract: what `judge` refuses, and the residue of the part behind the fingerprint.
use Rattle.std.proofs.Common.{rules}
use Rattle.acceptance.proofs.Opened.{opened-proper}
use Rattle.files.specs.Files.{as_part}
use Rattle.marks.proofs.Laws.{clear-below, clear-used, fed-next}
use Rattle.marks.proofs.OpenMark.feed_alone.Goals as goal

pub part_alone-next-requires : goal.part_alone-next-requires
part_alone-next-requires c =
    let o = c.args.self in
    let part = as_part c.args.part.now c.args.used in
    let e = c.in_ok-length.ensures in
    (opened-proper o.opened, clear-below o.mark o.opened part _ e, clear-used o.mark o.opened part _ e)

pub returns : goal.returns
returns c = search (rules, fed-next)
