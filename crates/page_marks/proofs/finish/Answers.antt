-- `finish` meets its contract, by either way.
use Rattle.gf2.specs.Moduli.{polynomial}
use Rattle.page_marks.proofs.Marks.{cut_finished}
use Rattle.page_marks.proofs.finish.Goals as goal
use lib.ListN.{length}

pub returns-then-k-lt64 : goal.returns-then-k-lt64
returns-then-k-lt64 c =
    let a = c.args in
    cut_finished (polynomial a.table.p) a.size a.whole (length a.marks.now) a.pages.now a.marks.now c.cut_marks.new.marks c.if-whole-size.true c.requires.2
    c.cut_marks.ensures
