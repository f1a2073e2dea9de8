-- `OpenMark::turn` meets its contract: numbers 7 and 8, and the value by `turned_residue`.
use Rattle.std.proofs.Common.{rules}
use Rattle.acceptance.proofs.Opened.{opened-degree, opened-whole}
use Rattle.files.specs.PlainMarks.{turned}
use Rattle.marks.proofs.OpenMark.turn.Goals as goal

pub returns-then-not-is_residue : goal.returns-then-not-is_residue
returns-then-not-is_residue c =
    let e = opened-degree c.args.self.opened in
    search rules

pub returns : goal.returns
unfolding turned
returns c =
    let e = opened-degree c.args.self.opened in
    let f = opened-whole c.args.self.opened in
    search rules
