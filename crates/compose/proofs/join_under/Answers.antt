-- `compose::join_under` meets its contract: the tests in their order, and the value by `joined_residue`.
use Rattle.std.proofs.Common.{rules}
use Rattle.acceptance.proofs.Opened.{opened-degree, opened-whole}
use Rattle.files.specs.Files.{joined_from}
use Rattle.compose.proofs.join_under.Goals as goal

pub returns-then-not-is_residue : goal.returns-then-not-is_residue
returns-then-not-is_residue c =
    let e = opened-degree c.args.open.opened in
    search rules

pub returns : goal.returns
unfolding joined_from
returns c =
    let e = opened-degree c.args.open.opened in
    let f = opened-whole c.args.open.opened in
    search rules
