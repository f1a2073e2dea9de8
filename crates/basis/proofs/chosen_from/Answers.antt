-- `chosen_from` meets its contract.
use Rattle.std.proofs.Common.{rules}
use Rattle.basis.proofs.Elimination.{masked-from}
use Rattle.basis.proofs.chosen_from.Goals as goal

pub returns : goal.returns
returns c =
    let a = c.args in
    let p = c.requires in
    masked-from a.c a.v a.x c.wrapping_neg.result p.0 (search rules) p.1 (search rules) c.wrapping_neg.ensures
