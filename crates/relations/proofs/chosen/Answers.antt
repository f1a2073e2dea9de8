use Rattle.std.proofs.Common.{rules}
use Rattle.basis.proofs.Elimination.{masked}
use Rattle.relations.proofs.chosen.Goals as goal

pub returns : goal.returns
returns c =
    let a = c.args in
    masked a.v a.x c.wrapping_neg.result (search rules) (search rules) c.wrapping_neg.ensures
