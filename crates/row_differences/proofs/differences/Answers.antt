-- The sum is 0 where the first i words agree.
use Prim.Native.Nat.{◌+◌}
use Rattle.gf2.specs.Polynomials.{◌⊕◌}
use Rattle.multiples.proofs.Doubling.{or_iff, iff_trans, difference_iff, shifted_iff}
use lib.ListN.{get_or}
use Rattle.row_differences.proofs.differences.Goals as goal

pub loop-i-preserved : goal.loop-i-preserved
unfolding ◌⊕◌
loop-i-preserved c =
    let a = c.args in
    let l = c.loop-i in
    let ws = a.words.now in
    let u = get_or ws (a.at + a.n + l.i) 0 in
    let v = get_or ws (a.at + l.i) 0 in
    iff_trans (or_iff l.sum (u ⊕ v ⊕ a.y) l.invariant (difference_iff u v a.y)) (shifted_iff a.at (a.at + a.n) l.i a.y ws)
