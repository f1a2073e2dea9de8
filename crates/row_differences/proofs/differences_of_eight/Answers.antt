-- The sum is 0 where the first i words of each part agree.
use mathlib.Core.Path.{◌≡◌}
use native.Mathlib.Omega.{arith}
use Rattle.gf2.specs.Polynomials.{◌⊕◌}
use Rattle.multiples.proofs.Doubling.{iff_trans, parts_iff, parts_whole}
use Rattle.row_differences.proofs.differences_of_eight.Goals as goal

pub loop-i-preserved : goal.loop-i-preserved
unfolding ◌⊕◌
loop-i-preserved c =
    let a = c.args in
    let l = c.loop-i in
    parts_iff _ _ _ _ _ _ _ _ a.y a.z a.v a.words.now l.i l.sum l.invariant

pub returns : goal.returns
returns c =
    let a = c.args in
    let l = c.loop-i in
    let e : l.i ≡ a.n = omega arith in
    iff_trans (rw e at l.invariant) (parts_whole a.at a.n a.y a.z a.v a.words.now)
