-- The words before `next` stay, and the i words behind it are shifted ones; so do those behind all n.
use Prim.Native.Nat.{◌+◌, ◌<◌}
use native.Mathlib.Omega.{arith}
use lib.ListN.{length}
use Rattle.gf2.specs.Polynomials.{◌⊕◌}
use Rattle.multiples.proofs.Doubling.{same_more, from_more, shifted-more}
use Rattle.multiples.proofs.double.Goals as goal

pub loop-i-preserved : goal.loop-i-preserved
unfolding ◌⊕◌
loop-i-preserved c =
    let a = c.args in
    let l = c.loop-i in
    let v = l.invariant in
    let g : a.at + a.n + l.i < length l.words = omega arith in
    let h : a.at + l.i < a.at + a.n = omega arith in
    let from = a.words.now in (
      same_more a.at (a.at + a.n) a.y from l.words l.i g h v.0,
      shifted-more a.at (a.at + a.n) a.y from l.words l.i g h v.0 v.1,
      from_more a.at (a.at + a.n) a.y from l.words l.i g h a.n c.loop-i-test.true v.2,
    )
