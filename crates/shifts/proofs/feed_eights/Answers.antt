-- `feed_eights` meets its contract: each number stands for a leading 1 and the bytes before i of its part.
use mathlib.Core.Path.{refl}
use Prim.Native.Nat.{◌+◌, ◌≤◌}
use native.Mathlib.Omega.{arith}
use lib.ListN.{length}
use Rattle.gf2.specs.Polynomials.{◌⊕◌}
use Rattle.shifts.proofs.Eights.{first-eight, next-eight, all_eights}
use Rattle.shifts.proofs.feed_eights.Goals as goal

pub loop-i-init : goal.loop-i-init
unfolding ◌⊕◌
loop-i-init c =
    let a = c.args in
    let eight = first-eight a.words.now in (
      c.requires.1,
      refl,
      eight a.q.now c.eight_at.result c.requires.1 c.eight_at.ensures,
      eight a.r.now c.eight_at-2.result (omega (arith, c.requires.1, c.requires.3)) c.eight_at-2.ensures,
    )

pub loop-i-preserved : goal.loop-i-preserved
unfolding ◌⊕◌
loop-i-preserved c =
    let a = c.args in
    let l = c.loop-i in
    let fits : l.i + 8 ≤ length a.q.now = omega (arith, l.invariant.1, c.loop-i-test.true, c.requires.2) in
    let eight = next-eight a.words.now in (
      fits,
      omega (arith, l.invariant.1),
      eight a.q.now l.i l.a c.times.result c.eight_at-in-loop-i.result l.invariant.2 fits
          c.times.ensures c.eight_at-in-loop-i.ensures,
      eight a.r.now l.i l.b c.times-in-loop-i.result c.eight_at-in-loop-i-2.result l.invariant.3 (omega (arith, fits, c.requires.3))
          c.times-in-loop-i.ensures c.eight_at-in-loop-i-2.ensures,
    )

-- nothing is left behind the first eight bytes, or behind those of a turn
pub returns : goal.returns
returns c =
    let a = c.args in
    let l = c.loop-i in
    let all = all_eights a.words.now in
    (all a.q.now l.i l.a l.invariant.2 (omega arith), all a.r.now l.i l.b l.invariant.3 (omega (arith, c.requires.3)))

pub returns-2 : goal.returns-2
unfolding ◌⊕◌
returns-2 c =
    let a = c.args in
    let l = c.loop-i in
    let fits : l.i + 8 ≤ length a.q.now = omega (arith, l.invariant.1, c.loop-i-test.true, c.requires.2) in
    let eight = next-eight a.words.now in
    let all = all_eights a.words.now in (
      all a.q.now (l.i + 8) _ (eight a.q.now l.i l.a _ _ l.invariant.2 fits c.times.ensures c.eight_at-in-loop-i.ensures) (omega arith),
      all a.r.now (l.i + 8) _ (eight a.r.now l.i l.b _ _ l.invariant.3 (omega (arith, fits, c.requires.3)) c.times-in-loop-i.ensures
          c.eight_at-in-loop-i-2.ensures) (omega (arith, c.requires.3)),
    )
