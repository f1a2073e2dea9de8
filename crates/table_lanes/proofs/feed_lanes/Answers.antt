-- `feed_lanes` meets its contract: each lane stands for its start and its bytes before i.
use mathlib.Core.Path.{refl}
use Prim.Native.Nat.{◌+◌, ◌≤◌}
use native.Mathlib.Omega.{arith}
use Rattle.table_lanes.proofs.Joining.{lanes-first, lanes-more, lanes-fed}
use Rattle.table_lanes.proofs.feed_lanes.Goals as goal
use Rattle.table_lanes.proofs.feed_lanes.Goals.{else-loop-i-test, then-loop-i-test+else-n-i-gt4}

pub loop-i-init : goal.loop-i-init
loop-i-init c =
    let a = c.args in
    (omega arith, refl, lanes-first a.table.p a.f a.part.now a.n c.requires.0)

pub loop-i-preserved : goal.loop-i-preserved
loop-i-preserved c =
    let a = c.args in
    let l = c.loop-i in
    let left : l.i + 4 ≤ a.n = omega (arith, c.loop-i-test.true, l.invariant.1, c.requires.1) in (
      left,
      omega (arith, l.invariant.1),
      lanes-more a.table.p c.args.table.holds.0 a.f a.part.now a.n c.requires.2 l.i l.x _ left l.invariant.2
          c.feed_turn.ensures,
    )

pub returns : goal.returns
returns c =
    let a = c.args in
    let l = c.loop-i in
    let fed = lanes-fed a.table.p c.args.table.holds.0 a.f a.part.now a.n c.requires.2 in
    elim c.loop-i-test.branch [
      | else-loop-i-test w ↦ fed l.i c.loop-i-test.x _ w.loop-i-test.false (rw w.x-is l.invariant.2) c.clear.ensures
      | then-loop-i-test+else-n-i-gt4 w ↦
          let left : l.i + 4 ≤ a.n = omega (arith, w.loop-i-test.true, l.invariant.1, c.requires.1) in
          let more = lanes-more a.table.p c.args.table.holds.0 a.f a.part.now a.n c.requires.2 l.i l.x w.feed_turn.new.x left l.invariant.2
          w.feed_turn.ensures in
          fed (l.i + 4) c.loop-i-test.x _ (omega arith) (rw w.x-is more) c.clear.ensures
    ]
