-- `join_lane` meets its contract: what is joined behind x, and behind the bits, are the fields from the i-th on.
use mathlib.Core.Path.{◌≡◌, sym, ◌∙◌}
use Prim.Native.Nat.{◌+◌, ◌-◌, ◌*◌}
use native.Mathlib.Omega.{arith}
use Rattle.big_endian.specs.Numbers.{number_at, numbers_at}
use Rattle.big_endian.proofs.Numbers.{numbers-done}
use Rattle.sheet_joining.proofs.Joining.{looping-next, looping-done, bits-next, bits-done}
use Rattle.sheet_joining.proofs.join_lane.Goals as goal

pub loop-i-preserved : goal.loop-i-preserved
unfolding number_at
loop-i-preserved c =
    let g = c.eight_at-g in
    let l = c.loop-i in
    let a = c.args in
    let bytes = a.fields.now in
    let place = a.from + 8 * l.i in
    let left = a.n - l.i in
    let e : a.from + 8 * (l.i + 1) ≡ place + 8 = omega arith in
    let d : a.n - (l.i + 1) ≡ left - 1 = omega arith in
    rw (e, d) (
      sym (looping-next a.shift.now l.x place left g.result c.join-x.result bytes (omega arith) g.ensures c.join-x.ensures)
          ∙ l.invariant.0,
      λ k. bits-next k l.bits place left g.result bytes (omega arith) g.ensures ∙ l.invariant.1 k,
    )

pub returns : goal.returns
returns c =
    let l = c.loop-i in
    let a = c.args in
    let bytes = a.fields.now in
    let place = a.from + 8 * l.i in
    let left = a.n - l.i in (
      sym (looping-done a.shift.now l.x place left bytes (omega arith)) ∙ l.invariant.0,
      λ k. bits-done k l.bits (numbers_at place 8 left bytes) (numbers-done place 8 left bytes (omega arith)) ∙ l.invariant.1 k,
    )
