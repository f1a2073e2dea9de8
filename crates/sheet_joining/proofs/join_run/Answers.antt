-- `join_run` meets its contract.
use mathlib.Core.Path.{◌∙◌}
use Prim.Native.Nat.{◌*◌, ◌/◌, ◌^◌, ◌<◌}
use native.Mathlib.Omega.{arith}
use Rattle.gf2.proofs.Steps.{residue-below}
use Rattle.sheet_joining.proofs.Joining.{low-lt, bits_none, bits-all, few-joined, times_low, all-joined}
use Rattle.sheet_joining.proofs.join_run.Goals as goal
use Rattle.sheet_joining.proofs.join_run.Goals.{After-power_of_t-t}

power-lt : (c : After-power_of_t-t) → c.power_of_t-t.result < 2 ^ c.args.p.degree
power-lt c = residue-below c.args.p c.requires.0 _ _ c.power_of_t-t.ensures

pub returns-then-n-lt64 : goal.returns-then-n-lt64
returns-then-n-lt64 c =
    let a = c.args in
    let x = c.join_lane.ensures in
    record {
      mark = λ r. x.0 ∙ few-joined a.p c.requires.0 a.size 0 a.n a.fields.now c.fill.new.words c.fill.ensures r;
      bits = λ k. x.1 k ∙ bits_none k _;
    }

pub times_plus-ab-requires : goal.times_plus-ab-requires
times_plus-ab-requires c =
    (c.requires.0, low-lt c.args.p.degree _ _ c.below.ensures, power-lt (goal.at.times_plus-ab-requires c).After-power_of_t-t)

pub times_plus-abc-requires : goal.times_plus-abc-requires
times_plus-abc-requires c =
    let s = c in
    (s.requires.0, low-lt s.args.p.degree _ _ c.below-2.ensures, power-lt (goal.at.times_plus-abc-requires c).After-power_of_t-t)

pub times_plus-abcd-requires : goal.times_plus-abcd-requires
times_plus-abcd-requires c =
    let s = c in
    (s.requires.0, low-lt s.args.p.degree _ _ c.below-3.ensures, power-lt (goal.at.times_plus-abcd-requires c).After-power_of_t-t)

pub returns : goal.returns
returns c =
    let x = c.join_lanes-x in
    let t = c.fill in
    let s = c in
    let a = s.args in
    let q = a.n / 4 in
    record {
      mark = λ r. all-joined a.p s.requires.0 a.size 0 a.n q (32 * q) (omega arith) (omega arith) a.fields.now t.new.words t.ensures r
          x.result x.ensures
          c.power_of_t-t.result c.power_of_t-t.ensures c.times_plus-ab.result c.times_plus-abc.result c.times_plus-abcd.result
          c.join_lane-2.result.mark
          (times_low a.p _ _ _ _ _ c.below.ensures c.times_plus-ab.ensures)
          (times_low a.p _ _ _ _ _ c.below-2.ensures c.times_plus-abc.ensures)
          (times_low a.p _ _ _ _ _ c.below-3.ensures c.times_plus-abcd.ensures)
          c.join_lane-2.ensures.0;
      bits = bits-all t.new.words a.fields.now 0 a.n q (32 * q) x.result c.join_lane-2.result.bits (omega arith) (omega arith) x.ensures
          c.join_lane-2.ensures.1;
    }
