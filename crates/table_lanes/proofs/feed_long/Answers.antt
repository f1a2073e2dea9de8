-- `feed_long` meets its contract: the lanes are joined one after the other, and the rest is fed behind them.
use mathlib.Core.Path.{◌≡◌, ap, ◌∙◌}
use mathlib.Core.List.{List}
use Prim.Native.Nat.{ℕ, ◌*◌, ◌/◌, ◌^◌, ◌<◌}
use native.Mathlib.Omega.{arith}
use lib.ListN.{length, take}
use Rattle.gf2.specs.Polynomials.{rem}
use Rattle.gf2.specs.Moduli.{polynomial}
use Rattle.gf2.proofs.Monics.{monic-pos}
use Rattle.gf2.proofs.Steps.{residue-below}
use Rattle.files.specs.Files.{bits, value_from}
use Rattle.table_lanes.proofs.Joining.{four-joined, lane-rest}
use Rattle.table_lanes.proofs.feed_long.Goals as goal
use Rattle.table_lanes.proofs.feed_long.Goals.{After-join-abcd, Start}

-- ---- what is known at the places

-- the length of a lane
abbrev lane : List ℕ → ℕ
lane part = 4 * (length part / 16)

pos : (s : Start) → 0 < polynomial s.args.table.p
pos s = monic-pos s.args.table.p.degree s.args.table.p.low s.args.table.holds.0.2

-- the four lanes are joined one after the other
four-lanes : (c : After-join-abcd) → let a = c.args in
    c.join-abcd.result ≡ rem (polynomial a.table.p) (value_from a.f (bits (take (4 * lane a.part.now) a.part.now)))
four-lanes c =
    let a = c.args in
    let n = lane a.part.now in
    let e : 32 * (length a.part.now / 16) ≡ 8 * n = omega arith in
    four-joined (monic-pos a.table.p.degree a.table.p.low c.args.table.holds.0.2) a.f a.part.now n c.power-t.result c.join-abcd.result c.feed_lanes-x.result
    (omega arith)
    c.feed_lanes-x.ensures (c.power-t.ensures ∙ ap (λ (m : ℕ). rem (polynomial a.table.p) (2 ^ m)) e) c.join-abcd.ensures

-- ---- the needs

pub join-abcd-requires : goal.join-abcd-requires
join-abcd-requires c =
    residue-below c.args.table.p c.args.table.holds.0 c.power-t.result _ c.power-t.ensures

pub feed_lane-requires : goal.feed_lane-requires
feed_lane-requires c =
    residue-below c.args.table.p c.args.table.holds.0 c.join-abcd.result _ (four-lanes (goal.at.feed_lane-requires c).After-join-abcd)

pub returns : goal.returns
returns c =
    let a = c.args in
    lane-rest (pos (goal.at.returns c).Start) a.f a.part.now (4 * lane a.part.now) c.join-abcd.result c.feed_lane.result
    (four-lanes (goal.at.returns c).After-join-abcd)
    c.feed_lane.ensures
