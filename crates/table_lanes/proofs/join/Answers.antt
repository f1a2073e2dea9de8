-- `join` meets its contract: the rows have the multiples of t, and three products join the lanes.
use mathlib.Core.Path.{◌≡◌}
use lib.ListN.{get_or}
use Rattle.gf2.specs.Polynomials.{◌⊕◌}
use Rattle.table_lanes.specs.Lanes.{TwoRows}
use Rattle.table_lanes.proofs.Powers.{two-rows, joined}
use Rattle.table_lanes.proofs.join.Goals as goal
use Rattle.table_lanes.proofs.join.Goals.{After-fill_rows}

-- word 1 of the rows is t
made : (c : After-fill_rows) → let a = c.args in let rows = c.fill_rows.new.words in (get_or rows 1 0 ≡ a.t) × TwoRows a.table.p rows
made c =
    let r = c.fill_rows in
    two-rows c.args.table.p c.args.table.holds.0 c.args.t c.requires r.new.words r.auto.words r.ensures.0

-- ---- the needs

pub times-requires : goal.times-requires
times-requires c = (made (goal.at.times-requires c).After-fill_rows).1

pub times-requires-2 : goal.times-requires-2
times-requires-2 c = (made (goal.at.times-requires-2 c).After-fill_rows).1

pub times-requires-3 : goal.times-requires-3
times-requires-3 c = (made (goal.at.times-requires-3 c).After-fill_rows).1

pub returns : goal.returns
unfolding ◌⊕◌
returns c =
    let a = c.args in
    joined a.table.p a.t (get_or c.fill_rows.new.words 1 0) (get_or a.x 0 0) (get_or a.x 1 0) (get_or a.x 2 0) (get_or a.x 3 0) c.times.result c.times-2.result
    c.times-3.result (made (goal.at.returns c).After-fill_rows).0 c.times.ensures c.times-2.ensures c.times-3.ensures
