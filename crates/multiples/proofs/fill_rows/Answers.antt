-- After j turns there are j rows, and y is the start of the next one.
use mathlib.Core.Path.{refl, ◌∙◌}
use Prim.Native.Nat.{◌*◌, ◌^◌, ◌≤◌}
use native.Mathlib.Nat.{le_refl}
use native.Mathlib.Omega.{arith}
use lib.ListN.{length}
use Rattle.gf2.proofs.Steps.{residue-below}
use Rattle.multiples.proofs.Following.{Row, row-le, start_first, rows_more, middle-lt, start-next}
use Rattle.multiples.proofs.fill_rows.Goals as goal
use Rattle.multiples.proofs.fill_rows.Goals.{After-fill_row, In-loop-j}

-- ---- what is known at the places

-- row j is among the words
within : (c : In-loop-j) → c.args.rows * 2 ^ c.args.width ≤ length c.loop-j.words
within c = rw c.loop-j.auto.words c.requires.4

-- row j is made
row : (c : After-fill_row) → let a = c.args in let l = c.loop-j in
    Row a.p a.width a.x c.row_size-size.result l.j l.y c.fill_row.new.words
row c =
    record {
      proper = c.requires.0;
      some = c.requires.2;
      whole = c.row_size-size.ensures;
      start = c.loop-j.invariant.0;
      row = c.fill_row.ensures.0;
    }

-- ---- the needs

pub loop-j-init : goal.loop-j-init
loop-j-init c =
    (start_first c.args.p c.requires.0 c.args.width c.args.x c.requires.1, λ j l. absurd (omega arith), λ i l. refl)

pub fill_row-requires : goal.fill_row-requires
fill_row-requires c =
    let a = c.args in
    let l = c.loop-j in
    let n = c.row_size-size in (
      c.requires.0,
      residue-below a.p c.requires.0 l.y _ l.invariant.0,
      row-le a.width l.j a.rows n.result (length l.words) n.ensures c.loop-j-test.true (within (goal.at.fill_row-requires c).In-loop-j),
    )

pub step-y-requires : goal.step-y-requires
step-y-requires c = (c.requires.0, middle-lt (row (goal.at.step-y-requires c).After-fill_row), omega arith)

pub loop-j-preserved : goal.loop-j-preserved
loop-j-preserved c =
    let l = c.loop-j in
    let r = c.fill_row in
    let t = row (goal.at.loop-j-preserved c).After-fill_row in
    let s = c.args in
    let n = c.row_size-size in
    let room = row-le s.width l.j s.rows n.result (s.rows * 2 ^ s.width) n.ensures
    c.loop-j-test.true (le_refl (s.rows * 2 ^ s.width)) in (
      start-next t _ c.step-y.ensures,
      rows_more t l.words l.invariant.1 r.ensures.1,
      λ i h. r.ensures.2 i (omega (arith, room, h)) ∙ l.invariant.2 i h,
    )
