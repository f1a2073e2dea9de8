-- After j turns the first j rows are right, and y is the start of the next one.
use mathlib.Core.Path.{refl}
use native.Mathlib.Omega.{arith}
use borrow.Author.Tests.{not-false}
use lib.ListN.{length}
use Rattle.gf2.proofs.Steps.{residue-below}
use Rattle.multiples.proofs.Following.{Row, row-le, start_first, rows_more, middle-lt, start-next}
use Rattle.row_tests.proofs.rows_hold.Goals as goal
use Rattle.row_tests.proofs.rows_hold.Goals.{Else-not-row_holds}

-- row j is right
row : (c : Else-not-row_holds) → let a = c.args in let l = c.loop-j in
    Row a.p a.width a.x c.row_size-size.result l.j l.y a.words.now
row c =
    let r = c.row_holds in
    record {
      proper = c.requires.0;
      some = c.requires.2;
      whole = c.row_size-size.ensures;
      start = c.loop-j.invariant.0;
      row = r.ensures.0 (not-false r.result c.if-not-row_holds.false-raw);
    }

-- ---- the needs

pub loop-j-init : goal.loop-j-init
loop-j-init c =
    (start_first c.args.p c.requires.0 c.args.width c.args.x c.requires.1, λ j l. absurd (omega arith))

pub row_holds-requires : goal.row_holds-requires
row_holds-requires c =
    let a = c.args in
    let l = c.loop-j in
    let n = c.row_size-size in (
      c.requires.0,
      residue-below a.p c.requires.0 l.y _ l.invariant.0,
      c.requires.3,
      row-le a.width l.j a.rows n.result (length a.words.now) n.ensures c.loop-j-test.true c.requires.4,
    )

pub step-y-requires : goal.step-y-requires
step-y-requires c = (c.requires.0, middle-lt (row (goal.at.step-y-requires c).Else-not-row_holds), omega arith)

pub loop-j-preserved : goal.loop-j-preserved
loop-j-preserved c =
    let l = c.loop-j in
    let t = row (goal.at.loop-j-preserved c).Else-not-row_holds in
    (start-next t _ c.step-y.ensures, rows_more t c.args.words.now l.invariant.1 (λ i h. refl))
