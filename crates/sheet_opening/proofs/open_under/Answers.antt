-- `open_under` meets its contract.
use mathlib.Core.Path.{◌≡◌, sym, ap, ◌∙◌}
use mathlib.Core.Bool.{false, ◌||◌, not}
use lib.Dec.{ltb}
use Rattle.refusals.proofs.Laws.{holds, fails}
use Rattle.big_endian.specs.Numbers.{number_at}
use Rattle.sheets.proofs.Sound.{size_bounds}
use Rattle.sheet_opening.specs.Opening.{Sized}
use Rattle.sheet_opening.proofs.Answers.{size_refused, body_refused, total_refused, sized, body_read}
use Rattle.sheet_opening.proofs.open_under.Goals as goal
use Rattle.sheet_opening.proofs.open_under.Goals.{After-eight_at-file, Else-not-size_right}

-- the page size is right
right : (c : Else-not-size_right) → (ltb c.args.head.size 16 || ltb 4096 c.args.head.size) ≡ false
right c = fails _ _ c.size_right.ensures (ap not c.if-not-size_right.false)

-- the sheet has its total
right-at_after_eight_at_file : (c : After-eight_at-file) → (ltb c.args.head.size 16 || ltb 4096 c.args.head.size) ≡ false
right-at_after_eight_at_file c = fails _ _ c.size_right.ensures (ap not c.if-not-size_right.false)

whole : (c : After-eight_at-file) → Sized c.args.sheet.now c.args.head c.pages_for-count.result c.eight_at-file.result
unfolding number_at
whole c =
    sized c.args.sheet.now c.args.head c.requires.0 (right-at_after_eight_at_file c) _ c.pages_for-count.ensures _
    (c.if-sheet-sheet_length.false ∙ c.sheet_length.ensures) c.eight_at-file.ensures

pub returns-then-not-size_right : goal.returns-then-not-size_right
returns-then-not-size_right c = size_refused c.args.sheet.now c.args.head c.requires.0 (holds _ _ c.size_right.ensures (ap not c.if-not-size_right.true))

pub returns-then-sheet-sheet_length : goal.returns-then-sheet-sheet_length
returns-then-sheet-sheet_length c =
    total_refused c.args.sheet.now c.args.head c.requires.0 (right (goal.at.returns-then-sheet-sheet_length c).Else-not-size_right) _ c.pages_for-count.ensures
    (λ d. c.if-sheet-sheet_length.true (d ∙ sym c.sheet_length.ensures))

pub body_right-requires : goal.body_right-requires
body_right-requires c =
    let z = size_bounds c.args.head.size (right (goal.at.body_right-requires c).Else-not-size_right) in
    (c.requires.0, z.0, z.1, c.requires.1, whole c)

pub returns-then-not-body_right : goal.returns-then-not-body_right
returns-then-not-body_right c =
    body_refused c.args.sheet.now c.args.head c.requires.0 (right (goal.at.returns-then-not-body_right c).Else-not-size_right)
    (holds _ _ c.body_right.ensures (ap not c.if-not-body_right.true))

pub returns : goal.returns
unfolding number_at
returns c =
    body_read c.args.sheet.now c.args.head c.requires.0 (right (goal.at.returns c).Else-not-size_right) _ c.pages_for-count.ensures _
    (c.if-sheet-sheet_length.false ∙ c.sheet_length.ensures) c.eight_at-file.ensures (fails _ _ c.body_right.ensures (ap not c.if-not-body_right.false))
