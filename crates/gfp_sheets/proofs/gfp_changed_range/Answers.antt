-- The range is told in three places; on refusal nothing is.
use mathlib.Core.Path.{◌≡◌, ap, ◌∙◌}
use mathlib.Core.List.{List}
use Prim.Native.Nat.{ℕ}
use Rattle.refusals.specs.Refusals.{Answer, number_of, value_or, mapped}
use Rattle.refusals.proofs.Replies.{mapped-number}
use Rattle.files.specs.Files.{Part, as_part}
use Rattle.sheets.specs.Layout.{contents_in}
use Rattle.sheets.specs.Sheets.{check_sheet}
use Rattle.sheets.specs.Outputs.{range_in}
use Rattle.sheets.specs.Answers.{changed_range}
use Rattle.sheet_checking.proofs.Laws.{changed_by_check}
use Rattle.gfp_sheets.proofs.gfp_changed_range.Goals as goal

-- what is told of an answer
told : (sheet : List ℕ) (file : Part) (before : List ℕ) (a : Answer Unit (List ℕ)) → a ≡ changed_range sheet file
    → (number_of a ≡ number_of (check_sheet sheet file))
    × (value_or before a ≡ value_or before (mapped (range_in (contents_in sheet)) (check_sheet sheet file)))
told sheet file before a e =
    let h = e ∙ changed_by_check sheet file in
    (ap number_of h ∙ mapped-number (range_in (contents_in sheet)) (check_sheet sheet file), ap (value_or before) h)

pub returns-in-Ok-Same : goal.returns-in-Ok-Same
returns-in-Ok-Same c =
    let a = c.args in
    told a.sheet.now (as_part a.file.now a.used) _ _ (rw c.in-Ok-Same.field-0-is at c.in-Ok-Same.ensures)

pub returns-in-Ok-Page : goal.returns-in-Ok-Page
returns-in-Ok-Page c =
    let a = c.args in
    told a.sheet.now (as_part a.file.now a.used) _ _ (rw c.in-Ok-Page.field-0-is at c.in-Ok-Page.ensures)

pub returns-in-Ok-OtherLength : goal.returns-in-Ok-OtherLength
returns-in-Ok-OtherLength c =
    let a = c.args in
    told a.sheet.now (as_part a.file.now a.used) _ _ (rw c.in-Ok-OtherLength.field-0-is at c.in-Ok-OtherLength.ensures)

pub returns-in-Err : goal.returns-in-Err
returns-in-Err c =
    let a = c.args in
    let t = told a.sheet.now (as_part a.file.now a.used) _ _ c.in-Err.ensures in
    (c.number.ensures ∙ t.0, t.1)
