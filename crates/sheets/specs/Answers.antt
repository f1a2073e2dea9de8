-- For callers in Rattle: the answers of the calls in code, as those of the definitions. A reader of the functions for C need not read this page.
use Rattle.std.specs.Prelude.{List, [], ◌∷◌, ℕ, Result}
use Rattle.refusals.specs.declared.Refusal.{Refusal}
use Rattle.refusals.specs.Refusals.{Answer, mapped, first_of}
use Rattle.refusals.specs.Answers.{told}
use Rattle.files.specs.Files.{Part, part_bits}
use Rattle.sheets.specs.Layout.{Contents, contents_in}
use Rattle.sheets.specs.Sheets.{Outcome, Same, Page, OtherLength, compared, check_tests}
use Rattle.sheets.specs.Outputs.{numbers_of, range_in}
use Rattle.sheets.specs.declared.Sheet.{Sheet}
use Rattle.sheets.specs.declared.Comparison.{Comparison}
use Rattle.sheets.specs.declared.Comparison.TheVariants as cases
use Rattle.sheets.specs.declared.PageBytes.{PageBytes}

-- the call that answers the changed range: a check, and the range of the page that it names
unfoldable pub changed_range : List ℕ → Part → Answer Unit (List ℕ)
changed_range sheet file = let x = contents_in sheet in first_of (check_tests sheet file) tt (range_in x (compared x (part_bits file)))

-- ---- the answers in code

abbrev pub sheet_read : Answer Unit Contents → Answer Unit Sheet
sheet_read a = mapped numbers_of a

-- a comparison that names a page by its number, as the outcome of a check
abbrev pub outcome_of : Comparison ℕ → Outcome
outcome_of cases.Same = Same
outcome_of (cases.Page i) = Page i
outcome_of cases.OtherLength = OtherLength

-- one that gives the page's bytes, by the numbers of `range_in`
abbrev pub range_of : Comparison PageBytes → List ℕ
range_of cases.Same = 0 ∷ 0 ∷ 0 ∷ []
range_of (cases.Page bytes) = 1 ∷ bytes.start ∷ bytes.end ∷ []
range_of cases.OtherLength = 2 ∷ 0 ∷ 0 ∷ []

abbrev pub check_answer : Result (Comparison ℕ) Refusal → Answer Unit Outcome
check_answer r = mapped outcome_of (told r)

abbrev pub change_answer : Result (Comparison PageBytes) Refusal → Answer Unit (List ℕ)
change_answer r = mapped range_of (told r)
