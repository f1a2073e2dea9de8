-- `first_changed_range` meets its contract.
use mathlib.Core.Path.{◌≡◌, sym, ap, ◌∙◌}
use Prim.Native.Nat.{ℕ}
use native.Mathlib.Omega.{arith}
use Rattle.std.proofs.lemmas.Result.{err_from_is_err_and}
use Rattle.refusals.specs.Refusals.{Done}
use Rattle.files.specs.Files.{as_part}
use Rattle.sheets.specs.declared.Comparison.{Comparison}
use Rattle.sheets.specs.declared.Comparison.TheVariants as cases
use Rattle.sheets.specs.Layout.{contents_in}
use Rattle.sheets.specs.Sheets.{check_sheet}
use Rattle.sheets.specs.Answers.{changed_range, outcome_of}
use Rattle.sheets.specs.Inner.{ReadAs, ranged}
use Rattle.sheets.proofs.Known.{read_as}
use Rattle.sheet_checking.proofs.Laws.{check_refused, check_done, size_is, changed_by_check, named-bytes}
use Rattle.sheet_checking.proofs.Pages.{size_right}
use Rattle.sheet_checking.proofs.first_changed_range.Goals as goal
use Rattle.sheet_checking.proofs.first_changed_range.Goals.{In_ok-x, In_ok-found}

known : (c : In_ok-x) → ReadAs c.args.sheet.now c.in_ok-x.x.numbers
known c = read_as c.args.sheet.now c.in_ok-x.x.numbers c.in_ok-x.ensures

-- what the check answers, and the range by it
module _ (c : In_ok-found) (found : Comparison ℕ) (is : c.in_ok-found.found ≡ found) where
  checked : check_sheet c.args.sheet.now (as_part c.args.file.now c.args.used) ≡ Done (outcome_of found)
  checked =
      let r = known (goal.at.In_ok-found c).In_ok-x in
      check_done c.args.sheet.now r (as_part c.args.file.now c.args.used) ∙ sym c.in_ok-found.ensures ∙ ap (λ (f : Comparison ℕ). Done (outcome_of f)) is

  told : ranged (contents_in c.args.sheet.now) (Done (outcome_of found)) ≡ changed_range c.args.sheet.now (as_part c.args.file.now c.args.used)
  told =
      let sheet = c.args.sheet.now in
      sym (changed_by_check sheet (as_part c.args.file.now c.args.used) ∙ ap (ranged (contents_in sheet)) checked)

pub returns-in_err-x : goal.returns-in_err-x
returns-in_err-x c =
    let sheet = c.args.sheet.now in
    let file = as_part c.args.file.now c.args.used in
    let p = err_from_is_err_and c.from_residual.result c.from_residual.ensures.1 in
    rw (p.1, p.2) (sym (changed_by_check sheet file ∙ ap (ranged (contents_in sheet)) (check_refused sheet c.in_err-x.field-0.0 file c.in_err-x.ensures)))

pub compare-requires : goal.compare-requires
compare-requires c = known c

pub returns-in_err-found : goal.returns-in_err-found
returns-in_err-found c =
    let sheet = c.args.sheet.now in
    let file = as_part c.args.file.now c.args.used in
    let p = err_from_is_err_and c.from_residual-in_err-found.result c.from_residual-in_err-found.ensures.1 in
    rw (p.1, p.2) (sym (changed_by_check sheet file ∙ ap (ranged (contents_in sheet))
    (check_done sheet (known (goal.at.returns-in_err-found c).In_ok-x) file ∙ sym c.in_err-found.ensures)))

pub returns-in-Same : goal.returns-in-Same
returns-in-Same c = told (goal.at.returns-in-Same c).In_ok-found _ c.in-Same.is

pub returns-in_default-found : goal.returns-in_default-found
returns-in_default-found c = told (goal.at.returns-in_default-found c).In_ok-found cases.OtherLength (grind arith)

pub bytes_of_page-requires : goal.bytes_of_page-requires
bytes_of_page-requires c = (size_right c.args.sheet.now c.in_ok-x.x (known (goal.at.bytes_of_page-requires c).In_ok-x)).1

pub returns : goal.returns
returns c =
    let sheet = c.args.sheet.now in
    let at = goal.at.returns c in
    let named = named-bytes sheet (as_part c.args.file.now c.args.used) c.in-Page.i (checked at.In_ok-found _ c.in-Page.is) in
    rw (c.bytes_of_page.ensures, size_is sheet (known at.In_ok-x), ← named) (told at.In_ok-found _ c.in-Page.is)
