-- `open_sheet` meets its contract.
use mathlib.Core.Path.{◌≡◌, sym, ap, ◌∙◌}
use mathlib.Core.Bool.{true, false}
use Rattle.std.proofs.lemmas.Result.{err_from_is_err_and}
use Rattle.refusals.specs.declared.Refusal.TheVariants.{SheetMalformed}
use Rattle.acceptance.specs.Opened.{Opened}
use Rattle.keys.specs.Testing.{test_key}
use Rattle.keys.proofs.Laws.{opened}
use Rattle.sheets.specs.Layout.{layouts}
use Rattle.sheets.specs.Sheets.{head_wrong}
use Rattle.sheets.specs.Answers.{sheet_read}
use Rattle.sheet_heads.specs.Heads.{HeadOf}
use Rattle.sheet_opening.proofs.Answers.{read_head, read-refused, read_opened}
use Rattle.sheet_opening.proofs.open_sheet.Goals as goal
use Rattle.sheet_opening.proofs.open_sheet.Goals.{In_ok-head, In_ok-p}

-- what is known of the head
known : (c : In_ok-head) → (head_wrong layouts c.args.sheet.now ≡ false) × HeadOf c.args.sheet.now c.in_ok-head.head
known c = rw c.in_ok-head.ensures.ok_part at c.open_head.ensures

key-opened : (c : In_ok-p) → Opened c.in_ok-head.head.key c.in_ok-p.p
key-opened c = opened c.test.result c.in_ok-head.head.key c.test.ensures c.in_ok-p.p c.in_ok-p.was

pub returns-in_err-head : goal.returns-in_err-head
returns-in_err-head c =
    let p = err_from_is_err_and c.from_residual.result c.from_residual.ensures.1 in
    let wrong : head_wrong layouts c.args.sheet.now ≡ true = rw c.in_err-head.ensures.ok_part at c.open_head.ensures in
    let told : c.in_err-head.field-0.0 ≡ SheetMalformed = let e = c.in_err-head.ensures.value in let f = rw c.in_err-head.ensures.ok_part at e in cc in
    rw (p.1, p.2, told) (sym (ap sheet_read (read_head c.args.sheet.now wrong)))

pub returns-in_err-p : goal.returns-in_err-p
returns-in_err-p c =
    let p = err_from_is_err_and c.from_residual-in_err-p.result c.from_residual-in_err-p.ensures.1 in
    let h = known (goal.at.returns-in_err-p c).In_ok-head in
    rw (p.1, p.2) (sym (ap sheet_read
    (read-refused c.args.sheet.now h.0 c.test.result c.in_err-p.field-0.0 (c.test.ensures ∙ ap test_key h.1.key) c.in_err-p.was)))

pub open_under-requires : goal.open_under-requires
open_under-requires c = ((known (goal.at.open_under-requires c).In_ok-head).1, key-opened c)

pub returns : goal.returns
returns c =
    let h = known (goal.at.returns c).In_ok-head in
    c.open_under.ensures
    ∙ sym (ap sheet_read (read_opened c.args.sheet.now h.0 c.in_ok-p.p (rw (← h.1.key) (key-opened (goal.at.returns c).In_ok-p))))
