-- `write` meets its contract.
use mathlib.Core.Path.{sym, ap, ◌∙◌}
use native.Mathlib.Omega.{arith}
use lib.ListN.{length}
use Rattle.std.proofs.lemmas.Result.{err_from_is_err_and}
use Rattle.refusals.specs.Refusals.{Done}
use Rattle.acceptance.specs.Opened.{Opened}
use Rattle.files.specs.Files.{as_part}
use Rattle.keys.proofs.Laws.{opened}
use Rattle.sheets.specs.Layout.{Layout, sheet_length, page_count}
use Rattle.sheets.proofs.Versions.{newest-is}
use Rattle.sheet_writing.proofs.Answers.{Measured, measured, write_refused, write_length, write_short, write_misused, write_done}
use Rattle.sheet_writing.proofs.write.Goals as goal
use Rattle.sheet_writing.proofs.write.Goals.{In_ok-needed, In_ok-p}

key-opened : (c : In_ok-p) → Opened c.args.key c.in_ok-p.p
key-opened c = opened c.test.result c.args.key c.test.ensures c.in_ok-p.p c.in_ok-p.was

known : (c : In_ok-needed) → Measured (length c.args.file.now) c.args.size c.in_ok-needed.needed
known c = measured (length c.args.file.now) c.args.size c.in_ok-needed.needed c.in_ok-needed.ensures

pub returns-in_err-p : goal.returns-in_err-p
returns-in_err-p c =
    let a = c.args in
    let p = err_from_is_err_and c.from_residual.result c.from_residual.ensures.1 in
    rw (p.1, p.2) (sym (write_refused a.key a.size (as_part a.file.now a.used) a.buffer.now c.test.result c.in_err-p.field-0.0 c.test.ensures c.in_err-p.was))

pub returns-in_err-needed : goal.returns-in_err-needed
returns-in_err-needed c =
    let a = c.args in
    let p = err_from_is_err_and c.from_residual-in_err-needed.result c.from_residual-in_err-needed.ensures.1 in
    rw (p.1, p.2) (sym (write_length a.key a.size (as_part a.file.now a.used) a.buffer.now (key-opened (goal.at.returns-in_err-needed c).In_ok-p)
    c.in_err-needed.field-0.0 c.in_err-needed.ensures))

pub returns-then-buffer-needed : goal.returns-then-buffer-needed
returns-then-buffer-needed c =
    let a = c.args in
    sym (write_short a.key a.size (as_part a.file.now a.used) a.buffer.now (key-opened (goal.at.returns-then-buffer-needed c).In_ok-p) c.in_ok-needed.needed
    (known (goal.at.returns-then-buffer-needed c).In_ok-needed) (omega (arith, c.if-buffer-needed.true)))

pub returns-then-is_misused : goal.returns-then-is_misused
returns-then-is_misused c =
    let a = c.args in
    sym (write_misused a.key a.size (as_part a.file.now a.used) a.buffer.now (key-opened (goal.at.returns-then-is_misused c).In_ok-p) c.in_ok-needed.needed
    (known (goal.at.returns-then-is_misused c).In_ok-needed) (omega (arith, c.if-buffer-needed.false))
    (sym c.is_misused.ensures ∙ c.if-is_misused.true))

pub put_sheet-requires : goal.put_sheet-requires
put_sheet-requires c =
    let a = c.args in
    let m = known (goal.at.put_sheet-requires c).In_ok-needed in
    let own = ap (λ (v : Layout). sheet_length v (page_count a.size (length a.file.now))) newest-is in (
      key-opened (goal.at.put_sheet-requires c).In_ok-p,
      m.size.0,
      m.size.1,
      omega (arith, m.fits),
      omega (arith, m.total, own, c.if-buffer-needed.false),
      sym c.is_misused.ensures ∙ c.if-is_misused.false,
    )

pub returns : goal.returns
returns c =
    let a = c.args in
    ap Done c.put_sheet.ensures
    ∙ sym (write_done a.key a.size (as_part a.file.now a.used) a.buffer.now (key-opened (goal.at.returns c).In_ok-p) c.in_ok-needed.needed
    (known (goal.at.returns c).In_ok-needed) (omega (arith, c.if-buffer-needed.false)) (sym c.is_misused.ensures ∙ c.if-is_misused.false))
