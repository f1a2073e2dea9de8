-- `check` meets its contract.
use mathlib.Core.Path.{sym, ◌∙◌}
use Rattle.std.proofs.lemmas.Result.{err_from_is_err_and}
use Rattle.files.specs.Files.{as_part}
use Rattle.sheets.proofs.Known.{read_as}
use Rattle.sheet_checking.proofs.Laws.{check_refused, check_done}
use Rattle.sheet_checking.proofs.check.Goals as goal

pub returns-in_err-x : goal.returns-in_err-x
returns-in_err-x c =
    let p = err_from_is_err_and c.from_residual.result c.from_residual.ensures.1 in
    rw (p.1, p.2) (sym (check_refused c.args.sheet.now c.in_err-x.field-0.0 (as_part c.args.file.now c.args.used) c.in_err-x.ensures))

pub compare-requires : goal.compare-requires
compare-requires c = read_as c.args.sheet.now c.in_ok-x.x.numbers c.in_ok-x.ensures

pub returns : goal.returns
returns c =
    let sheet = c.args.sheet.now in
    c.compare.ensures ∙ sym (check_done sheet (read_as sheet c.in_ok-x.x.numbers c.in_ok-x.ensures) (as_part c.args.file.now c.args.used))
