-- `read_pages` meets its contract.
use mathlib.Core.Path.{◌≡◌, sym, ap, ◌∙◌}
use mathlib.Core.List.{List}
use Prim.Native.Nat.{ℕ, ◌+◌, ◌*◌, ◌≤◌, min}
use native.Mathlib.Omega.{arith}
use lib.ListN.{length, drop, length-drop}
use Rattle.std.proofs.lemmas.Result.{err_from_is_err_and}
use Rattle.lists.specs.Lists.{overlay}
use Rattle.refusals.specs.Refusals.{Done}
use Rattle.big_endian.specs.Numbers.{numbers_at}
use Rattle.sheets.specs.Layout.{version_in, layout_of, page_place, pages_in}
use Rattle.sheets.specs.Inner.{ReadAs}
use Rattle.sheets.proofs.Versions.{length_from}
use Rattle.sheets.proofs.Known.{pages-in, read_as, total, version-read, pages-counted, pages-refused, pages-done}
use Rattle.sheet_reading.proofs.Lent.{lent_are}
use Rattle.sheet_reading.proofs.read_pages.Goals as goal
use Rattle.sheet_reading.proofs.read_pages.Goals.{After-min-n}

-- what is known where the sheet was read
known : (c : After-min-n) → ReadAs c.args.sheet.now c.in_ok-x.x.numbers
known c = read_as c.args.sheet.now c.in_ok-x.x.numbers c.in_ok-x.ensures

-- as many fields as are copied stand in the sheet, from their place on
fits : (c : After-min-n) → c.in_ok-x.x.place + 8 * c.min-n.result ≤ length c.args.sheet.now
fits c =
    let sheet = c.args.sheet.now in
    let v = version_in sheet in
    omega (
      arith,
      c.min-n.ensures,
      total sheet (known c),
      pages-counted sheet (known c),
      c.in_ok-x.x.placed,
      ap (λ (n : ℕ). page_place (layout_of n) 0) (version-read sheet (known c)),
      length_from v (pages_in (layout_of v) sheet),
    )

pub page_fields-requires : goal.page_fields-requires
page_fields-requires c = omega (arith, fits (goal.at.page_fields-requires c).After-min-n)

pub copy_fields-requires : goal.copy_fields-requires
copy_fields-requires c =
    let long = ap length c.page_fields.ensures ∙ length-drop c.in_ok-x.x.place c.args.sheet.now in
    (omega (arith, c.min-n.ensures), omega (arith, long, fits (goal.at.copy_fields-requires c).After-min-n))

pub returns-in_err-x : goal.returns-in_err-x
returns-in_err-x c =
    let p = err_from_is_err_and c.from_residual.result c.from_residual.ensures.1 in
    rw (p.1, p.2) (sym (pages-refused c.args.sheet.now c.args.lent.now c.in_err-x.field-0.0 c.in_err-x.ensures))

pub returns : goal.returns
returns c =
    let lent = c.args.lent.now in
    let sheet = c.args.sheet.now in
    let x = c.in_ok-x.x in
    let r = known (goal.at.returns c).After-min-n in
    let m = pages_in (layout_of (version_in sheet)) sheet in
    let count : c.min-n.result ≡ min m (length lent) = omega (arith, c.min-n.ensures, pages-counted sheet r) in
    let part = c.page_fields.ensures ∙ ap (λ (n : ℕ). drop n sheet) (x.placed ∙ ap (λ (v : ℕ). page_place (layout_of v) 0) (version-read sheet r)) in
    ap Done
    (c.copy_fields.ensures
    ∙ lent_are c.page_fields.result.now lent m c.min-n.result count
    ∙ ap (λ (ps : List ℕ). overlay ps lent) (ap (numbers_at 0 8 m) part ∙ sym (pages-in sheet)))
    ∙ sym (pages-done sheet lent r)
