-- `compare` meets its contract.
use mathlib.Core.Path.{◌≡◌, sym, ◌∙◌}
use mathlib.Core.Bool.{false}
use Prim.Native.Nat.{◌≤◌}
use native.Mathlib.Omega.{arith}
use lib.ListN.{length}
use Rattle.acceptance.proofs.Opened.{opened-proper, opened-eight}
use Rattle.files.specs.Files.{as_part, part_length, misused}
use Rattle.sheets.proofs.Parts.{part-fits, part-long, counted-part}
use Rattle.sheet_checking.proofs.Laws.{compare_long, compare_misused, compare_other, length-is}
use Rattle.sheet_checking.proofs.Pages.{size_right, total, count-small, room, passed-few, changed-told, same-told}
use Rattle.sheet_checking.proofs.compare.Goals as goal
use Rattle.sheet_checking.proofs.compare.Goals.{After-part_length, Else-file-gt-LONGEST_BYTES, Else-is_misused, Else-part_length-y}

fits : (c : Else-file-gt-LONGEST_BYTES) → length c.args.file.now ≤ 4294967295
fits c = omega (arith, c.if-file-gt-LONGEST_BYTES.false)

well : (c : Else-is_misused) → misused (as_part c.args.file.now c.args.used) ≡ false
well c = sym c.is_misused.ensures ∙ c.if-is_misused.false

-- the file's length in bits
measured : (c : After-part_length) → c.part_length.result ≡ part_length (as_part c.args.file.now c.args.used)
measured c = c.part_length.ensures ∙ counted-part (as_part c.args.file.now c.args.used) (omega (arith, c.if-file-gt-LONGEST_BYTES.false))

as_long : (c : Else-part_length-y) → part_length (as_part c.args.file.now c.args.used) ≡ c.args.x.numbers.length
as_long c =
    sym (c.part_length.ensures ∙ counted-part (as_part c.args.file.now c.args.used) (omega (arith, c.if-file-gt-LONGEST_BYTES.false)))
    ∙ c.if-part_length-y.false

pub returns-then-file-gt-LONGEST_BYTES : goal.returns-then-file-gt-LONGEST_BYTES
returns-then-file-gt-LONGEST_BYTES c =
    let part = as_part c.args.file.now c.args.used in
    sym (compare_long c.args.sheet.now part (part-long part (omega (arith, c.if-file-gt-LONGEST_BYTES.true))))

pub returns-then-is_misused : goal.returns-then-is_misused
returns-then-is_misused c =
    let part = as_part c.args.file.now c.args.used in
    sym (compare_misused c.args.sheet.now part (part-fits part (fits (goal.at.returns-then-is_misused c).Else-file-gt-LONGEST_BYTES))
    (sym c.is_misused.ensures ∙ c.if-is_misused.true))

pub returns-then-part_length-y : goal.returns-then-part_length-y
returns-then-part_length-y c =
    let part = as_part c.args.file.now c.args.used in
    let at = goal.at.returns-then-part_length-y c in
    sym (compare_other c.args.sheet.now part (part-fits part (fits at.Else-file-gt-LONGEST_BYTES)) (well at.Else-is_misused)
    (λ h. c.if-part_length-y.true (measured at.After-part_length ∙ h ∙ sym (length-is c.args.sheet.now c.requires))))

pub page_fields-pages-requires : goal.page_fields-pages-requires
page_fields-pages-requires c =
    let a = c.args in
    let few = fits (goal.at.page_fields-pages-requires c).Else-file-gt-LONGEST_BYTES in
    omega (arith, total a.sheet.now a.x c.requires (as_part a.file.now a.used) few (as_long c))

pub over_pages-same-requires : goal.over_pages-same-requires
over_pages-same-requires c =
    let a = c.args in
    let at = goal.at.over_pages-same-requires c in
    let z = size_right a.sheet.now a.x c.requires in
    let few = fits at.Else-file-gt-LONGEST_BYTES in (
      opened-proper a.x.opened,
      opened-eight a.x.opened,
      z.0,
      z.1,
      omega (arith, few),
      λ lent. absurd (omega (arith, lent)),
      room a.sheet.now a.x c.requires (as_part a.file.now a.used) few (as_long at.Else-part_length-y) c.page_fields-pages.result
          c.page_fields-pages.ensures,
      well at.Else-is_misused,
    )

pub overflow_cast-result : goal.overflow_cast-result
overflow_cast-result c =
    let a = c.args in
    let at = goal.at.overflow_cast-result c in
    let part = as_part a.file.now a.used in
    let few = fits at.Else-file-gt-LONGEST_BYTES in
    let long = as_long at.Else-part_length-y in
    omega (
      arith,
      passed-few a.sheet.now a.x c.requires part few long c.page_fields-pages.result c.page_fields-pages.ensures _ _ c.over_pages-same.result
          c.over_pages-same.ensures,
      count-small a.sheet.now a.x c.requires part few long,
    )

pub returns-then-same-y : goal.returns-then-same-y
returns-then-same-y c =
    let a = c.args in
    let at = goal.at.returns-then-same-y c in
    sym (changed-told a.sheet.now a.x c.requires (as_part a.file.now a.used) (fits at.Else-file-gt-LONGEST_BYTES) (as_long at.Else-part_length-y)
    c.page_fields-pages.result c.page_fields-pages.ensures _ _ c.over_pages-same.result c.over_pages-same.ensures (well at.Else-is_misused)
    (omega (arith, c.if-same-y.true)))

pub returns : goal.returns
returns c =
    let a = c.args in
    let at = goal.at.returns c in
    sym (same-told a.sheet.now a.x c.requires (as_part a.file.now a.used) (fits at.Else-file-gt-LONGEST_BYTES) (as_long at.Else-part_length-y)
    c.page_fields-pages.result c.page_fields-pages.ensures _ _ c.over_pages-same.result c.over_pages-same.ensures (well at.Else-is_misused)
    (omega (arith, c.if-same-y.false)))
