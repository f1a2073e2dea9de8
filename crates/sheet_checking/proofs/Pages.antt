-- A file as long as a sheet that was read says: its pages, and what a pass over them tells.
use mathlib.Core.Path.{◌≡◌, sym, ap, ◌∙◌}
use mathlib.Core.Bool.{false}
use mathlib.Core.List.{List}
use Prim.Native.Nat.{ℕ, ◌+◌, ◌*◌, ◌^◌, ◌≤◌, ◌<◌}
use native.Mathlib.Omega.{arith}
use lib.ListN.{length, drop, length-drop}
use Rattle.std.specs.Prelude.{Some}
use Rattle.std.specs.Borrow.{Bor}
use Rattle.refusals.specs.Refusals.{Done}
use Rattle.gf2.specs.Moduli.{polynomial}
use Rattle.acceptance.specs.Keys.{polynomial_of}
use Rattle.acceptance.proofs.Opened.{opened-whole}
use Rattle.files.specs.Files.{Part, part_length, part_bits, misused}
use Rattle.big_endian.specs.Numbers.{numbers_at}
use Rattle.sheets.specs.Layout.{layout_of, page_count}
use Rattle.sheets.specs.Sheets.{page_fingerprints, first_change, Same, Page}
use Rattle.sheets.specs.Inner.{ReadAs, filling, comparison}
use Rattle.sheets.proofs.Known.{sound}
use Rattle.sheets.proofs.Versions.{length_from}
use Rattle.sheets.proofs.Pages.{length-pages, count-few}
use Rattle.sheets.proofs.Parts.{part-fits}
use Rattle.sheet_layout.proofs.Filling.{prints-filling}
use Rattle.sheet_opening.specs.declared.OpenSheet.{OpenSheet}
use Rattle.sheet_pass.specs.Passes.{Passed}
use Rattle.sheet_pass.proofs.Passes.{pass_few, pass_changed, pass_same}
use Rattle.sheet_checking.proofs.Laws.{compare_pages, version-is, size_is, key-is, length-is, pages-many, pages-there}

module _ (sheet : List ℕ) (x : OpenSheet) (r : ReadAs sheet x.numbers) where
  -- the page size
  pub size_right : (16 ≤ x.numbers.size) × (x.numbers.size ≤ 4096)
  size_right = rw (size_is sheet r) (sound sheet r).page_size

  module _ (file : Part) (few : length file.bytes ≤ 4294967295) (long : part_length file ≡ x.numbers.length) where
    abbrev count : ℕ
    count = page_count x.numbers.size (length file.bytes)

    abbrev prints : List ℕ
    prints = page_fingerprints (filling x.filled) (polynomial x.p) (8 * x.numbers.size) count (part_bits file)

    -- all fingerprints stand in the sheet
    pub total : length sheet ≡ x.place + 8 * count + 8
    total = omega (arith, pages-there sheet r file long, length_from x.numbers.version count, x.placed)

    pub count-small : count < 2 ^ 32
    count-small = omega (arith, count-few x.numbers.size (length file.bytes) size_right.0 size_right.1 (omega arith))

    -- the part of the sheet that begins with them
    module _ (fields : Bor (List ℕ)) (ep : fields.now ≡ drop x.place sheet) where
      abbrev part : List ℕ
      part = fields.now

      pub room : 8 * count ≤ length part
      room = let l = ap length ep ∙ length-drop x.place sheet in omega (arith, l, total)

      -- what the comparison answers
      answer : misused file ≡ false → comparison sheet file ≡ Done (first_change 0 (numbers_at 0 8 count part) prints)
      answer used =
          let y = x.numbers in
          let size = 8 * y.size in
          let own =
          prints-filling (layout_of y.version) x.filled (sym x.fills) (polynomial_of y.key) size count (part_bits file)
          ∙ ap (λ (m : ℕ). page_fingerprints (filling x.filled) m size count (part_bits file)) (sym (opened-whole x.opened)) in
          compare_pages sheet file (part-fits file few) used y.version y.key y.size (version-is sheet r) (key-is sheet r) (size_is sheet r)
          (long ∙ length-is sheet r) part (ep ∙ ap (λ (n : ℕ). drop n sheet) x.placed)
          ∙ ap (λ (fs : List ℕ). Done (first_change 0 (numbers_at 0 8 count part) fs)) own

      module _ (before after : List ℕ) (n : ℕ) (h : Passed prints (Some fields) before after n) where
        lengths : length prints ≡ count
        lengths = length-pages (filling x.filled) (polynomial x.p) count (8 * x.numbers.size) (part_bits file)

        pub passed-few : n ≤ count
        passed-few = pass_few prints fields before after n count h lengths

        module _ (used : misused file ≡ false) where
          pub changed-told : n < x.numbers.pages → comparison sheet file ≡ Done (Page n)
          changed-told l =
              answer used ∙ ap Done (pass_changed prints fields before after n count h lengths (omega (arith, l, pages-many sheet r file long)))

          pub same-told : x.numbers.pages ≤ n → comparison sheet file ≡ Done Same
          same-told l =
              answer used ∙ ap Done (pass_same prints fields before after n count h lengths (omega (arith, l, pages-many sheet r file long)))
