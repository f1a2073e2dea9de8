-- `put_sheet` meets its contract.
use mathlib.Core.Path.{◌≡◌, sym, ap, ap₂, ◌∙◌}
use mathlib.Core.List.{List, [], ◌∷◌, ◌++◌, append-nil}
use Prim.Native.Nat.{ℕ, ◌+◌, ◌-◌, ◌*◌, ◌/◌, ◌≤◌}
use native.Mathlib.Nat.{le_refl}
use native.Mathlib.Omega.{arith}
use lib.ListN.{length, take, drop, length-drop, drop_of_length-le}
use lib.Seq.{sets}
use Rattle.acceptance.specs.Keys.{polynomial_of}
use Rattle.acceptance.proofs.Opened.{opened-proper, opened-eight, opened-whole}
use Rattle.files.specs.Files.{fingerprint, Part, as_part, part_length, part_bits}
use Rattle.files.proofs.Parts.{part-length}
use Rattle.big_endian.specs.Numbers.{bytes_of, fields_of, bytes_in}
use Rattle.sheets.specs.Layout.{letters, Layout, newest, layout_of, field_widths, page_count, pages_for, key_number}
use Rattle.sheets.specs.Sheets.{page_fingerprints, contents_of}
use Rattle.sheets.proofs.Versions.{length_from}
use Rattle.sheets.proofs.Pages.{length-pages, all_left}
use Rattle.sheets.proofs.Parts.{counted-part, pages-held}
use Rattle.sheet_writing.proofs.Stores.{sheet_stores}
use Rattle.sheet_writing.proofs.put_sheet.Goals as goal
use Rattle.sheet_writing.proofs.put_sheet.Goals.{After-pages_place-from, After-part_length-n, Start}

abbrev v : Layout
v = layout_of newest.version

-- the fingerprints begin inside the buffer
fits : (c : After-pages_place-from)
    → c.pages_place-from.result + 8 * page_count c.args.size (length c.args.file.now) + 8 ≤ length c.put_head.new.buffer
fits c =
    let a = c.args in
    let from = length_from newest.version (page_count a.size (length a.file.now)) in
    omega (arith, c.put_head.auto.buffer, c.requires.4, c.pages_place-from.ensures.0, from)

abbrev part : Start → Part
part s = as_part s.args.file.now s.args.used

-- the file's length
counted : (c : After-part_length-n) → c.part_length-n.result ≡ part_length (part c.before.before.before.before)
counted c = c.part_length-n.ensures ∙ counted-part (part c.before.before.before.before) (omega (arith, c.requires.3))

pub put_fingerprints-requires : goal.put_fingerprints-requires
put_fingerprints-requires c =
    let b = c.put_head.new.buffer in
    let p = c.requires in
    let n = c.pages_place-from.result in
    let part = ap length (all_left b n) ∙ length-drop n b in (
      opened-proper p.0,
      opened-eight p.0,
      p.1,
      p.2,
      p.3,
      omega (arith, part, fits (goal.at.put_fingerprints-requires c).After-pages_place-from),
      p.5,
      counted
          (goal.at.put_fingerprints-requires c).After-part_length-n,
    )

pub returns : goal.returns
unfolding contents_of
returns c =
    let a = c.args in
    let key = polynomial_of a.key in
    let file = part_bits (part (goal.at.returns c).Start) in
    let bits = part-length (part (goal.at.returns c).Start) in
    let size = 8 * a.size in
    let count = page_count a.size (length a.file.now) in
    let held = pages-held a.size (part (goal.at.returns c).Start) in
    let fields : ℕ → List ℕ = λ m. letters ∷ newest.version ∷ key_number v.paired a.key ∷ m / v.length_unit ∷ a.size ∷ [] in
    let b = c.put_head.new.buffer in
    let n = c.pages_place-from.result in
    let part = c.put_fingerprints.new.fields in
    let none : drop (length b - n) (drop n b) ≡ [] = drop_of_length-le (drop n b) {i = length b - n} (rw (length-drop n b) (le_refl (length b - n))) in
    let stored : part ≡ sets (drop n b) 0 (fields_of 8 (page_fingerprints v key size count file) ++ bytes_of 8 (fingerprint key file)) =
    c.put_fingerprints.ensures
    ∙ ap₂ (λ (l : List ℕ) (m : ℕ). sets l 0 (fields_of 8 (page_fingerprints v m size count file) ++ bytes_of 8 (fingerprint m file))) (all_left b n)
    (opened-whole c.requires.0) in
    let from = c.pages_place-from.ensures.0 in
    ap (λ (l : List ℕ). take n b ++ (part ++ l)) none
    ∙ ap (λ (l : List ℕ). take n b ++ l) (append-nil part)
    ∙ ap (λ (m : ℕ). take m b ++ part) from
    ∙ sheet_stores (contents_of newest.version a.key a.size file) count a.buffer.now b part
    (length-pages v key (pages_for a.size (length file)) size file ∙ held) c.requires.4
    (c.put_head.ensures ∙ ap (λ (m : ℕ). sets a.buffer.now 0 (bytes_in (field_widths v) (fields m)))
    (counted (goal.at.returns c).After-part_length-n ∙ sym bits))
    (stored
    ∙ ap₂ (λ (m c : ℕ). sets (drop m b) 0 (fields_of 8 (page_fingerprints v key size c file) ++ bytes_of 8 (fingerprint key file))) from (sym held))
