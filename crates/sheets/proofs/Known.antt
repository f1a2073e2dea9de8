-- What is known of a sheet that was read or refused.
use mathlib.Core.Path.{◌≡◌, refl, sym, ap, ◌∙◌}
use mathlib.Core.List.{List, [], append-nil}
use Prim.Native.Nat.{ℕ}
use native.Mathlib.Omega.{arith}
use lib.ListN.{length}
use Rattle.lists.specs.Lists.{overlay}
use Rattle.refusals.specs.declared.Refusal.{Refusal}
use Rattle.refusals.proofs.Laws.{Clear, clear-done, done-clear, more-refused}
use Rattle.refusals.specs.Refusals.{Answer, Done, Refused, Test, first_of}
use Rattle.sheets.specs.declared.Sheet.{Sheet}
use Rattle.big_endian.specs.Numbers.{numbers_at}
use Rattle.sheets.specs.Layout.{version_in, fingerprint_width, layouts, layout_of, page_place, sheet_length, Contents, pages_in, contents_in}
use Rattle.sheets.specs.Sheets.{read_tests, read_sheet, read_pages}
use Rattle.sheets.specs.Outputs.{numbers_of}
use Rattle.sheets.specs.Answers.{sheet_read}
use Rattle.sheets.specs.Claims.{SoundContents}
use Rattle.sheets.specs.Inner.{ReadAs, fingerprints_part}
use Rattle.big_endian.proofs.Numbers.{length-numbers_at, numbers_of_part}
use Rattle.sheets.proofs.Sound.{clear-total, clear-contents}

-- the page fingerprints, in the part that begins with them
pub pages-in : (sheet : List ℕ)
    → (contents_in sheet).pages ≡ numbers_at 0 8 (pages_in (layout_of (version_in sheet)) sheet) (fingerprints_part (version_in sheet) sheet)
unfolding contents_in
pages-in sheet =
    let v = layout_of (version_in sheet) in
    let n = pages_in v sheet in
    sym (numbers_of_part (page_place v 0) fingerprint_width n sheet)

-- ---- what reading says

pub refused_inv : (a : Answer Unit Contents) (q : Refusal) → sheet_read a ≡ Refused q tt → a ≡ Refused q tt
refused_inv (Done x) q e = absurd (let z : ◌≡◌ {A = ℕ} 0 1 = cc in omega arith)
refused_inv (Refused r s) q e = let d : r ≡ q = cc in rw d

done_inv : (sheet : List ℕ) (a : Answer Unit Contents) (x : Sheet) → read_sheet sheet ≡ a → sheet_read a ≡ Done x → ReadAs sheet x
unfolding read_sheet
done_inv sheet (Done y) x d e =
    let z = (done-clear (read_tests layouts sheet) tt (contents_in sheet) y d).1 in
    record { done = d ∙ ap Done (sym z); numbers = sym (ap numbers_of z ∙ cc) }
done_inv sheet (Refused r s) x d e = absurd (let z : ◌≡◌ {A = ℕ} 0 1 = cc in omega arith)

pub read_as : (sheet : List ℕ) (x : Sheet) → Done x ≡ sheet_read (read_sheet sheet) → ReadAs sheet x
read_as sheet x e = done_inv sheet (read_sheet sheet) x refl (sym e)

-- ---- a sheet that was read

module _ (sheet : List ℕ) {x : Sheet} (r : ReadAs sheet x) where
  pub tests-clear : Clear (read_tests layouts sheet)
  unfolding read_sheet
  tests-clear = (done-clear (read_tests layouts sheet) tt (contents_in sheet) (contents_in sheet) r.done).0

  pub sound : SoundContents (contents_in sheet)
  sound = clear-contents sheet tests-clear

  pub total : length sheet ≡ sheet_length (layout_of (version_in sheet)) (pages_in (layout_of (version_in sheet)) sheet)
  total = clear-total sheet tests-clear

  pub version-read : x.version ≡ version_in sheet
  unfolding contents_in
  version-read = ap (λ (y : Sheet). y.version) r.numbers

  pub pages-counted : x.pages ≡ pages_in (layout_of (version_in sheet)) sheet
  unfolding contents_in
  pages-counted =
      let v = layout_of (version_in sheet) in
      ap (λ (y : Sheet). y.pages) r.numbers ∙ length-numbers_at (page_place v 0) fingerprint_width (pages_in v sheet) sheet

-- ---- its page fingerprints in lent words

module _ (sheet words : List ℕ) where
  pub pages-refused : (q : Refusal) → Refused q tt ≡ sheet_read (read_sheet sheet) → read_pages sheet words ≡ Refused q words
  unfolding read_sheet read_pages
  pages-refused q e =
      let after = overlay (contents_in sheet).pages words in
      ap (λ (ts : List Test). first_of ts words after) (sym (append-nil (read_tests layouts sheet)))
      ∙ more-refused (read_tests layouts sheet) [] tt words (contents_in sheet) after q (refused_inv (read_sheet sheet) q (sym e))

  pub pages-done : {x : Sheet} → ReadAs sheet x → read_pages sheet words ≡ Done (overlay (contents_in sheet).pages words)
  unfolding read_pages
  pages-done r = clear-done (read_tests layouts sheet) words _ (tests-clear sheet r)
