-- How a check answers, by what reading answers.
use mathlib.Core.Path.{◌≡◌, sym, ap, ap₂, ◌∙◌}
use mathlib.Core.Bool.{true, false}
use mathlib.Core.List.{List, [], ◌∷◌, ◌++◌}
use Prim.Native.Nat.{ℕ, ◌*◌, ◌≤◌, ◌<◌}
use native.Mathlib.Decide.{ℕ_discrete}
use lib.ListN.{length}
use borrow.Author.Tests.{eq-eqb, lt-ltb, le-ltb}
use Rattle.refusals.specs.declared.Refusal.{Refusal}
use Rattle.refusals.specs.declared.Refusal.TheVariants.{TooLong, FinalByte}
use Rattle.refusals.specs.Refusals.{Done, Refused, Test, ◌⇒◌, first_of, passes, longest}
use Rattle.acceptance.specs.declared.Key.{Key}
use Rattle.acceptance.specs.Keys.{polynomial_of}
use Rattle.files.specs.Files.{Part, part_length, part_bits, misused, bytes_for}
use Rattle.files.proofs.Parts.{part-length, part_bytes}
use Rattle.sheets.specs.declared.Sheet.{Sheet}
use Rattle.big_endian.specs.Numbers.{numbers_at}
use Rattle.sheets.specs.Layout.{layouts, layout_of, sheet_length, page_count, pages_for, contents_in}
use Rattle.sheets.specs.Sheets.{page_fingerprints, contents_of, read_tests, read_sheet, Page, OtherLength, first_change, compared, check_sheet}
use Rattle.sheets.specs.Outputs.{range_in}
use Rattle.sheets.specs.Answers.{sheet_read}
use Rattle.sheets.specs.Sheets.{check_tests}
use Rattle.sheets.specs.Answers.{changed_range}
use Rattle.sheets.specs.Inner.{ReadAs, comparison, ranged, fingerprints_part}
use Rattle.refusals.proofs.Replies.{first-mapped}
use Rattle.refusals.proofs.Laws.{Clear, done-clear, more-refused, more-clear, first_true, first_false}
use Rattle.sheets.proofs.Parts.{pages-held}
use Rattle.sheets.proofs.Known.{pages-in, refused_inv, tests-clear, total, pages-counted}
use Rattle.sheets.proofs.Changes.{not-other}
use Rattle.sheets.proofs.Guarantee.{other_length}

-- ---- what reading says

-- numbers 7 and 19
abbrev file_tests : Part → List Test
file_tests file = passes (part_length file ∷ []) ⇒ TooLong ∷ misused file ⇒ FinalByte ∷ []

module _ (sheet : List ℕ) where
  pub check_refused : (q : Refusal) (file : Part) → Refused q tt ≡ sheet_read (read_sheet sheet) → check_sheet sheet file ≡ Refused q tt
  unfolding read_sheet check_sheet
  check_refused q file e =
      more-refused (read_tests layouts sheet) (file_tests file) tt tt (contents_in sheet) (compared (contents_in sheet) (part_bits file)) q
      (refused_inv (read_sheet sheet) q (sym e))

  pub check_done : {x : Sheet} → ReadAs sheet x → (file : Part) → check_sheet sheet file ≡ comparison sheet file
  unfolding check_sheet
  check_done r file = more-clear (read_tests layouts sheet) (file_tests file) tt (compared (contents_in sheet) (part_bits file)) (tests-clear sheet r)

-- ---- the comparison, test by test

module _ (sheet : List ℕ) (file : Part) where
  pub compare_long : longest < part_length file → comparison sheet file ≡ Refused TooLong tt
  compare_long l = rw (lt-ltb longest (part_length file) l)

  module _ (fits : part_length file ≤ longest) where
    after-long : comparison sheet file ≡ first_of (misused file ⇒ FinalByte ∷ []) tt (compared (contents_in sheet) (part_bits file))
    after-long = rw (le-ltb longest (part_length file) fits)

    pub compare_misused : misused file ≡ true → comparison sheet file ≡ Refused FinalByte tt
    compare_misused e = after-long ∙ first_true (misused file) FinalByte [] tt _ e

    module _ (used : misused file ≡ false) where
      after-used : comparison sheet file ≡ Done (compared (contents_in sheet) (part_bits file))
      after-used = after-long ∙ first_false (misused file) FinalByte [] tt _ used

      pub compare_other : (part_length file ≡ (contents_in sheet).length → ⊥) → comparison sheet file ≡ Done OtherLength
      compare_other n = after-used ∙ ap Done (other_length (contents_in sheet) (part_bits file) (λ e. n (sym (part-length file) ∙ e)))

      -- equally long: page by page
      pub compare_pages : (version : ℕ) (key : Key) (size : ℕ) → version ≡ (contents_in sheet).version → key ≡ (contents_in sheet).key
          → size ≡ (contents_in sheet).page_size
          → part_length file ≡ (contents_in sheet).length
          → (part : List ℕ) → part ≡ fingerprints_part version sheet
          → comparison sheet file
          ≡ Done (first_change 0 (numbers_at 0 8 (page_count size (length file.bytes)) part)
          (page_fingerprints (layout_of version) (polynomial_of key) (8 * size) (page_count size (length file.bytes)) (part_bits file)))
      unfolding compared contents_of contents_in
      compare_pages version key size ev ek es en part ep =
          let bits = part_bits file in
          let same : length bits ≡ (contents_in sheet).length = part-length file ∙ en in
          after-used
          ∙ rw (eq-eqb (length bits) (contents_in sheet).length same, pages-in sheet, ← es, ← same, ← ek, ← ev, ep, pages-held size file)

-- the numbers that a check goes by
module _ (sheet : List ℕ) {x : Sheet} (r : ReadAs sheet x) where
  pub version-is : x.version ≡ (contents_in sheet).version
  version-is = ap (λ (y : Sheet). y.version) r.numbers

  pub size_is : x.size ≡ (contents_in sheet).page_size
  size_is = ap (λ (y : Sheet). y.size) r.numbers

  pub key-is : x.key ≡ (contents_in sheet).key
  key-is = ap (λ (y : Sheet). y.key) r.numbers

  pub length-is : x.length ≡ (contents_in sheet).length
  length-is = ap (λ (y : Sheet). y.length) r.numbers

  -- as many pages as the file has
  pub pages-many : (file : Part) → part_length file ≡ x.length → x.pages ≡ page_count x.size (length file.bytes)
  unfolding contents_in
  pages-many file e =
      pages-counted sheet r
      ∙ ap₂ (λ (s n : ℕ). pages_for s n) (sym size_is) (sym (e ∙ length-is))
      ∙ ap (page_count x.size) (part_bytes file)

  -- and all their fields are there
  pub pages-there : (file : Part) → part_length file ≡ x.length
      → sheet_length (layout_of x.version) (page_count x.size (length file.bytes)) ≡ length sheet
  unfolding contents_in
  pages-there file e =
      sym
      (total sheet r
      ∙ ap₂ (λ (v n : ℕ). sheet_length (layout_of v) n) (sym version-is) (sym (pages-counted sheet r) ∙ pages-many file e))

-- ---- the range is that of the check's answer

pub changed_by_check : (sheet : List ℕ) (file : Part) → changed_range sheet file ≡ ranged (contents_in sheet) (check_sheet sheet file)
unfolding changed_range check_sheet
changed_by_check sheet file = let x = contents_in sheet in first-mapped (range_in x) (check_tests sheet file) tt (compared x (part_bits file))

-- ---- the page that a check names

module _ (sheet : List ℕ) (file : Part) (i : ℕ) (e : check_sheet sheet file ≡ Done (Page i)) where
  named : Clear (read_tests layouts sheet ++ file_tests file) × (compared (contents_in sheet) (part_bits file) ≡ Page i)
  unfolding check_sheet
  named = done-clear (read_tests layouts sheet ++ file_tests file) tt (compared (contents_in sheet) (part_bits file)) (Page i) e

  named-equal : length (part_bits file) ≡ (contents_in sheet).length
  named-equal = go (ℕ_discrete (length (part_bits file)) (contents_in sheet).length)
    where
      go : Dec (length (part_bits file) ≡ (contents_in sheet).length) → length (part_bits file) ≡ (contents_in sheet).length
      go (yes d) = d
      go (no d) = absurd (not-other (sym (other_length (contents_in sheet) (part_bits file) d) ∙ named.1))

  -- the file has as many bytes as the sheet says
  pub named-bytes : bytes_for (contents_in sheet).length ≡ length file.bytes
  named-bytes = sym (ap bytes_for (sym (part-length file) ∙ named-equal)) ∙ part_bytes file
