-- Routes to a file's fingerprint through sheets: the fields of a written sheet, and what reading gives of a sheet whose page
-- fingerprints are those of a file's pages.
use mathlib.Core.Path.{◌≡◌, refl, sym, ap, ◌∙◌}
use mathlib.Core.List.{List, [], ◌∷◌}
use Prim.Native.Nat.{ℕ, zero, suc, ◌+◌, ◌*◌, ◌≤◌, ◌<◌}
use native.Mathlib.Omega.{arith}
use lib.ListN.{length, get_or, take, drop, length-take, get_or-append}
use lib.Seq.{take-take, get_or-take}
use Rattle.lists.specs.Lists.{overlay}
use Rattle.refusals.specs.Refusals.{Done}
use Rattle.refusals.proofs.Laws.{done-clear, done-eq}
use Rattle.acceptance.specs.declared.Key.{Key}
use Rattle.acceptance.specs.Keys.{polynomial_of}
use Rattle.files.specs.Files.{Bytes, bits, value_from, fingerprint, Part, part_bits}
use Rattle.big_endian.specs.Numbers.{number_at}
use Rattle.sheets.specs.Layout.{version_in, fingerprint_width, Layout, newest, layouts, layout_of, page_place, sheet_length, pages_for, pages_in, Contents}
use Rattle.sheets.specs.Layout.{contents_in}
use Rattle.sheets.specs.Sheets.{page_of, contents_of, write_sheet, read_tests, read_sheet, read_pages, pages_now}
use Rattle.sheets.specs.Claims.{WellFormed}
use Rattle.big_endian.proofs.Numbers.{numbers-one}
use Rattle.sheets.proofs.Versions.{newest-is}
use Rattle.sheets.proofs.Pages.{length-pages, page-at}
use Rattle.sheets.proofs.Sound.{clear-sound}
use Rattle.sheets.proofs.Guarantee.{reads, pages-given, written-reads, written-fingerprint, same_iff}
use Rattle.sheets.proofs.Damages.{told-fingerprint}

-- a number of a list's first n entries
part-within : (p w n : ℕ) (l : List ℕ) → p + w ≤ n → take w (drop p (take n l)) ≡ take w (drop p l)
part-within zero w n l h = take-take w n l (omega arith)
part-within (suc p) w zero l h = absurd (omega arith)
part-within (suc p) w (suc n) [] h = refl
part-within (suc p) w (suc n) (x ∷ l) h = part-within p w n l (omega arith)

number-within : (p w n : ℕ) (l : List ℕ) → p + w ≤ n → number_at p w (take n l) ≡ number_at p w l
unfolding number_at
number-within p w n l h = ap (λ (part : List ℕ). value_from 0 (bits part)) (part-within p w n l h)

-- ---- a written sheet

module _ (x : Key) (s : ℕ) (part : Part) (buffer after : List ℕ) (done : write_sheet x s part buffer ≡ Done after) where
  abbrev key : ℕ
  key = polynomial_of x

  abbrev file : List ℕ
  file = part_bits part

  abbrev count : ℕ
  count = pages_for s (length file)

  abbrev sheet : List ℕ
  sheet = take (sheet_length newest count) after

  numbers : contents_in sheet ≡ contents_of newest.version x s file
  unfolding read_sheet
  numbers =
      (done-clear (read_tests layouts sheet) tt (contents_in sheet) (contents_of newest.version x s file)
      (written-reads x s part buffer after done)).1

  version-is : version_in sheet ≡ newest.version
  unfolding contents_in contents_of
  version-is = ap (λ (x : Contents). x.version) numbers

  layout_is : layout_of (version_in sheet) ≡ newest
  layout_is = ap layout_of version-is ∙ newest-is

  pub written-page : (i : ℕ) → i < pages_for s (length (part_bits part))
      → number_at (page_place newest i) 8 after ≡ fingerprint (polynomial_of x) (page_of newest (8 * s) (take (8 * s) (drop (i * (8 * s)) (part_bits part))))
  unfolding contents_in contents_of
  written-page i l =
      let v = layout_of (version_in sheet) in
      let c : pages_in v sheet ≡ count = ap (λ (y : Contents). pages_for y.page_size y.length) numbers in
      sym (number-within (page_place newest i) 8 (sheet_length newest count) after (omega arith))
      ∙ ap (λ (w : Layout). number_at (page_place w 0 + fingerprint_width * i) fingerprint_width sheet) (sym layout_is)
      ∙ sym (numbers-one (pages_in v sheet) (page_place v 0) fingerprint_width i sheet (omega (arith, c)))
      ∙ ap (λ (x : Contents). get_or x.pages i 0) numbers
      ∙ page-at (layout_of newest.version) key (8 * s) count i file l
      ∙ ap (λ (w : Layout). fingerprint key (page_of w (8 * s) (take (8 * s) (drop (i * (8 * s)) file)))) newest-is

  pub written_last : number_at (page_place newest (pages_for s (length (part_bits part)))) 8 after ≡ fingerprint (polynomial_of x) (part_bits part)
  written_last =
      sym (number-within (page_place newest count) 8 (sheet_length newest count) after (omega arith))
      ∙ written-fingerprint x s part buffer after done

-- ---- a sheet that is read, with the page fingerprints of a file

module _ (sheet : List ℕ) (w : WellFormed sheet) (file : List ℕ) (size : w.contents.length ≡ length file)
    (pages : w.contents.pages ≡ pages_now w.contents file) where
  of_file : w.contents.fingerprint ≡ fingerprint (polynomial_of w.contents.key) file
  of_file = sym (told-fingerprint w.contents w.sound file ((same_iff w.contents w.sound file (sym size)).1 pages))

  of_page : (words after : List ℕ) (i : ℕ) → read_pages sheet words ≡ Done after → i < length w.contents.pages → i < length words
      → get_or after i 0
      ≡ fingerprint (polynomial_of w.contents.key)
      (page_of (layout_of w.contents.version) (8 * w.contents.page_size)
      (take (8 * w.contents.page_size) (drop (i * (8 * w.contents.page_size)) file)))
  unfolding contents_of overlay
  of_page words after i e l m =
      let x = w.contents in
      let c : length x.pages ≡ pages_for x.page_size (length file) =
      ap length pages ∙ length-pages (layout_of x.version) (polynomial_of x.key) (pages_for x.page_size (length file)) (8 * x.page_size) file in
      ap (λ (ws : List ℕ). get_or ws i 0) (done-eq _ _ (sym e ∙ pages-given sheet w words))
      ∙ get_or-append (take (length words) x.pages) (drop (length x.pages) words) 0 i (omega (arith, length-take (length words) x.pages))
      ∙ get_or-take (length words) x.pages i 0 m
      ∙ ap (λ (fs : List ℕ). get_or fs i 0) pages
      ∙ page-at (layout_of x.version) (polynomial_of x.key) (8 * x.page_size) (pages_for x.page_size (length file)) i file (omega arith)

module _ (sheet file : List ℕ) (x : Contents) (bytes : Bytes sheet) (read : read_sheet sheet ≡ Done x) (size : x.length ≡ length file)
    (pages : x.pages ≡ pages_now x file) where
  well : WellFormed sheet
  unfolding read_sheet
  well = clear-sound sheet (done-clear (read_tests layouts sheet) tt (contents_in sheet) x read).0 bytes

  is : well.contents ≡ x
  is = done-eq well.contents x (sym (reads sheet well) ∙ read)

  pub read-fingerprint : x.fingerprint ≡ fingerprint (polynomial_of x.key) file
  read-fingerprint = rw is at (of_file sheet well file (rw is size) (rw is pages))

  pub read-page : (words after : List ℕ) (i : ℕ) → read_pages sheet words ≡ Done after → i < length x.pages → i < length words
      → get_or after i 0
      ≡ fingerprint (polynomial_of x.key)
      (page_of (layout_of x.version) (8 * x.page_size) (take (8 * x.page_size) (drop (i * (8 * x.page_size)) file)))
  read-page words after i e l m = rw is at (of_page sheet well file (rw is size) (rw is pages) words after i e (rw is l) m)
