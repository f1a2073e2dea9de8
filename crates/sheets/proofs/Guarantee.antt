-- What the calls promise together, over the definitions that their contracts cite.
use mathlib.Core.Path.{◌≡◌, refl, sym, ap, ap₂, ◌∙◌}
use mathlib.Core.Bool.{Bool, false, cond, or-true}
use mathlib.Core.List.{List, [], ◌∷◌}
use Prim.Native.Nat.{ℕ, ◌+◌, ◌-◌, ◌*◌, ◌%◌, ◌^◌, ◌≤◌, min}
use native.Mathlib.Nat.{zero-add, mul-one, mod-one}
use native.Mathlib.Omega.{arith}
use lib.Dec.{ltb}
use lib.ListN.{length, take, drop}
use lib.Seq.{take_at}
use borrow.Author.Tests.{eq-eqb, ne_eqb, le-ltb, ltb-false}
use Rattle.lists.specs.Lists.{overlay}
use Rattle.lists.proofs.Lent.{overlay-fits}
use Rattle.gf2.specs.Polynomials.{rem}
use Rattle.gf2.proofs.Residues.{rem-small}
use Rattle.files.specs.Files.{mark_of, Part, part_length, part_bits, misused, mark_from}
use Rattle.files.proofs.Parts.{part-length, part_bytes}
use Rattle.refusals.specs.declared.Refusal.TheVariants.{TooLong, FinalByte}
use Rattle.refusals.specs.Refusals.{Done, ◌⇒◌, passes, longest}
use Rattle.refusals.proofs.Laws.{Clear, clear-done, clear-append, done-clear}
use Rattle.lists.proofs.Truth.{or-neither}
use Rattle.acceptance.specs.declared.Key.{Key}
use Rattle.acceptance.specs.Keys.{polynomial_of, key_of}
use Rattle.acceptance.proofs.Laws.{in_range, key_iff}
use Rattle.big_endian.specs.Numbers.{number_at}
use Rattle.sheets.specs.Layout.{version_in, fingerprint_width, Layout, version1, version2, version3, newest, layouts, known, layout_of}
use Rattle.sheets.specs.Layout.{page_place, sheet_length, page_count, pages_for, Contents, sheet_bytes, contents_in}
use Rattle.sheets.specs.Sheets.{page_fingerprints, contents_of, joined_pages, write_tests, write_sheet, read_tests, read_sheet, read_pages, Page}
use Rattle.sheets.specs.Claims.{highest, SoundContents, WellFormed, Reads, ReadIff, FileReads, OtherVersion, PagesGiven, PagesGiveFile, OwnCompared}
use Rattle.sheets.specs.Claims.{FilledCompared, WrittenReads, WrittenFingerprint, OlderRefuses, Checks, OtherLengthTold, First, PageIff, SameIff}
use Rattle.sheets.specs.Claims.{UnchangedSame}
use Rattle.sheets.specs.Inner.{zeros_behind}
use Rattle.sheets.specs.Sheets.{first_change, pages_now, compared, check_tests, check_sheet}
use Rattle.sheets.proofs.Keys.{key-pos}
use Rattle.sheets.proofs.Versions.{newest-is, newest-known}
use Rattle.sheets.proofs.Layouts.{length-sheet, fingerprint-back, version-back}
use Rattle.sheets.proofs.Pages.{pages-count, length-pages, own-joined, joined_length, zeros_are}
use Rattle.sheets.proofs.Sound.{size_bounds, sound-fits, sound_back, sound-clear, clear-sound, formed, file-sound, holds-sound}
use Rattle.sheets.proofs.Changes.{same-equal, equal-same, page-first, first-page}

-- ---- reading

-- a well-formed sheet is read, as the numbers that it is made of
pub reads : Reads
unfolding read_sheet
reads sheet w =
    rw w.bytes
    (clear-done (read_tests layouts (sheet_bytes w.contents)) tt (contents_in (sheet_bytes w.contents))
    (sound-clear w.contents w.sound)
    ∙ ap Done (sound_back w.contents w.sound))

-- and nothing else is
pub read_iff : ReadIff
unfolding read_sheet
read_iff sheet b = (there, back)
  where
    there : read_sheet sheet ≡ Done (contents_in sheet) → WellFormed sheet
    there e = clear-sound sheet (done-clear (read_tests layouts sheet) tt (contents_in sheet) (contents_in sheet) e).0 b

    back : WellFormed sheet → read_sheet sheet ≡ Done (contents_in sheet)
    back w = clear-done (read_tests layouts sheet) tt (contents_in sheet) (rw (← w.bytes) at (sound-clear w.contents w.sound))

-- in each version, the sheet of a file reads as its numbers
pub file-reads : FileReads
file-reads version key s file h =
    let x = contents_of version (key_of key) s file in
    reads (sheet_bytes x) (formed x (holds-sound version key s file h))

-- a sheet of a version that the reader's list has not is refused with 14
pub other-version : OtherVersion
other-version vs sheet x e = rw (e, or-true)

pub contents-back : (sheet : List ℕ) (w : WellFormed sheet) → contents_in sheet ≡ w.contents
contents-back sheet w = ap contents_in w.bytes ∙ sound_back w.contents w.sound

-- the page fingerprints of a well-formed sheet are given in lent words
pub pages-given : PagesGiven
unfolding read_pages
pages-given sheet w words =
    clear-done (read_tests layouts sheet) words _ (rw (← w.bytes) at (sound-clear w.contents w.sound))
    ∙ ap (λ (y : Contents). Done (overlay y.pages words)) (contents-back sheet w)

-- ---- the page marks joined

pub pages_give_file : PagesGiveFile
unfolding contents_of
pages_give_file version x s file f some =
    let key = polynomial_of x in
    let v = layout_of version in
    ap (λ (c : ℕ). joined_pages v key (8 * s) (length file) (mark_of key []) (page_fingerprints v key (8 * s) c file)) (pages-count s (length file) some)
    ∙ own-joined (key-pos x) v f (8 * s) file (omega arith)

pub own-compared : OwnCompared
own-compared x f some count small =
    let key = polynomial_of x.key in
    let n = x.length in
    let v = layout_of x.version in
    let s = 8 * x.page_size in
    let none : zeros_behind v s n ≡ 0 = ap (λ (b : Bool). cond b (page_count s n * s - n) 0) f in
    ap (λ (m : ℕ). rem key (x.fingerprint * 2 ^ m))
    (zeros_are v key s n x.pages (omega arith) (count ∙ pages-count x.page_size n some) ∙ none)
    ∙ ap (rem key) (mul-one x.fingerprint)
    ∙ rem-small (key-pos x.key) x.fingerprint small

pub filled-compared : FilledCompared
unfolding mark_from
filled-compared x f =
    let key = polynomial_of x.key in
    let c = length x.pages in
    let s = 8 * x.page_size in
    ap (λ (m : ℕ). rem key (x.fingerprint * 2 ^ (m - x.length)))
    (joined_length (layout_of x.version) key s x.length (mark_of key []) x.pages
    ∙ ap (λ (b : Bool). 0 + cond b (c * s) (min (c * s) x.length)) f
    ∙ zero-add (c * s))

-- ---- writing, then reading

module _ (x : Key) (s : ℕ) (part : Part) (buffer after : List ℕ) (done : write_sheet x s part buffer ≡ Done after) where
  abbrev file : List ℕ
  file = part_bits part

  abbrev sheet : List ℕ
  sheet = sheet_bytes (contents_of newest.version x s file)

  abbrev total : ℕ
  total = sheet_length newest (pages_for s (length file))

  length-written : length sheet ≡ total
  unfolding contents_of
  length-written =
      length-sheet (contents_of newest.version x s file)
      ∙ ap₂ (λ (v : Layout) (c : ℕ). sheet_length v c) newest-is
      (length-pages (layout_of newest.version) (polynomial_of x) (pages_for s (length file)) (8 * s) file)

  cleared : Clear (write_tests x s part buffer) × (overlay sheet buffer ≡ after)
  unfolding write_sheet
  cleared = done-clear (write_tests x s part buffer) buffer _ after done

  sound : SoundContents (contents_of newest.version x s file)
  sound =
      let c = cleared.0 in
      let p = or-neither (ltb longest (part_length part)) false c.1.1.0 in
      let z = size_bounds s c.1.1.1.0 in
      let n : length file ≤ longest = rw (part-length part) (ltb-false longest (part_length part) p.0) in
      file-sound newest.version x s file newest-known c.0 ((key_iff x).0 (c.0, c.1.0)).0 (held (in_range x c.0).1) n (ones (length file)) z.0
      z.1
    where
      held : x.degree ≤ 64 → x.degree ≤ highest (layout_of newest.version)
      held l = rw newest-is l

      ones : (n : ℕ) → n % (layout_of newest.version).length_unit ≡ 0
      ones n = ap (λ (v : Layout). n % v.length_unit) newest-is ∙ mod-one n

  -- the buffer is as long as the sheet, or longer
  room : total ≤ length buffer
  room =
      rw (part-length part, part_bytes part)
      (ltb-false (length buffer) (sheet_length newest (page_count s (length part.bytes))) cleared.0.1.1.1.1.0)

  pub written-bytes : take (sheet_length newest (pages_for s (length (part_bits part)))) after ≡ sheet_bytes (contents_of newest.version x s (part_bits part))
  written-bytes =
      ap (take total) (sym cleared.1 ∙ overlay-fits sheet buffer (rw length-written room))
      ∙ take_at sheet (drop (length sheet) buffer) total length-written

-- what is written into a buffer reads back
pub written-reads : WrittenReads
written-reads x s part buffer after done =
    let y = contents_of newest.version x s (part_bits part) in
    rw (written-bytes x s part buffer after done)
    (reads (sheet_bytes y) (formed y (sound x s part buffer after done)))

pub written-fingerprint : WrittenFingerprint
unfolding contents_of
written-fingerprint x s part buffer after done =
    let y = contents_of newest.version x s (part_bits part) in
    rw (written-bytes x s part buffer after done)
    (ap₂ (λ (v : Layout) (c : ℕ). number_at (page_place v c) fingerprint_width (sheet_bytes y)) (sym newest-is)
    (sym (length-pages (layout_of newest.version) (polynomial_of x) (pages_for s (length (part_bits part))) (8 * s) (part_bits part)))
    ∙ fingerprint-back y (sound-fits y (sound x s part buffer after done)))

-- the version of what is written is none of an older reader's
older_knows : known (version3 ∷ version2 ∷ version1 ∷ []) newest.version ≡ false
unfolding known
older_knows = refl

pub older_refuses : OlderRefuses
unfolding contents_of
older_refuses x s part buffer after y done =
    let z = contents_of newest.version x s (part_bits part) in
    let version = ap version_in (written-bytes x s part buffer after done) ∙ version-back z (sound-fits z (sound x s part buffer after done)) in
    other-version (version3 ∷ version2 ∷ version1 ∷ []) _ y (ap (known (version3 ∷ version2 ∷ version1 ∷ [])) version ∙ older_knows)

-- ---- checking a file against a well-formed sheet

pub checks : Checks
unfolding check_sheet
checks sheet w file fits used =
    clear-done (check_tests sheet file) tt (compared (contents_in sheet) (part_bits file))
    (clear-append (read_tests layouts sheet) (passes (part_length file ∷ []) ⇒ TooLong ∷ misused file ⇒ FinalByte ∷ [])
    (rw (← w.bytes) at (sound-clear w.contents w.sound))
    (rw (le-ltb longest (part_length file) (rw (part-length file) at fits)) refl, (used, tt)))
    ∙ ap (λ (x : Contents). Done (compared x (part_bits file))) (contents-back sheet w)

pub other_length : OtherLengthTold
unfolding compared
other_length x file n = rw (ne_eqb (length file) x.length n)

module _ (x : Contents) (sound : SoundContents x) (file : List ℕ) (e : length file ≡ x.length) where
  by_pages : compared x file ≡ first_change 0 x.pages (pages_now x file)
  unfolding compared
  by_pages = rw (eq-eqb (length file) x.length e)

  as_many : length x.pages ≡ length (pages_now x file)
  unfolding contents_of
  as_many =
      sound.count
      ∙ ap (pages_for x.page_size) (sym e)
      ∙ sym (length-pages (layout_of x.version) (polynomial_of x.key) (pages_for x.page_size (length file)) (8 * x.page_size) file)

pub page_iff : PageIff
page_iff x sound file e i = (there, back)
  where
    there : compared x file ≡ Page i → First x.pages (pages_now x file) i
    there h = let l = page-first 0 x.pages (pages_now x file) i (sym (by_pages x sound file e) ∙ h) in rw (l.counted, zero-add l.place) l.first

    back : First x.pages (pages_now x file) i → compared x file ≡ Page i
    back h = by_pages x sound file e ∙ first-page 0 x.pages (pages_now x file) i (as_many x sound file e) h ∙ ap Page (zero-add i)

pub same_iff : SameIff
same_iff x sound file e = (
  λ h. same-equal 0 x.pages (pages_now x file) (as_many x sound file e) (sym (by_pages x sound file e) ∙ h),
  λ h. by_pages x sound file e ∙ equal-same 0 x.pages (pages_now x file) h,
)

-- an unchanged file is told as the same
pub unchanged_same : UnchangedSame
unfolding contents_of
unchanged_same version key s part h used =
    let file = part_bits part in
    let x = contents_of version (key_of key) s file in
    let sound = holds-sound version key s file h in
    checks (sheet_bytes x) (formed x sound) part h.within used ∙ ap Done ((same_iff x sound file refl).1 refl)
