-- Laws of the layout, for every version: the bytes of a sheet read back as its numbers, and the numbers read are written as the bytes.
use mathlib.Core.Path.{◌≡◌, refl, sym, ap, ap₂, ◌∙◌}
use mathlib.Core.List.{List, [], ◌∷◌, ◌++◌, zip_with, flatten, append_assoc, append-nil}
use Prim.Native.Nat.{ℕ, zero, suc, ◌+◌, ◌*◌, ◌/◌, ◌%◌, ◌^◌, ◌≤◌, ◌<◌}
use native.Mathlib.Nat.{add-zero, zero-add, add_assoc, mul_comm, mul-div_cancel, div-add-mod'}
use native.Mathlib.Omega.{arith}
use lib.ListN.{length, get_or, take, drop, length-append}
use lib.Seq.{take-add, take_all, drop-drop}
use Rattle.lists.specs.Lists.{All}
use Rattle.acceptance.specs.declared.Key.{Key}
use Rattle.files.specs.Files.{Bytes}
use Rattle.big_endian.specs.Numbers.{bytes_of, fields_of, number_at, numbers_at}
use Rattle.sheets.specs.Layout.{letters, version_in, fingerprint_width, Layout, layout_of, width, field_widths, page_place, sheet_length, pages_for}
use Rattle.big_endian.specs.Numbers.{bytes_in}
use Rattle.sheets.specs.Layout.{key_number, key_from, Contents, head_of}
use Rattle.sheets.specs.Layout.{sheet_bytes, field_in, key_in, length_in, pages_in, contents_in}
use Rattle.sheets.proofs.Versions.{three_wide, place-first}
use Rattle.big_endian.proofs.Numbers.{length-bytes_of, length-fields_of, number_seam, number_behind, numbers_seam, bytes-number, fields-numbers}

pub contents-eq : {v v' n n' s s' f f' : ℕ} {k k' : Key} {g g' : List ℕ} → v ≡ v' → k ≡ k' → n ≡ n' → s ≡ s' → g ≡ g' → f ≡ f'
    → ◌≡◌ {A = Contents} (record { version = v; key = k; length = n; page_size = s; pages = g; fingerprint = f })
    (record { version = v'; key = k'; length = n'; page_size = s'; pages = g'; fingerprint = f' })
contents-eq a b c d e f = cc

-- ---- the fields in front of the fingerprints: written, then read

-- each width has a number, which fits it
abbrev pub Fit : List ℕ → List ℕ → Type 0
Fit [] xs = Unit {0}
Fit (w ∷ ws) [] = ⊥
Fit (w ∷ ws) (x ∷ xs) = (x < 2 ^ (8 * w)) × Fit ws xs

length_fields : (ws xs : List ℕ) → length ws ≡ length xs → length (bytes_in ws xs) ≡ width ws
unfolding bytes_in zip_with flatten
length_fields [] xs e = refl
length_fields (w ∷ ws) [] e = absurd (omega arith)
length_fields (w ∷ ws) (x ∷ xs) e = length-append (bytes_of w x) (bytes_in ws xs) ∙ rw (length-bytes_of w x, length_fields ws xs (omega arith))

pub field-read : (ws xs : List ℕ) (i : ℕ) (behind : List ℕ) → i < length ws → Fit ws xs
    → number_at (width (take i ws)) (get_or ws i 0) (bytes_in ws xs ++ behind) ≡ get_or xs i 0
unfolding bytes_in zip_with flatten
field-read [] xs i behind l fit = absurd (omega arith)
field-read (w ∷ ws) [] i behind l fit = absurd fit
field-read (w ∷ ws) (x ∷ xs) zero behind l fit = rw append_assoc (number_seam [] (bytes_in ws xs ++ behind) 0 w x refl fit.0)
field-read (w ∷ ws) (x ∷ xs) (suc i) behind l fit =
    rw append_assoc
    (number_behind (bytes_of w x) (bytes_in ws xs ++ behind) w (width (take i ws)) (get_or ws i 0) (length-bytes_of w x)
    ∙ field-read ws xs i behind (omega arith) fit.1)

-- ---- the same: read, then written

module _ (sheet : List ℕ) (h : Bytes sheet) where
  fields-written : (ws xs : List ℕ) (place : ℕ) → length ws ≡ length xs
      → ((i : ℕ) → i < length ws → number_at (place + width (take i ws)) (get_or ws i 0) sheet ≡ get_or xs i 0)
      → place + width ws ≤ length sheet → bytes_in ws xs ≡ take (width ws) (drop place sheet)
  unfolding bytes_in zip_with flatten
  fields-written [] xs place e f l = refl
  fields-written (w ∷ ws) [] place e f l = absurd (omega arith)
  fields-written (w ∷ ws) (x ∷ xs) place e f l =
      let first : number_at place w sheet ≡ x = ap (λ (n : ℕ). number_at n w sheet) (sym (add-zero place)) ∙ f 0 (omega arith) in
      ap₂ (λ (a b : List ℕ). a ++ b) (ap (bytes_of w) (sym first) ∙ bytes-number sheet h place w (omega arith))
      (fields-written ws xs (place + w) (omega arith) others (omega arith) ∙ ap (take (width ws)) (sym (drop-drop w place sheet)))
      ∙ sym (take-add w (width ws) (drop place sheet))
    where
      others : (i : ℕ) → i < length ws → number_at (place + w + width (take i ws)) (get_or ws i 0) sheet ≡ get_or xs i 0
      others i b = ap (λ (n : ℕ). number_at n (get_or ws i 0) sheet) (add_assoc place w (width (take i ws))) ∙ f (suc i) (omega (arith, b))

-- ---- the sheet

-- every number fits its field, the key reads back, the length is whole in its field's unit, and there are as many pages as it and the page
-- size ask
pub record Fits (x : Contents) : Type 0 where
  pub fields : Fit (field_widths (layout_of x.version)) (head_of x)
  pub key : key_from (layout_of x.version).paired (key_number (layout_of x.version).paired x.key) ≡ x.key
  pub pages : All (λ f. f < 2 ^ (8 * fingerprint_width)) x.pages
  pub fingerprint : x.fingerprint < 2 ^ (8 * fingerprint_width)
  pub whole : x.length % (layout_of x.version).length_unit ≡ 0
  pub count : lib.ListN.length x.pages ≡ pages_for x.page_size x.length

module _ (x : Contents) where
  abbrev v : Layout
  v = layout_of x.version

  abbrev head : List ℕ
  head = bytes_in (field_widths v) (head_of x)

  abbrev pages : List ℕ
  pages = fields_of fingerprint_width x.pages

  abbrev last : List ℕ
  last = bytes_of fingerprint_width x.fingerprint

  pub length-head : length (bytes_in (field_widths (layout_of x.version)) (head_of x)) ≡ width (field_widths (layout_of x.version))
  length-head = length_fields (field_widths v) (head_of x) (ap (λ (n : ℕ). suc (suc n)) (three_wide x.version))

  length_front : length (head ++ pages) ≡ page_place v (length x.pages)
  length_front = length-append head pages ∙ rw (length-head, length-fields_of)

  pub length-sheet : length (sheet_bytes x) ≡ sheet_length (layout_of x.version) (length x.pages)
  unfolding sheet_bytes
  length-sheet = length-append (head ++ pages) last ∙ rw (length_front, length-bytes_of)

  module _ (fits : Fits x) where
    pub field_back : (i : ℕ) → i < length (field_widths (layout_of x.version)) → field_in (layout_of x.version) i (sheet_bytes x) ≡ get_or (head_of x) i 0
    unfolding sheet_bytes
    field_back i l = rw append_assoc (field-read (field_widths v) (head_of x) i (pages ++ last) l fits.fields)

    pages-back : numbers_at (page_place v 0) fingerprint_width (length x.pages) (sheet_bytes x) ≡ x.pages
    unfolding sheet_bytes
    pages-back =
        rw append_assoc (numbers_seam x.pages head last (page_place v 0) fingerprint_width (length-head ∙ place-first v) fits.pages)

    pub fingerprint-back : number_at (page_place (layout_of x.version) (length x.pages)) fingerprint_width (sheet_bytes x)
        ≡ x.fingerprint
    unfolding sheet_bytes
    fingerprint-back =
        ap (λ (l : List ℕ). number_at (page_place v (length x.pages)) fingerprint_width (head ++ pages ++ l)) (sym (append-nil last))
        ∙ number_seam (head ++ pages) [] (page_place v (length x.pages)) fingerprint_width x.fingerprint length_front fits.fingerprint

    -- the version stands in the same place in every version
    pub version-back : version_in (sheet_bytes x) ≡ x.version
    version-back = field_back 1 (omega arith)

    -- the length in bits
    pub length_back : length (layout_of x.version).widths ≡ 3 → length_in (layout_of x.version) (sheet_bytes x) ≡ x.length
    length_back three =
        ap (λ (n : ℕ). v.length_unit * n) (field_back 3 (omega arith))
        ∙ omega (arith, div-add-mod' x.length v.length_unit, mul_comm v.length_unit (x.length / v.length_unit), fits.whole)

    -- what is written reads back
    pub read_back : length (layout_of x.version).widths ≡ 3 → contents_in (sheet_bytes x) ≡ x
    unfolding contents_in
    read_back three =
        rw version-back
        (contents-eq refl (ap (key_from v.paired) (field_back 2 (omega arith)) ∙ fits.key) (length_back three) (field_back 4 (omega arith))
        (ap (λ (c : ℕ). numbers_at (page_place v 0) fingerprint_width c (sheet_bytes x)) count ∙ pages-back)
        (ap (λ (c : ℕ). number_at (page_place v c) fingerprint_width (sheet_bytes x)) count ∙ fingerprint-back))
      where
        count : pages_in (layout_of x.version) (sheet_bytes x) ≡ length x.pages
        count = ap₂ (λ (s n : ℕ). pages_for s n) (field_back 4 (omega arith)) (length_back three) ∙ sym fits.count

-- bytes with the letters and a key's number, as many as the length and the page size ask by their version's layout, are those of the numbers in them
module _ (sheet : List ℕ) (h : Bytes sheet) (three : length (layout_of (version_in sheet)).widths ≡ 3)
    (some : 0 < (layout_of (version_in sheet)).length_unit)
    (total : length sheet ≡ sheet_length (layout_of (version_in sheet)) (pages_in (layout_of (version_in sheet)) sheet))
    (right : field_in (layout_of (version_in sheet)) 0 sheet ≡ letters)
    (key : key_number (layout_of (version_in sheet)).paired (key_in (layout_of (version_in sheet)) sheet) ≡ field_in (layout_of (version_in sheet)) 2 sheet)
  where
    abbrev w : Layout
    w = layout_of (version_in sheet)

    agree : (i : ℕ) → i < length (field_widths w) → field_in w i sheet ≡ get_or (head_of (contents_in sheet)) i 0
    unfolding contents_in
    agree zero l = right
    agree (suc zero) l = refl
    agree (suc (suc zero)) l = sym key
    agree (suc (suc (suc zero))) l =
        sym (ap (λ (n : ℕ). n / w.length_unit) (mul_comm w.length_unit (field_in w 3 sheet)) ∙ mul-div_cancel (field_in w 3 sheet) some)
    agree (suc (suc (suc (suc zero)))) l = refl
    agree (suc (suc (suc (suc (suc i))))) l = absurd (omega (arith, three, l))

    pub write_back : sheet_bytes (contents_in sheet) ≡ sheet
    unfolding sheet_bytes contents_in
    write_back =
        let f = fingerprint_width in
        let c = pages_in w sheet in
        let p = width (field_widths w) in
        let start : page_place w 0 ≡ p = sym (place-first w) in
        ap₂ (λ (a b : List ℕ). a ++ b)
        (ap₂ (λ (a b : List ℕ). a ++ b)
        (fields-written sheet h (field_widths w) (head_of (contents_in sheet)) 0 (ap (λ (n : ℕ). suc (suc n)) three) (λ i l. rw zero-add (agree i l))
        (omega (arith, total)))
        (fields-numbers sheet h c (page_place w 0) f (omega (arith, start, total)) ∙ ap (λ (n : ℕ). take (f * c) (drop n sheet)) start)
        ∙ sym (take-add p (f * c) sheet))
        (bytes-number sheet h (page_place w c) f (omega (arith, total)))
        ∙ sym (take-add (page_place w c) f sheet)
        ∙ take_all (sheet_length w c) sheet (omega (arith, total))
