-- Writing, reading and checking a page sheet (document 01, "Page sheets"; document 02, wishes 1, 7 and 8): each call is its tests, in document
-- 01's order, and its value. A file is its list of bits; it is handed in as a part.
use Rattle.std.specs.Prelude.{Bool, false, ◌||◌, not, cond, List, [], ◌∷◌, ◌++◌, ℕ, zero, suc, ◌-◌, ◌*◌, ◌^◌, min, ltb, leb, eqb, length, take, drop, replicate}
use Rattle.lists.specs.Lists.{overlay}
use Rattle.gf2.specs.Polynomials.{degree, rem}
use Rattle.refusals.specs.declared.Refusal.TheVariants.{TooLong, PageSize, BufferShort, SheetMalformed, FinalByte}
use Rattle.refusals.specs.Refusals.{Answer, Test, ◌⇒◌, first_of, longest, passes}
use Rattle.acceptance.specs.declared.Key.{Key}
use Rattle.acceptance.specs.Keys.{polynomial_of, key_tests}
use Rattle.files.specs.declared.Mark.{Mark}
use Rattle.files.specs.Files.{fingerprint, mark_of, Part, part_length, part_bits, misused, joined}
use Rattle.big_endian.specs.Numbers.{number_at}
use Rattle.sheets.specs.Layout.{letters, letters_width, version_in, Layout, newest, layouts, known, layout_of}
use Rattle.sheets.specs.Layout.{sheet_length, page_count, pages_for, Contents, sheet_bytes, length_in, contents_in}

-- ---- the pages of a file, of `pageBits` bits each or what the file has left

-- a page shorter than that, filled up with zeros
unfoldable pub filled : ℕ → List ℕ → List ℕ
filled pageBits page = page ++ replicate (pageBits - length page) 0

-- a page as its fingerprint takes it
abbrev pub page_of : Layout → ℕ → List ℕ → List ℕ
page_of v pageBits page = cond v.filled (filled pageBits page) page

-- the fingerprints of the first c pages
unfoldable pub page_fingerprints : Layout → ℕ → ℕ → ℕ → List ℕ → List ℕ
page_fingerprints v key pageBits zero file = []
page_fingerprints v key pageBits (suc c) file = fingerprint key (page_of v pageBits (take pageBits file)) ∷ page_fingerprints v key pageBits c (drop pageBits file)

-- with pages of `size` bytes
unfoldable pub contents_of : ℕ → Key → ℕ → List ℕ → Contents
contents_of version x size file =
    let key = polynomial_of x in
    let pages = page_fingerprints (layout_of version) key (8 * size) (pages_for size (length file)) file in
    record { version = version; key = x; length = length file; page_size = size; pages = pages; fingerprint = fingerprint key file }

-- ---- writing: numbers 1, 2, 7, 12, 13, 19

-- number 12
abbrev pub page_size_test : ℕ → Test
page_size_test size = (ltb size 16 || ltb 4096 size) ⇒ PageSize

abbrev pub length_tests : ℕ → ℕ → List Test
length_tests n size = passes (n ∷ []) ⇒ TooLong ∷ page_size_test size ∷ []

-- the bytes of the sheet of a file of n bytes, an unfinished one counted: numbers 7, 12
unfoldable pub length_for : ℕ → ℕ → Answer Unit ℕ
length_for n size = first_of (length_tests (8 * n) size) tt (sheet_length newest (page_count size n))

abbrev pub write_tests : Key → ℕ → Part → List ℕ → List Test
write_tests x size file buffer =
    key_tests x
    ++ length_tests (part_length file) size
    ++ ltb (length buffer) (sheet_length newest (page_count size (length file.bytes))) ⇒ BufferShort
    ∷ misused file ⇒ FinalByte
    ∷ []

-- what the lent buffer holds after the call
unfoldable pub write_sheet : Key → ℕ → Part → List ℕ → Answer (List ℕ) (List ℕ)
write_sheet x size file buffer =
    first_of (write_tests x size file buffer) buffer
    (overlay (sheet_bytes (contents_of newest.version x size (part_bits file))) buffer)

-- ---- reading: number 14 for size, letters, version, the version's least size and the limit of lengths; 1, 2, 12; then the rest of 14

-- how long a page counts, with `left` bits of the file from it on
abbrev pub page_length : Layout → ℕ → ℕ → ℕ
page_length v pageBits left = cond v.filled pageBits (min pageBits left)

-- the marks of pages joined behind a mark, each with its own length, without the limit of number 7
unfoldable pub joined_pages : Layout → ℕ → ℕ → ℕ → Mark → List ℕ → Mark
joined_pages v key pageBits left m [] = m
joined_pages v key pageBits left m (f ∷ fs) =
    joined_pages v key pageBits (left - pageBits) (joined key m (record { fingerprint = f; length = page_length v pageBits left })) fs

-- a fingerprint is not below 2^k
unfoldable pub some_unreduced : ℕ → List ℕ → Bool
some_unreduced k [] = false
some_unreduced k (f ∷ fs) = leb (2 ^ k) f || some_unreduced k fs

-- the pages joined: no pages give the mark of no bits
abbrev pub pages_joined : Contents → Mark
pages_joined x =
    let key = polynomial_of x.key in
    joined_pages (layout_of x.version) key (8 * x.page_size) x.length (mark_of key []) x.pages

-- the file's fingerprint with zeros behind it, as many as the pages are longer than the file: none where they are not filled up
abbrev pub file_filled : Contents → ℕ
file_filled x = rem (polynomial_of x.key) (x.fingerprint * 2 ^ ((pages_joined x).length - x.length))

-- number 14, first: size, letters, version. The 27 bytes are document 01's, for every version. Then "a sheet shorter than its version's
-- total without pages, or a length field past the limit".
abbrev pub head_wrong : List Layout → List ℕ → Bool
head_wrong vs sheet =
    let v = layout_of (version_in sheet) in
    ltb (length sheet) 27
    || not (eqb (number_at 0 letters_width sheet) letters)
    || not (known vs (version_in sheet))
    || ltb (length sheet) (sheet_length v 0)
    || ltb longest (length_in v sheet)

-- number 14, last: total, fields, joining
abbrev pub body_wrong : ℕ → Contents → Bool
body_wrong total x =
    not (eqb total (sheet_length (layout_of x.version) (length x.pages)))
    || some_unreduced (degree (polynomial_of x.key)) (x.pages ++ x.fingerprint ∷ [])
    || not (eqb (pages_joined x).fingerprint (file_filled x))

-- of a reader that knows the layouts of a list
abbrev pub read_tests : List Layout → List ℕ → List Test
read_tests vs sheet =
    let x = contents_in sheet in
    head_wrong vs sheet ⇒ SheetMalformed
    ∷ key_tests x.key
    ++ page_size_test x.page_size
    ∷ body_wrong (length sheet) x ⇒ SheetMalformed
    ∷ []

unfoldable pub read_sheet : List ℕ → Answer Unit Contents
read_sheet sheet = first_of (read_tests layouts sheet) tt (contents_in sheet)

-- the page fingerprints into lent places
unfoldable pub read_pages : List ℕ → List ℕ → Answer (List ℕ) (List ℕ)
read_pages sheet lent = first_of (read_tests layouts sheet) lent (overlay (contents_in sheet).pages lent)

-- ---- checking a file: all of reading, then 7, then 19

pub data Outcome : Type 0 where
  Same OtherLength : Outcome
  Page : ℕ → Outcome

-- the first place where two lists of fingerprints differ, counted from i
unfoldable pub first_change : ℕ → List ℕ → List ℕ → Outcome
first_change i [] gs = Same
first_change i (f ∷ fs) [] = Same
first_change i (f ∷ fs) (g ∷ gs) = cond (eqb f g) (first_change (suc i) fs gs) (Page i)

-- the fingerprints of a file's pages, by the sheet's version, key and page size
abbrev pub pages_now : Contents → List ℕ → List ℕ
pages_now x file = (contents_of x.version x.key x.page_size file).pages

unfoldable pub compared : Contents → List ℕ → Outcome
compared x file = cond (eqb (length file) x.length) (first_change 0 x.pages (pages_now x file)) OtherLength

abbrev pub check_tests : List ℕ → Part → List Test
check_tests sheet file = read_tests layouts sheet ++ passes (part_length file ∷ []) ⇒ TooLong ∷ misused file ⇒ FinalByte ∷ []

unfoldable pub check_sheet : List ℕ → Part → Answer Unit Outcome
check_sheet sheet file = first_of (check_tests sheet file) tt (compared (contents_in sheet) (part_bits file))
