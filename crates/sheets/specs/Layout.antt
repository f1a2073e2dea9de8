-- The bytes of a page sheet (document 01, "Page sheets"; version 2: document 02, wish 1; version 3: wish 7; version 4: wish 8). A version of
-- the layout is a list of widths, for writing and reading alike, how it holds the key, what its length field counts, and how the last page is
-- taken.
use Rattle.std.specs.Prelude.{Bool, true, false, cond, ◌||◌, List, [], ◌∷◌, ◌++◌, ℕ, ◌+◌, ◌-◌, ◌*◌, ◌/◌, ◌%◌, ◌^◌, eqb, get_or, take}
use Rattle.acceptance.specs.declared.Key.{Key}
use Rattle.acceptance.specs.Keys.{polynomial_of, key_of}
use Rattle.files.specs.Files.{bytes_for}
use Rattle.big_endian.specs.Numbers.{bytes_of, fields_of, number_at, numbers_at, bytes_in}

-- ---- in every sheet, whatever its version: the letters GFP, which are the bytes 47 46 50, the version's number, and the fingerprints' width

abbrev pub letters : ℕ
letters = 0x474650

abbrev pub letters_width : ℕ
letters_width = 3

abbrev pub version_width : ℕ
version_width = 2

abbrev pub version_in : List ℕ → ℕ
version_in sheet = number_at letters_width version_width sheet

-- the bytes of each page's fingerprint and of the file's
abbrev pub fingerprint_width : ℕ
fingerprint_width = 8

-- ---- a version: its number, the widths of its fields, how it holds the key, what its length field counts, and how the last page is taken

pub record Layout : Type 0 where
  pub version : ℕ
  -- of the key, the length and the page size
  pub widths : List ℕ
  -- the key is held as a byte of its degree and its word in 8 bytes; else as the number of its polynomial
  pub paired : Bool
  -- the bits that the length field counts as one: 8 where it is in bytes
  pub length_unit : ℕ
  -- a last page shorter than the page size is taken as filled up with zeros
  pub filled : Bool

abbrev pub version1 : Layout
version1 = record { version = 1; widths = 8 ∷ 4 ∷ 2 ∷ []; paired = false; length_unit = 8; filled = true }

abbrev pub version2 : Layout
version2 = record { version = 2; widths = 8 ∷ 4 ∷ 2 ∷ []; paired = false; length_unit = 8; filled = false }

abbrev pub version3 : Layout
version3 = record { version = 3; widths = 8 ∷ 8 ∷ 2 ∷ []; paired = false; length_unit = 1; filled = false }

abbrev pub version4 : Layout
version4 = record { version = 4; widths = 9 ∷ 8 ∷ 2 ∷ []; paired = true; length_unit = 1; filled = false }

-- sheets are written in this layout,
abbrev pub newest : Layout
newest = version4

-- and read in these
abbrev pub layouts : List Layout
layouts = version4 ∷ version3 ∷ version2 ∷ version1 ∷ []

-- a layout of the list has the version
unfoldable pub known : List Layout → ℕ → Bool
known [] n = false
known (v ∷ vs) n = eqb v.version n || known vs n

-- that layout; the newest where there is none
unfoldable pub layout_among : List Layout → ℕ → Layout
layout_among [] n = newest
layout_among (v ∷ vs) n = cond (eqb v.version n) v (layout_among vs n)

abbrev pub layout_of : ℕ → Layout
layout_of n = layout_among layouts n

abbrev pub width : List ℕ → ℕ
width [] = 0
width (w ∷ ws) = w + width ws

-- the widths of all fields in front of the fingerprints
abbrev pub field_widths : Layout → List ℕ
field_widths v = letters_width ∷ version_width ∷ v.widths

abbrev pub page_place : Layout → ℕ → ℕ
page_place v i = width (field_widths v) + fingerprint_width * i

-- of a sheet with c pages: 27 + 8c in versions 1 and 2, 31 + 8c in version 3, 32 + 8c in version 4
abbrev pub sheet_length : Layout → ℕ → ℕ
sheet_length v c = page_place v c + fingerprint_width

-- n / d, rounded up
abbrev pub page_count : ℕ → ℕ → ℕ
page_count d n = (n + d - 1) / d

-- c, of a file of n bits in pages of `size` bytes: "c counts an unfinished byte as one"
abbrev pub pages_for : ℕ → ℕ → ℕ
pages_for size n = page_count size (bytes_for n)

-- ---- the key in its field, as the number there: a pair's is the degree's byte in front of the word's eight

unfoldable pub key_number : Bool → Key → ℕ
key_number true x = x.degree * 2 ^ 64 + x.word
key_number false x = polynomial_of x

-- the key in a field that holds the number n
unfoldable pub key_from : Bool → ℕ → Key
key_from true n = record { degree = n / 2 ^ 64; word = n % 2 ^ 64 }
key_from false n = key_of n

-- ---- the numbers in a sheet, and its bytes

-- the length is in bits, the page size in bytes
pub record Contents : Type 0 where
  pub version : ℕ
  pub key : Key
  pub length : ℕ
  pub page_size : ℕ
  pub pages : List ℕ
  pub fingerprint : ℕ

-- the numbers in front of the fingerprints, in the order of the fields
abbrev pub head_of : Contents → List ℕ
head_of x =
    let v = layout_of x.version in
    letters ∷ x.version ∷ key_number v.paired x.key ∷ x.length / v.length_unit ∷ x.page_size ∷ []

unfoldable pub sheet_bytes : Contents → List ℕ
sheet_bytes x =
    let v = layout_of x.version in
    bytes_in (field_widths v) (head_of x) ++ fields_of fingerprint_width x.pages ++ bytes_of fingerprint_width x.fingerprint

-- ---- the numbers as they stand in given bytes, with as many pages as the length and the page size ask

-- the number in field i: 0 the letters, 1 the version, 2 the key, 3 the length, 4 the page size
abbrev pub field_in : Layout → ℕ → List ℕ → ℕ
field_in v i sheet = number_at (width (take i (field_widths v))) (get_or (field_widths v) i 0) sheet

abbrev pub key_in : Layout → List ℕ → Key
key_in v sheet = key_from v.paired (field_in v 2 sheet)

-- the file's length in bits
abbrev pub length_in : Layout → List ℕ → ℕ
length_in v sheet = v.length_unit * field_in v 3 sheet

-- the page size in bytes
abbrev pub size_in : Layout → List ℕ → ℕ
size_in v sheet = field_in v 4 sheet

abbrev pub pages_in : Layout → List ℕ → ℕ
pages_in v sheet = pages_for (size_in v sheet) (length_in v sheet)

unfoldable pub contents_in : List ℕ → Contents
contents_in sheet =
    let v = layout_of (version_in sheet) in
    record {
      version = version_in sheet;
      key = key_in v sheet;
      length = length_in v sheet;
      page_size = size_in v sheet;
      pages = numbers_at (page_place v 0) fingerprint_width (pages_in v sheet) sheet;
      fingerprint = number_at (page_place v (pages_in v sheet)) fingerprint_width sheet;
    }
