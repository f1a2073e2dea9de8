-- What the calls on sheets promise together: what is written reads back, which bytes are read, what the page marks joined give, what a
-- check's answer means, and that a change inside k neighbouring bits is found.
use Rattle.std.specs.Prelude.{◌≡◌, ◌≢◌, ◌↔◌, true, false, cond, List, [], ◌∷◌, ◌++◌, ℕ, ◌-◌, ◌*◌, ◌%◌, ◌^◌, ◌≤◌, ◌<◌}
use lib.ListN.{length, get_or, take, drop}
use Rattle.lists.specs.Lists.{All, overlay}
use Rattle.gf2.specs.Polynomials.{degree, rem}
use Rattle.refusals.specs.declared.Refusal.TheVariants.{SheetMalformed}
use Rattle.refusals.specs.Refusals.{Answer, Done, Refused, first_of, longest}
use Rattle.acceptance.specs.declared.Key.{Key}
use Rattle.acceptance.specs.Keys.{accepted, polynomial_of, key_of, outside}
use Rattle.files.specs.Files.{Bits, Bytes, fingerprint, mark_of, Part, part_bits, misused}
use Rattle.files.specs.Bursts.{Burst}
use Rattle.big_endian.specs.Numbers.{bytes_of, number_at}
use Rattle.sheets.specs.Layout.{version_in, Layout, version1, version2, version3, version4, newest, layouts, known, layout_of}
use Rattle.sheets.specs.Layout.{page_place, sheet_length, pages_for, key_number, Contents, sheet_bytes, contents_in}
use Rattle.sheets.specs.Sheets.{contents_of, pages_joined, file_filled, write_sheet, read_tests, read_sheet, read_pages, Same, Page, OtherLength}
use Rattle.sheets.specs.Sheets.{pages_now, compared, check_sheet}

-- ---- the key in its field

-- version 4 holds a key as a byte of its degree and its word in 8 bytes
abbrev pub PairHeld : Type 0
PairHeld = (x : Key) → x.word < 2 ^ 64 → bytes_of 9 (key_number version4.paired x) ≡ bytes_of 1 x.degree ++ bytes_of 8 x.word

-- the highest degree that the field of a version has room for
abbrev pub highest : Layout → ℕ
highest v = cond v.paired 64 63

-- ---- which bytes are a sheet

-- numbers of which no test of reading holds
pub record SoundContents (x : Contents) : Type 0 where
  pub version : known layouts x.version ≡ true
  pub in_range : outside x.key ≡ false
  pub key : accepted (polynomial_of x.key) ≡ true
  pub held : x.key.degree ≤ highest (layout_of x.version)
  pub length : x.length ≤ longest
  pub whole : x.length % (layout_of x.version).length_unit ≡ 0
  pub page_size : (16 ≤ x.page_size) × (x.page_size ≤ 4096)
  pub count : lib.ListN.length x.pages ≡ pages_for x.page_size x.length
  pub pages : All (λ f. f < 2 ^ degree (polynomial_of x.key)) x.pages
  pub fingerprint : x.fingerprint < 2 ^ degree (polynomial_of x.key)
  pub joined : (pages_joined x).fingerprint ≡ file_filled x

-- the bytes of a sheet with such numbers
pub record WellFormed (sheet : List ℕ) : Type 0 where
  pub contents : Contents
  pub sound : SoundContents contents
  pub bytes : sheet ≡ sheet_bytes contents

-- what is read of a sheet is the numbers that it is made of
abbrev pub Reads : Type 0
Reads = (sheet : List ℕ) (w : WellFormed sheet) → read_sheet sheet ≡ Done w.contents

-- bytes are read exactly where they are a sheet
abbrev pub ReadIff : Type 0
ReadIff = (sheet : List ℕ) → Bytes sheet → (read_sheet sheet ≡ Done (contents_in sheet)) ↔ WellFormed sheet

-- a version that is read, with room for a key and for a file's length, and a page size that is not refused
pub record Holds (version key size : ℕ) (file : List ℕ) : Type 0 where
  pub is_known : known layouts version ≡ true
  pub is-accepted : accepted key ≡ true
  pub has_room : degree key ≤ highest (layout_of version)
  pub within : length file ≤ longest
  pub whole : length file % (layout_of version).length_unit ≡ 0
  pub page-size : (16 ≤ size) × (size ≤ 4096)

-- in each version that is read, the sheet of a file reads as that file's numbers: "versions 1 to 3 are read as before"
abbrev pub FileReads : Type 0
FileReads =
    (version key size : ℕ) (file : List ℕ) → Holds version key size file
    → let x = contents_of version (key_of key) size file in read_sheet (sheet_bytes x) ≡ Done x

-- a sheet of another version is refused with 14 by a reader of any list of layouts
abbrev pub OtherVersion : Type 0
OtherVersion =
    (vs : List Layout) (sheet : List ℕ) (x : Contents) → known vs (version_in sheet) ≡ false
    → ◌≡◌ {A = Answer Unit Contents} (first_of (read_tests vs sheet) tt x) (Refused SheetMalformed tt)

-- the page fingerprints of a sheet are given in lent places
abbrev pub PagesGiven : Type 0
PagesGiven = (sheet : List ℕ) (w : WellFormed sheet) (words : List ℕ) → read_pages sheet words ≡ Done (overlay w.contents.pages words)

-- ---- the page marks joined, in each version

-- "The page marks of a sheet, each with its own length, joined, must give the file's fingerprint": those of a file do, where pages are not
-- filled up,
abbrev pub PagesGiveFile : Type 0
PagesGiveFile =
    (version : ℕ) (x : Key) (size : ℕ) (file : List ℕ) → (layout_of version).filled ≡ false → 0 < size
    → pages_joined (contents_of version x size file) ≡ mark_of (polynomial_of x) file

-- "and number 14 reads so": it compares them with the file's fingerprint as it stands there;
abbrev pub OwnCompared : Type 0
OwnCompared =
    (x : Contents) → (layout_of x.version).filled ≡ false → 0 < x.page_size
    → lib.ListN.length x.pages ≡ pages_for x.page_size x.length → x.fingerprint < 2 ^ degree (polynomial_of x.key)
    → file_filled x ≡ x.fingerprint

-- where pages are filled up, with the file's fingerprint times t^(c × 8 × size − n), n being the length in bits, as document 01 has it
abbrev pub FilledCompared : Type 0
FilledCompared =
    (x : Contents) → (layout_of x.version).filled ≡ true
    → file_filled x ≡ rem (polynomial_of x.key) (x.fingerprint * 2 ^ (lib.ListN.length x.pages * (8 * x.page_size) - x.length))

-- ---- writing, then reading

-- what is written reads back: version 4, key, length, page size, every page fingerprint and the file's
abbrev pub WrittenReads : Type 0
WrittenReads =
    (x : Key) (size : ℕ) (file : Part) (buffer after : List ℕ) → write_sheet x size file buffer ≡ Done after
    → read_sheet (take (sheet_length newest (pages_for size (length (part_bits file)))) after) ≡ Done (contents_of newest.version x size (part_bits file))

-- its last field is the file's fingerprint
abbrev pub WrittenFingerprint : Type 0
WrittenFingerprint =
    (x : Key) (size : ℕ) (file : Part) (buffer after : List ℕ) → write_sheet x size file buffer ≡ Done after
    → let c = pages_for size (length (part_bits file)) in
    number_at (page_place newest c) 8 (take (sheet_length newest c) after) ≡ fingerprint (polynomial_of x) (part_bits file)

-- a reader that stops at version 3 refuses it with 14
abbrev pub OlderRefuses : Type 0
OlderRefuses =
    (x : Key) (size : ℕ) (file : Part) (buffer after : List ℕ) (y : Contents) → write_sheet x size file buffer ≡ Done after
    → let sheet = take (sheet_length newest (pages_for size (length (part_bits file)))) after in
    ◌≡◌ {A = Answer Unit Contents} (first_of (read_tests (version3 ∷ version2 ∷ version1 ∷ []) sheet) tt y) (Refused SheetMalformed tt)

-- ---- checking a file against a sheet

abbrev pub Checks : Type 0
Checks =
    (sheet : List ℕ) (w : WellFormed sheet) (file : Part) → length (part_bits file) ≤ longest → misused file ≡ false
    → check_sheet sheet file ≡ Done (compared w.contents (part_bits file))

-- other length where the lengths differ
abbrev pub OtherLengthTold : Type 0
OtherLengthTold = (x : Contents) (file : List ℕ) → length file ≢ x.length → compared x file ≡ OtherLength

-- the lists differ at place i and at no place before it
pub record First (fs gs : List ℕ) (i : ℕ) : Type 0 where
  pub below : i < length fs
  pub differ : get_or fs i 0 ≢ get_or gs i 0
  pub equal : (j : ℕ) → j < i → get_or fs j 0 ≡ get_or gs j 0

-- else the first page whose fingerprint differs
abbrev pub PageIff : Type 0
PageIff =
    (x : Contents) → SoundContents x → (file : List ℕ) → length file ≡ x.length
    → (i : ℕ) → (compared x file ≡ Page i) ↔ First x.pages (pages_now x file) i

-- else same: every page fingerprint is equal
abbrev pub SameIff : Type 0
SameIff =
    (x : Contents) → SoundContents x → (file : List ℕ) → length file ≡ x.length
    → (compared x file ≡ Same) ↔ (x.pages ≡ pages_now x file)

-- where a check says same, the file's fingerprint is the sheet's
abbrev pub SameFingerprint : Type 0
SameFingerprint =
    (sheet : List ℕ) (w : WellFormed sheet) (file : Part) → check_sheet sheet file ≡ Done Same
    → fingerprint (polynomial_of w.contents.key) (part_bits file) ≡ w.contents.fingerprint

-- an unchanged file is told as the same, against its sheet in each version that is read
abbrev pub UnchangedSame : Type 0
UnchangedSame =
    (version key size : ℕ) (file : Part) → Holds version key size (part_bits file) → misused file ≡ false
    → check_sheet (sheet_bytes (contents_of version (key_of key) size (part_bits file))) file ≡ Done Same

-- ---- a change inside k neighbouring bits, against the sheet of a file in each version

-- page i, of `pageBits` bits, is the first that differs in two files
pub record FirstAltered (pageBits : ℕ) (a b : List ℕ) (i : ℕ) : Type 0 where
  pub altered : take pageBits (drop (i * pageBits) a) ≢ take pageBits (drop (i * pageBits) b)
  pub before : (j : ℕ) → j < i → take pageBits (drop (j * pageBits) a) ≡ take pageBits (drop (j * pageBits) b)

-- two different files of one length have such a page
abbrev pub SomeAltered : Type 0
SomeAltered = (pageBits : ℕ) (a b : List ℕ) → 0 < pageBits → length a ≡ length b → a ≢ b → (i : ℕ) × FirstAltered pageBits a b i

-- "A change that keeps the length and lies inside k neighbouring bits is found on the first page that it alters"
abbrev pub BurstFound : Type 0
BurstFound =
    (version key size : ℕ) (a : List ℕ) (b : Part) → Holds version key size a → Bits a → misused b ≡ false
    → Burst (degree key) a (part_bits b) → (i : ℕ) → FirstAltered (8 * size) a (part_bits b) i
    → check_sheet (sheet_bytes (contents_of version (key_of key) size a)) b ≡ Done (Page i)

-- so a file that differs inside k neighbouring bits is never told as the same
abbrev pub NoBurstSame : Type 0
NoBurstSame =
    (version key size : ℕ) (a : List ℕ) (b : Part) → Holds version key size a → Bits a → misused b ≡ false
    → Burst (degree key) a (part_bits b) → a ≢ part_bits b
    → check_sheet (sheet_bytes (contents_of version (key_of key) size a)) b ≡ Done Same → ⊥
