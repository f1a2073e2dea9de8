-- The plain book (document 01, "The plain book of demand 3") at the Site level: the Bench level's feeding, joining and page change,
-- and the routes to a file's fingerprint.
use Rattle.std.specs.Prelude.{◌≡◌, ◌||◌, not, List, [], ◌∷◌, ◌++◌, map, ℕ, ◌+◌, ◌*◌, ◌<◌, ltb, eqb, length, get_or, take, drop}
use Rattle.refusals.specs.declared.Refusal.TheVariants.{TooLong, MarkNotReduced, PageLengthsDiffer, PagePastEnd, FinalByte}
use Rattle.refusals.specs.Refusals.{Answer, Done, Test, ◌⇒◌, passes}
use Rattle.acceptance.specs.Keys.{key_of, key_tests}
use Rattle.files.specs.declared.Mark.{Mark}
use Rattle.files.specs.Files.{mark_from, TrueFrom, Bytes, unreduced, Part, part_length, part_bits, misused}
use Rattle.mark_tests.specs.MarkTests.{sum_test}
use Rattle.compose.specs.Composing.{join_behind_from, join_in_front_from, replace_page}
use Rattle.big_endian.specs.Numbers.{number_at}
use Rattle.sheets.specs.Layout.{fingerprint_width, Layout, newest, layout_of, page_place, pages_for, Contents}
use Rattle.sheets.specs.Sheets.{page_of, write_sheet, read_sheet, read_pages, pages_now}
use Rattle.book.specs.Runs.{Level, run, Leaves}
use Rattle.fed_parts.specs.Parts as feeds
use Rattle.bench_book.specs.Book as BenchLevel

-- "A joined mark, in a call not refused, comes with a file of which it is true."
pub data Call : Type 0 where
  Feeding : feeds.Feed → Call
  Behind InFront : (other : Mark) (its : List ℕ) → Call
  Page : (place : ℕ) (old new : Part) → Call

-- the start s is that of every mark handed in
unfoldable pub step : ℕ → ℕ → Mark → Call → Answer Mark Mark
step s key m (Feeding c) = feeds.step key m c
step s key m (Behind other its) = join_behind_from s (key_of key) m other
step s key m (InFront other its) = join_in_front_from s (key_of key) m other
step s key m (Page place old new) = replace_page (key_of key) m place old new

-- The numbers that can apply, n being the length of the book's file in bits. The mark carried along is true of the file, so that number 8
-- is judged of a joined mark alone.
unfoldable pub book_tests : ℕ → ℕ → Call → List Test
book_tests key n (Feeding c) = BenchLevel.book_tests key n c
book_tests key n (Behind other its) = key_tests (key_of key) ++ sum_test n other.length ∷ unreduced key other ⇒ MarkNotReduced ∷ []
book_tests key n (InFront other its) = key_tests (key_of key) ++ sum_test n other.length ∷ unreduced key other ⇒ MarkNotReduced ∷ []
book_tests key n (Page place old new) =
    key_tests (key_of key)
    ++ passes (n ∷ part_length old ∷ part_length new ∷ []) ⇒ TooLong
    ∷ not (eqb (part_length old) (part_length new)) ⇒ PageLengthsDiffer
    ∷ ltb n (8 * place + part_length old) ⇒ PagePastEnd
    ∷ (misused old || misused new) ⇒ FinalByte
    ∷ []

-- "Joining: the other mark's file goes behind, or in front where the other mark comes first."
-- "Page change: the new page stands where the old one stood", from the byte at the place on.
unfoldable pub written : List ℕ → Call → List ℕ
written file (Feeding c) = BenchLevel.written file c
written file (Behind other its) = file ++ its
written file (InFront other its) = its ++ file
written file (Page place old new) = take (8 * place) file ++ part_bits new ++ drop (8 * place + part_length old) file

-- "Old bytes are true when the book's file has them at the given place": their used bits.
abbrev pub Brings : ℕ → ℕ → List ℕ → Call → Type 0
Brings s key file (Feeding c) = BenchLevel.Brings key file c
Brings s key file (Behind other its) = TrueFrom s key its other
Brings s key file (InFront other its) = TrueFrom s key its other
Brings s key file (Page place old new) = take (part_length old) (drop (8 * place) file) ≡ part_bits old

abbrev pub site_from : ℕ → Level
site_from s =
    record { Kept = List ℕ; size = length; State = Mark; truth = mark_from s; Call = Call; step = step s; tests = book_tests; written = written; Brings = Brings s }

abbrev pub site : Level
site = site_from 1

-- ---- the routes

-- page i of a file, of `size` bytes, as a version takes it
abbrev pub page_in : Layout → ℕ → List ℕ → ℕ → List ℕ
page_in v size file i = page_of v (8 * size) (take (8 * size) (drop (i * (8 * size)) file))

-- the fingerprint in field i of a written sheet: page i's, and the file's behind the last page's
abbrev pub field_at : List ℕ → ℕ → ℕ
field_at sheet i = number_at (page_place newest i) fingerprint_width sheet

-- a sheet under the key that reads as the numbers x, with the fingerprints of the file's pages
pub record TruePages (key : ℕ) (file sheet : List ℕ) (x : Contents) : Type 0 where
  pub bytes : Bytes sheet
  pub read : read_sheet sheet ≡ Done x
  pub same_key : x.key ≡ key_of key
  pub same_length : x.length ≡ length file
  pub same-pages : x.pages ≡ pages_now x file

-- The routes: the Bench level's, a list of this level's calls, and "any other call of ours that gives a file's fingerprint [..] from
-- its contents or from true marks and old bytes [..], as the writing of a sheet does with its last field".
pub data Route (key : ℕ) (file : List ℕ) (f : ℕ) : Type 0 where
  OfBench : BenchLevel.Route key file f → Route key file f
  ByCalls : (m : Mark) → Leaves site key file m → m.fingerprint ≡ f → Route key file f
  -- the last field of a written sheet
  InSheet : (size : ℕ) (part : Part) (buffer after : List ℕ) → write_sheet (key_of key) size part buffer ≡ Done after → part_bits part ≡ file
      → field_at after (pages_for size (length file)) ≡ f → Route key file f
  -- the field of a page of a written sheet: the file is that page
  InPageField : (size i : ℕ) (part : Part) (buffer after : List ℕ) → write_sheet (key_of key) size part buffer ≡ Done after
      → i < pages_for size (length (part_bits part)) → file ≡ page_in newest size (part_bits part) i → field_at after i ≡ f → Route key file f
  -- what reading gives of a sheet with true page fingerprints: the file's fingerprint,
  ByReading : (sheet : List ℕ) (x : Contents) → TruePages key file sheet x → x.fingerprint ≡ f → Route key file f
  -- and a page's, in a lent word
  ByReadingPages : (whole sheet words after : List ℕ) (x : Contents) (i : ℕ) → TruePages key whole sheet x → read_pages sheet words ≡ Done after
      → i < length x.pages → i < length words
      → file ≡ page_in (layout_of x.version) x.page_size whole i → get_or after i 0 ≡ f → Route key file f

-- ---- claims

-- the Bench level's lists are lists of this level, whatever the start
abbrev pub BenchLists : Type 0
BenchLists = (s key : ℕ) (m : Mark) (calls : List feeds.Feed) → run (step s key) m (map Feeding calls) ≡ run (feeds.step key) m calls
