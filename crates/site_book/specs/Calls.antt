-- "The lowest number that applies" (document 01, "Who can cause a refusal"), for each call that the Site level adds and whatever is
-- handed in: its numbers, its tests, and the call. docs/API.md has the same numbers. Reading and checking a sheet give the first of
-- their numbers that applies, in the order of document 01, "Page sheets".
use Rattle.std.specs.Prelude.{◌≡◌, List, [], ◌∷◌, ◌++◌, ℕ, ◌*◌}
use Rattle.refusals.specs.Lowest.{GivesLowest, GivesFirst}
use Rattle.acceptance.specs.declared.Key.{Key}
use Rattle.acceptance.specs.Keys.{polynomial_of, key_of, key_tests}
use Rattle.files.specs.declared.Mark.{Mark}
use Rattle.files.specs.Files.{Part}
use Rattle.compose.specs.Composing.{join_tests, join_behind, join_in_front, page_tests, replace_page}
use Rattle.compose.specs.PlainMarks.{join_plain_behind, join_plain_in_front}
use Rattle.search.specs.Searching.{search_tests, search}
use Rattle.sheets.specs.Layout.{layouts}
use Rattle.sheets.specs.Sheets.{length_tests, length_for, write_tests, write_sheet, read_tests, read_sheet, read_pages, check_tests, check_sheet}
use Rattle.site_book.specs.Book.{Behind, InFront, step}

-- of marks
pub record EachMarkCall (x : Key) (m other : Mark) (place : ℕ) (old new : Part) : Type 0 where
  pub join-behind : GivesLowest (1 ∷ 2 ∷ 7 ∷ 8 ∷ []) (join_tests x m other) (join_behind x m other)
  pub join-in-front : GivesLowest (1 ∷ 2 ∷ 7 ∷ 8 ∷ []) (join_tests x m other) (join_in_front x m other)
  pub join-plain-behind : GivesLowest (1 ∷ 2 ∷ 7 ∷ 8 ∷ []) (join_tests x m other) (join_plain_behind x m other)
  pub join-plain-in-front : GivesLowest (1 ∷ 2 ∷ 7 ∷ 8 ∷ []) (join_tests x m other) (join_plain_in_front x m other)
  pub replace-page : GivesLowest (1 ∷ 2 ∷ 7 ∷ 8 ∷ 9 ∷ 10 ∷ 19 ∷ []) (key_tests x ++ page_tests (polynomial_of x) m place old new)
      (replace_page x m place old new)

-- of files and sheets
pub record EachFileCall (x : Key) (n s : ℕ) (file : Part) (text pattern sheet buffer words : List ℕ) : Type 0 where
  pub find : GivesLowest (1 ∷ 2 ∷ 7 ∷ 11 ∷ []) (search_tests x text pattern) (search x text pattern)
  pub sheet-length : GivesLowest (7 ∷ 12 ∷ []) (length_tests (8 * n) s) (length_for n s)
  pub write-sheet : GivesLowest (1 ∷ 2 ∷ 7 ∷ 12 ∷ 13 ∷ 19 ∷ []) (write_tests x s file buffer) (write_sheet x s file buffer)
  pub read-sheet : GivesFirst (14 ∷ 1 ∷ 2 ∷ 12 ∷ 14 ∷ []) (read_tests layouts sheet) (read_sheet sheet)
  pub read-pages : GivesFirst (14 ∷ 1 ∷ 2 ∷ 12 ∷ 14 ∷ []) (read_tests layouts sheet) (read_pages sheet words)
  pub check_file : GivesFirst (14 ∷ 1 ∷ 2 ∷ 12 ∷ 14 ∷ 7 ∷ 19 ∷ []) (check_tests sheet file) (check_sheet sheet file)

-- whatever is handed in
abbrev pub MarkCallsLowest : Type 0
MarkCallsLowest = (x : Key) (m other : Mark) (place : ℕ) (old new : Part) → EachMarkCall x m other place old new

abbrev pub FileCallsLowest : Type 0
FileCallsLowest = (x : Key) (n s : ℕ) (file : Part) (text pattern sheet buffer words : List ℕ) → EachFileCall x n s file text pattern sheet buffer words

-- a list's steps that join are the calls: those of marks at the start 1, those of plain marks at the start 0
abbrev pub StepsAreCalls : Type 0
StepsAreCalls =
    (key : ℕ) (m other : Mark) (its : List ℕ)
    → (step 1 key m (Behind other its) ≡ join_behind (key_of key) m other)
    × (step 1 key m (InFront other its) ≡ join_in_front (key_of key) m other)
    × (step 0 key m (Behind other its) ≡ join_plain_behind (key_of key) m other)
    × (step 0 key m (InFront other its) ≡ join_plain_in_front (key_of key) m other)
