-- Each call gives the lowest number that applies, or the first in document 01's order: the claims of specs/Calls.antt, proved. Each
-- line is the state that comes back on refusal, the value, and that the numbers rise.
use mathlib.Core.Path.{refl}
use mathlib.Core.List.{List}
use Prim.Native.Nat.{ℕ}
use Rattle.lists.specs.Lists.{overlay}
use Rattle.lists.proofs.Lists.{rising}
use Rattle.refusals.proofs.Laws.{gives-lowest, gives-first}
use Rattle.acceptance.specs.declared.Key.{Key}
use Rattle.acceptance.specs.Keys.{polynomial_of}
use Rattle.files.specs.declared.Mark.{Mark}
use Rattle.files.specs.Files.{Part, part_bits, joined, replaced}
use Rattle.files.specs.PlainMarks.{plain_joined}
use Rattle.compose.specs.Composing.{join_behind_from, join_in_front_from, replace_page}
use Rattle.search.specs.Searching.{counts, search}
use Rattle.sheets.specs.Layout.{newest, sheet_length, page_count, sheet_bytes, contents_in}
use Rattle.sheets.specs.Sheets.{contents_of, length_for, write_sheet, read_sheet, read_pages, compared, check_sheet}
use Rattle.site_book.specs.Calls.{MarkCallsLowest, FileCallsLowest, StepsAreCalls}
use Rattle.site_book.specs.Book.{step}

pub each-mark_call : MarkCallsLowest
unfolding join_behind_from join_in_front_from replace_page rising
each-mark_call x m other place old new =
    record {
      join-behind = gives-lowest m (joined (polynomial_of x) m other) refl refl tt;
      join-in-front = gives-lowest m (joined (polynomial_of x) other m) refl refl tt;
      join-plain-behind = gives-lowest m (plain_joined (polynomial_of x) m other) refl refl tt;
      join-plain-in-front = gives-lowest m (plain_joined (polynomial_of x) other m) refl refl tt;
      replace-page = gives-lowest m (replaced (polynomial_of x) m place old new) refl refl tt;
    }

pub each-file_call : FileCallsLowest
unfolding search length_for write_sheet read_sheet read_pages check_sheet rising
each-file_call x n s file text pattern sheet buffer words =
    record {
      find = gives-lowest tt (counts (polynomial_of x) text pattern) refl refl tt;
      sheet-length = gives-lowest tt (sheet_length newest (page_count s n)) refl refl tt;
      write-sheet = gives-lowest buffer (overlay (sheet_bytes (contents_of newest.version x s (part_bits file))) buffer) refl refl tt;
      read-sheet = gives-first tt (contents_in sheet) refl refl;
      read-pages = gives-first words (overlay (contents_in sheet).pages words) refl refl;
      check_file = gives-first tt (compared (contents_in sheet) (part_bits file)) refl refl;
    }

pub steps_are_calls : StepsAreCalls
unfolding step
steps_are_calls key m other its = (refl, refl, refl, refl)
