-- What the calls on sheets tell: in code, and to C in lent places.
use Rattle.std.specs.Prelude.{List, [], ◌∷◌, ℕ, ◌+◌, ◌*◌, min, length}
use Rattle.files.specs.Files.{bytes_for}
use Rattle.sheets.specs.declared.Sheet.{Sheet}
use Rattle.sheets.specs.Layout.{Contents}
use Rattle.sheets.specs.Sheets.{Outcome, Same, Page, OtherLength}

-- of a sheet: its numbers, with the number of pages; the page fingerprints are given by `read_pages`
abbrev pub numbers_of : Contents → Sheet
numbers_of x = record { version = x.version; key = x.key; length = x.length; size = x.page_size; pages = length x.pages; fingerprint = x.fingerprint }

-- of a check: 0 for same, 1 for a page, 2 for another length; and the page, or 0
abbrev pub outcome_in : Outcome → List ℕ
outcome_in Same = 0 ∷ 0 ∷ []
outcome_in (Page i) = 1 ∷ i ∷ []
outcome_in OtherLength = 2 ∷ 0 ∷ []

-- the same with the bytes of the page, from the first to before the last, or 0 and 0: x being the sheet's numbers
abbrev pub range_in : Contents → Outcome → List ℕ
range_in x Same = 0 ∷ 0 ∷ 0 ∷ []
range_in x (Page i) = 1 ∷ i * x.page_size ∷ min (i * x.page_size + x.page_size) (bytes_for x.length) ∷ []
range_in x OtherLength = 2 ∷ 0 ∷ 0 ∷ []
