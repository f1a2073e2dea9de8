-- Plain marks at the Site level (document 02, wish 9): the calls that there are, marks being joined by the calls for plain marks.
use Rattle.std.specs.Prelude.{◌≡◌, List, ℕ}
use Rattle.files.specs.declared.Mark.{Mark}
use Rattle.book.specs.Runs.{Level, Leaves}
use Rattle.bench_book.specs.PlainMarks as BenchLevel
use Rattle.site_book.specs.Book.{site_from}

abbrev pub plain_site : Level
plain_site = site_from 0

-- the routes to a file's plain fingerprint: the Bench level's, and a list of this level's plain calls
pub data PlainRoute (key : ℕ) (file : List ℕ) (f : ℕ) : Type 0 where
  OfBench : BenchLevel.PlainRoute key file f → PlainRoute key file f
  ByCalls : (m : Mark) → Leaves plain_site key file m → m.fingerprint ≡ f → PlainRoute key file f
