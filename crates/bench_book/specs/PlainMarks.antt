-- Plain marks at the Bench level (document 02, wish 9): "lists of plain calls keep demand 3's book by that truth, begun from the empty file's
-- plain mark or any true plain one". The calls are the feeds that there are.
use Rattle.std.specs.Prelude.{◌≡◌, List, [], ℕ}
use Rattle.refusals.specs.Refusals.{Done}
use Rattle.acceptance.specs.Keys.{key_of}
use Rattle.files.specs.declared.Mark.{Mark}
use Rattle.files.specs.Files.{True}
use Rattle.marks.specs.PlainMarks.{begin_plain, turn}
use Rattle.book.specs.Runs.{Level, Leaves}
use Rattle.bench_book.specs.Book.{bench_from}

abbrev pub plain_bench : Level
plain_bench = bench_from 0

-- the routes to a file's plain fingerprint: a list of plain calls, the beginning of a plain mark, and one of our true marks, turned
pub data PlainRoute (key : ℕ) (file : List ℕ) (f : ℕ) : Type 0 where
  ByCalls : (m : Mark) → Leaves plain_bench key file m → m.fingerprint ≡ f → PlainRoute key file f
  Beginning : file ≡ [] → begin_plain (key_of key) ≡ Done (record { fingerprint = f; length = 0 }) → PlainRoute key file f
  ByTurning : (m n : Mark) → True key file m → turn (key_of key) m ≡ Done n → n.fingerprint ≡ f → PlainRoute key file f
