-- The plain book (document 01, "The plain book of demand 3") at the Bench level: what the book does beside its calls, which are the feeds of
-- crate fed_parts, and the routes to a file's fingerprint.
use Rattle.std.specs.Prelude.{◌≡◌, List, [], ◌∷◌, ◌++◌, ℕ, length, drop, Ok}
use Rattle.refusals.specs.declared.Refusal.TheVariants.{FinalByte}
use Rattle.refusals.specs.Refusals.{Done, Test, ◌⇒◌}
use Rattle.acceptance.specs.Keys.{key_of, key_tests}
use Rattle.files.specs.declared.Mark.{Mark}
use Rattle.files.specs.Files.{bits, mark_from, part_length, part_bits, misused}
use Rattle.files.specs.PlainMarks.{PlainTrue}
use Rattle.table_tests.specs.TableTests.{table_tests}
use Rattle.mark_tests.specs.MarkTests.{sum_test}
use Rattle.marks.specs.Feeding.{begin}
use Rattle.marks.specs.PlainMarks.{turn}
use Rattle.key_lines.specs.KeyLines.{key_line}
use Rattle.printing.specs.Printing.{report, printed}
use Rattle.book.specs.Runs.{Level, Leaves}
use Rattle.fed_parts.specs.Parts.{Feed, ByBits, ByTable, step}

-- The numbers that can apply, n being the length of the book's file in bits. Number 8 is not among them: the mark carried along is true
-- of the file, so its fingerprint is below 2^k.
unfoldable pub book_tests : ℕ → ℕ → Feed → List Test
book_tests key n (ByBits part) = key_tests (key_of key) ++ sum_test n (part_length part) ∷ misused part ⇒ FinalByte ∷ []
book_tests key n (ByTable words part) = key_tests (key_of key) ++ table_tests key words ++ sum_test n (part_length part) ∷ misused part ⇒ FinalByte ∷ []

-- "Feeding, by bits or by tables: the part goes behind the file", its used bits alone.
unfoldable pub written : List ℕ → Feed → List ℕ
written file (ByBits part) = file ++ part_bits part
written file (ByTable words part) = file ++ part_bits part

-- "The table words lent may be anything at each call."
abbrev pub Brings : ℕ → List ℕ → Feed → Type 0
Brings key file c = Unit {0}

-- the level of marks with the start s: the calls are the same, and what is true differs
abbrev pub bench_from : ℕ → Level
bench_from s =
    record { Kept = List ℕ; size = length; State = Mark; truth = mark_from s; Call = Feed; step = step; tests = book_tests; written = written; Brings = Brings }

abbrev pub bench : Level
bench = bench_from 1

-- The routes: a list of calls, and "any other call of ours that gives a file's fingerprint": the turning of a plain mark, the beginning of a
-- mark, which gives the empty file's, and the printing program.
pub data Route (key : ℕ) (file : List ℕ) (f : ℕ) : Type 0 where
  ByCalls : (m : Mark) → Leaves bench key file m → m.fingerprint ≡ f → Route key file f
  -- the other kind's true mark, turned (document 02, wish 9)
  ByTurning : (m n : Mark) → PlainTrue key file m → turn (key_of key) m ≡ Done n → n.fingerprint ≡ f → Route key file f
  Beginning : file ≡ [] → begin (key_of key) ≡ Done (record { fingerprint = f; length = 0 }) → Route key file f
  -- of an input whose first line is the key and whose other bytes are the file; the program prints bytes
  Printed : (input : List ℕ) (at : ℕ) → key_line input ≡ Ok (key_of key, at) → bits (drop at input) ≡ file
      → printed input ≡ report (record { key = key_of key; fingerprint = f; length = length file }) → Route key file f
