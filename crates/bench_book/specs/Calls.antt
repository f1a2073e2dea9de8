-- "The lowest number that applies" (document 01, "Who can cause a refusal"), for each call of the Bench level and whatever is handed in:
-- its numbers, its tests, and the call. docs/API.md has the same numbers.
use Rattle.std.specs.Prelude.{List, [], ◌∷◌, ◌++◌, ℕ}
use Rattle.refusals.specs.declared.Refusal.TheVariants.{TableWord}
use Rattle.refusals.specs.Refusals.{◌⇒◌}
use Rattle.refusals.specs.Lowest.{GivesLowest}
use Rattle.acceptance.specs.declared.Key.{Key}
use Rattle.acceptance.specs.Keys.{polynomial_of, key_tests}
use Rattle.files.specs.declared.Mark.{Mark}
use Rattle.files.specs.Files.{Part}
use Rattle.lookups.specs.Rule.{word, differs}
use Rattle.house.specs.House.{house_words}
use Rattle.keys.specs.Testing.{test_key}
use Rattle.table_tests.specs.TableTests.{table_size_test, table_tests}
use Rattle.tables.specs.Tables.{make_table, test_table}
use Rattle.mark_tests.specs.MarkTests.{feed_tests}
use Rattle.marks.specs.Feeding.{begin, feed_bits, feed_table, feed_house}
use Rattle.marks.specs.PlainMarks.{begin_plain, turn_tests, turn}

pub record EachCall (x : Key) (m : Mark) (words : List ℕ) (part : Part) : Type 0 where
  pub test-key : GivesLowest (1 ∷ 2 ∷ []) (key_tests x) (test_key x)
  pub begin-mark : GivesLowest (1 ∷ 2 ∷ []) (key_tests x) (begin x)
  pub begin-plain : GivesLowest (1 ∷ 2 ∷ []) (key_tests x) (begin_plain x)
  pub turn-mark : GivesLowest (1 ∷ 2 ∷ 7 ∷ 8 ∷ []) (key_tests x ++ turn_tests (polynomial_of x) m) (turn x m)
  pub feed : GivesLowest (1 ∷ 2 ∷ 7 ∷ 8 ∷ 19 ∷ []) (key_tests x ++ feed_tests (polynomial_of x) m part) (feed_bits x m part)
  pub make-table : GivesLowest (1 ∷ 2 ∷ 5 ∷ []) (key_tests x ++ table_size_test words ∷ []) (make_table x words)
  pub test-table : GivesLowest (1 ∷ 2 ∷ 5 ∷ 6 ∷ []) (key_tests x ++ table_tests (polynomial_of x) words) (test_table x words)
  pub feed-table : GivesLowest (1 ∷ 2 ∷ 5 ∷ 6 ∷ 7 ∷ 8 ∷ 19 ∷ []) (key_tests x ++ table_tests (polynomial_of x) words ++ feed_tests (polynomial_of x) m part)
      (feed_table x m words part)
  -- the house key's words are 1,024, so that number 5 never applies: its test is left out
  pub feed-house : GivesLowest (1 ∷ 2 ∷ 6 ∷ 7 ∷ 8 ∷ 19 ∷ [])
      (key_tests x ++ differs (word 8 (polynomial_of x)) 0 house_words ⇒ TableWord ∷ feed_tests (polynomial_of x) m part) (feed_house x m part)

-- whatever is handed in
abbrev pub CallsLowest : Type 0
CallsLowest = (x : Key) (m : Mark) (words : List ℕ) (part : Part) → EachCall x m words part
