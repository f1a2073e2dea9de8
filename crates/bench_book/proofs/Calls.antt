-- Each call gives the lowest number that applies: the claims of specs/Calls.antt, proved. Each line is the state that comes back on
-- refusal, the value, and that the numbers rise.
use mathlib.Core.Path.{◌≡◌, refl}
use mathlib.Core.List.{List, [], ◌∷◌, ◌++◌}
use Prim.Native.Nat.{ℕ}
use Rattle.lists.specs.Lists.{list_from}
use Rattle.lists.proofs.Lists.{rising, length_list}
use Rattle.refusals.specs.declared.Refusal.TheVariants.{TableSize, TableWord}
use Rattle.refusals.specs.Refusals.{◌⇒◌, first_of}
use Rattle.refusals.proofs.Laws.{skip, gives-lowest}
use Rattle.acceptance.specs.declared.Key.{Key}
use Rattle.acceptance.specs.Keys.{polynomial_of, as_modulus, key_tests}
use Rattle.files.specs.declared.Mark.{Mark}
use Rattle.files.specs.Files.{mark_of, Part, fed_mark}
use Rattle.files.specs.PlainMarks.{plain_mark_of, turned}
use Rattle.lookups.specs.Rule.{word, differs}
use Rattle.house.specs.House.{house_key, house_words}
use Rattle.keys.specs.Testing.{test_key}
use Rattle.tables.specs.Tables.{make_table, test_table}
use Rattle.mark_tests.specs.MarkTests.{feed_tests}
use Rattle.marks.specs.Feeding.{begin_from, feed_bits, feed_table, feed_house}
use Rattle.marks.specs.PlainMarks.{turn}
use Rattle.bench_book.specs.Calls.{EachCall, CallsLowest}

module _ (x : Key) (m : Mark) (words : List ℕ) (part : Part) where
  abbrev key : ℕ
  key = polynomial_of x

  -- number 5 does not apply to the house key's words
  without_5 : feed_house x m part
      ≡ first_of (key_tests x ++ differs (word 8 key) 0 house_words ⇒ TableWord ∷ feed_tests key m part) m (fed_mark key m part)
  unfolding feed_house feed_table
  without_5 =
      rw (length_list (word 8 house_key) 0 1024)
      (skip (key_tests x) (differs (word 8 key) 0 house_words ⇒ TableWord ∷ feed_tests key m part) TableSize m (fed_mark key m part))

  calls : EachCall x m words part
  unfolding test_key begin_from turn feed_bits make_table test_table feed_table rising
  calls =
      record {
        test-key = gives-lowest tt (as_modulus x) refl refl tt;
        begin-mark = gives-lowest tt (mark_of key []) refl refl tt;
        begin-plain = gives-lowest tt (plain_mark_of key []) refl refl tt;
        turn-mark = gives-lowest m (turned key m) refl refl tt;
        feed = gives-lowest m (fed_mark key m part) refl refl tt;
        make-table = gives-lowest words (list_from (word 8 key) 0 1024) refl refl tt;
        test-table = gives-lowest tt tt refl refl tt;
        feed-table = gives-lowest m (fed_mark key m part) refl refl tt;
        feed-house = gives-lowest m (fed_mark key m part) without_5 refl tt;
      }

pub each_call : CallsLowest
each_call x m words part = calls x m words part
