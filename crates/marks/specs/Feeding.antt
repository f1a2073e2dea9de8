-- Beginning a mark and feeding it, by bits and by tables (document 01, "Marks", "Tables"; parts: document 02, wish 7): each call is its
-- tests, in the order of their numbers, and its value. A key is handed in as x; all but its own tests go by its polynomial.
use Rattle.std.specs.Prelude.{◌≡◌, true, List, [], ◌++◌, ℕ}
use Rattle.refusals.specs.Refusals.{Answer, Done, first_of}
use Rattle.acceptance.specs.declared.Key.{Key}
use Rattle.acceptance.specs.Keys.{accepted, polynomial_of, key_of, key_tests}
use Rattle.table_tests.specs.TableTests.{table_tests}
use Rattle.house.specs.House.{house_key, house_words}
use Rattle.files.specs.declared.Mark.{Mark}
use Rattle.files.specs.Files.{fingerprint, mark_from, mark_of, Part, fed_mark}
use Rattle.mark_tests.specs.MarkTests.{feed_tests}

-- the mark of the empty file, behind the start s
unfoldable pub begin_from : ℕ → Key → Answer Unit Mark
begin_from s x = first_of (key_tests x) tt (mark_from s (polynomial_of x) [])

abbrev pub begin : Key → Answer Unit Mark
begin x = begin_from 1 x

unfoldable pub feed_bits : Key → Mark → Part → Answer Mark Mark
feed_bits x m part = first_of (key_tests x ++ feed_tests (polynomial_of x) m part) m (fed_mark (polynomial_of x) m part)

-- All words are tested first, so the value is the one of feeding by bits: a reader need not believe how the words are used.
unfoldable pub feed_table : Key → Mark → List ℕ → Part → Answer Mark Mark
feed_table x m words part =
    let key = polynomial_of x in
    first_of (key_tests x ++ table_tests key words ++ feed_tests key m part) m (fed_mark key m part)

-- under the house key's constant words: feeding by them, whatever the key
unfoldable pub feed_house : Key → Mark → Part → Answer Mark Mark
feed_house x m part = feed_table x m house_words part

-- ---- claims

-- beginning gives the mark of the empty file, whose fingerprint is 1
abbrev pub BeginsTrue : Type 0
BeginsTrue = (key : ℕ) → accepted key ≡ true → begin (key_of key) ≡ Done (mark_of key [])

-- "The empty file has fingerprint 1."
abbrev pub EmptyIsOne : Type 0
EmptyIsOne = (key : ℕ) → accepted key ≡ true → fingerprint key [] ≡ 1

-- under the house key no number of key and words can apply to feeding by its words,
abbrev pub HouseFirst : Type 0
HouseFirst = (m : Mark) (part : Part) → feed_house (key_of house_key) m part ≡ first_of (feed_tests house_key m part) m (fed_mark house_key m part)

-- which then is feeding by bits
abbrev pub HouseBits : Type 0
HouseBits = (m : Mark) (part : Part) → feed_house (key_of house_key) m part ≡ feed_bits (key_of house_key) m part
