-- Making and testing a table (document 01, "Tables"): each call is its tests, in the order of their numbers, and its value. A key is
-- handed in as x; all but its own tests go by its polynomial.
use Rattle.std.specs.Prelude.{List, [], ◌∷◌, ◌++◌, ℕ}
use Rattle.refusals.specs.Refusals.{Answer, first_of, judged}
use Rattle.acceptance.specs.declared.Key.{Key}
use Rattle.acceptance.specs.Keys.{polynomial_of, key_tests}
use Rattle.lookups.specs.Rule.{table}
use Rattle.table_tests.specs.TableTests.{table_size_test, table_tests}

-- what the lent words are after the call
unfoldable pub make_table : Key → List ℕ → Answer (List ℕ) (List ℕ)
make_table x words = first_of (key_tests x ++ table_size_test words ∷ []) words (table (polynomial_of x))

unfoldable pub test_table : Key → List ℕ → Answer Unit Unit
test_table x words = judged (key_tests x ++ table_tests (polynomial_of x) words)
