-- Numbers 5 and 6 in turn, and what is known where neither applies.
use mathlib.Core.Path.{◌≡◌, ap, ◌∙◌}
use mathlib.Core.Bool.{true, false, not}
use mathlib.Core.List.{List, ◌∷◌}
use Prim.Native.Nat.{ℕ}
use lib.Dec.{eqb}
use lib.ListN.{length}
use borrow.Author.Tests.{eq-eqb, ne_eqb, eqb-true, not-false}
use Rattle.lists.specs.Lists.{list_from}
use Rattle.refusals.specs.declared.Refusal.TheVariants.{TableSize, TableWord}
use Rattle.refusals.specs.Refusals.{Done, Refused, Test, first_of, judged}
use Rattle.refusals.proofs.Laws.{Clear}
use Rattle.lookups.specs.Rule.{word, differs}
use Rattle.lookups.specs.Groups.{Table}
use Rattle.lookups.proofs.Rule.{none-differs, table-only, table-length, table_rule}
use Rattle.table_tests.specs.TableTests.{table_size_test, table_tests}

module _ (words : List ℕ) where
  wrong_size : (length words ≡ 1024 → ⊥) → not (eqb (length words) 1024) ≡ true
  wrong_size h = ap not (ne_eqb (length words) 1024 h)

  right-size : length words ≡ 1024 → not (eqb (length words) 1024) ≡ false
  right-size e = ap not (eq-eqb (length words) 1024 e)

  module _ {S A : Type 0} (ts : List Test) (s : S) (v : A) where
    pub size-refused : (length words ≡ 1024 → ⊥) → first_of (table_size_test words ∷ ts) s v ≡ Refused TableSize s
    size-refused h = rw (wrong_size h)

    pub size-passed : length words ≡ 1024 → first_of (table_size_test words ∷ ts) s v ≡ first_of ts s v
    size-passed e = rw (right-size e)

  module _ (key : ℕ) where
    pub word-refused : length words ≡ 1024 → differs (word 8 key) 0 words ≡ true → judged (table_tests key words) ≡ Refused TableWord tt
    word-refused e d = rw (right-size e, d)

    pub table-passed : length words ≡ 1024 → differs (word 8 key) 0 words ≡ false → judged (table_tests key words) ≡ Done tt
    table-passed e d = rw (right-size e, d)

    -- where neither applies, the words are the table
    pub table-clear : Clear (table_tests key words) → Table key words
    table-clear c = table-only (word 8 key) 0 words c.1.0
        ∙ ap (list_from (word 8 key) 0) (eqb-true (length words) 1024 (not-false (eqb (length words) 1024) c.0))

    -- and where the words are the table, neither applies
    pub clear-table : Table key words → Clear (table_tests key words)
    clear-table e = (right-size (table-length (word 8 key) 1024 words e), (none-differs (word 8 key) words (table_rule (word 8 key) 1024 words e), tt))
