-- The tests of a lent table (document 01, "Tables"): numbers 5 and 6.
use Rattle.std.specs.Prelude.{not, List, [], ◌∷◌, ℕ, eqb, length}
use Rattle.refusals.specs.declared.Refusal.TheVariants.{TableSize, TableWord}
use Rattle.refusals.specs.Refusals.{Test, ◌⇒◌}
use Rattle.lookups.specs.Rule.{word, differs}

-- number 5
abbrev pub table_size_test : List ℕ → Test
table_size_test words = not (eqb (length words) 1024) ⇒ TableSize

-- numbers 5 and 6
abbrev pub table_tests : ℕ → List ℕ → List Test
table_tests key words = table_size_test words ∷ differs (word 8 key) 0 words ⇒ TableWord ∷ []
