-- For inner functions: a reader of the promises need not read this page. A step of elimination, beside the rows.
use Rattle.std.specs.Prelude.{ℕ, ◌*◌, ◌/◌, ◌%◌, ◌^◌, List, [], ◌∷◌}
use Rattle.gf2.specs.Polynomials.{◌⊕◌}

-- w is added to the sum of each row with a 1 in column c
unfoldable pub add_where : ℕ → ℕ → List ℕ → List ℕ → List ℕ
add_where c w [] sums = sums
add_where c w (r ∷ rows) [] = []
add_where c w (r ∷ rows) (s ∷ sums) = (r / 2 ^ c % 2 * w ⊕ s) ∷ add_where c w rows sums
