-- For inner functions: a reader of the promises need not read this page. Rows over the field of two elements, as numbers: bit i is the entry in column i.
use Rattle.std.specs.Prelude.{◌≡◌, ℕ, ◌*◌, ◌/◌, ◌%◌, ◌^◌, ◌<◌, List, [], ◌∷◌, length}
use Rattle.gf2.specs.Polynomials.{◌⊕◌}

-- the sum of the rows that the bits of h choose: bit 0 the first row, bit 1 the second
unfoldable pub sum_of : ℕ → List ℕ → ℕ
sum_of h [] = 0
sum_of h (r ∷ rows) = h % 2 * r ⊕ sum_of (h / 2) rows

-- no choice among the first n rows sums to 0 but that of none
abbrev pub NoRelation : ℕ → List ℕ → Type 0
NoRelation n rows = (x : ℕ) → x < 2 ^ n → sum_of x rows ≡ 0 → x ≡ 0

-- no choice of rows sums to 0 but that of none
abbrev pub Independent : List ℕ → Type 0
Independent rows = NoRelation (length rows) rows

-- a linear map by its rows: the value at x is the sum of the rows that the bits of x choose
abbrev pub Matrix : (ℕ → ℕ) → List ℕ → Type 0
Matrix L rows = (x : ℕ) → x < 2 ^ 64 → sum_of x rows ≡ L x

-- a step of elimination: v is added to a row with a 1 in column c
unfoldable pub clear : ℕ → ℕ → ℕ → ℕ
clear c v r = r / 2 ^ c % 2 * v ⊕ r
