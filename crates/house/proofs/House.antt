-- The house key's table.
use mathlib.Core.Path.{◌≡◌, refl, ap, ◌∙◌}
use mathlib.Core.Bool.{true}
use mathlib.Core.List.{List}
use Prim.Native.Nat.{ℕ}
use native.Mathlib.Omega.{arith}
use lib.Dec.{T}
use Rattle.lists.specs.Lists.{same}
use Rattle.gf2.specs.Polynomials.{monic}
use Rattle.acceptance.specs.Keys.{accepted, polynomial_of, as_modulus}
use Rattle.acceptance.specs.declared.Key.{Key}
use Rattle.acceptance.specs.Opened.{Opened}
use Rattle.acceptance.proofs.Laws.{within-range}
use Rattle.house.specs.House.{house_key, house_words, HouseStock, HouseAccepted}
use Rattle.stock.proofs.Table.{stock_smallest, stock_61}
use Rattle.house.proofs.Rows.{rows, table_by_test}

-- it is the stock list's entry for degree 61,
pub house_stock : HouseStock
house_stock = stock_61

-- so it is accepted: lists under it exist
pub house-accepted : HouseAccepted
house-accepted = rw stock_61 at (stock_smallest 61 (omega arith) (omega arith)).is-accepted

-- a key handed in with its degree and its word: its polynomial is the house key, and it is opened
module _ (x : Key) (d : x.degree ≡ 61) (w : x.word ≡ 0x27) where
  pub house-polynomial : polynomial_of x ≡ house_key
  unfolding monic
  house-polynomial = rw (d, w)

  pub house-opened : Opened x (as_modulus x)
  house-opened =
      record {
        in_range = within-range x (omega (arith, d)) (omega (arith, d)) (rw (d, w) (omega arith));
        is-accepted = ap accepted house-polynomial ∙ house-accepted;
        parts = refl;
      }

-- the test of the constant table, which the checker computes
abbrev pub HouseWords : List ℕ → Type 0
HouseWords words = T (same words (rows 8 house_key 4))

pub house-table : (words : List ℕ) → HouseWords words → words ≡ house_words
house-table = table_by_test {key = house_key} (omega arith) 8 4
