-- The house key (document 01, "Polynomials and keys", "Tables"): the stock key of degree 61, and the words of its table.
use Rattle.std.specs.Prelude.{◌≡◌, true, List, ℕ}
use Rattle.acceptance.specs.Keys.{accepted}
use Rattle.stock.specs.Stock.{stock_key}
use Rattle.lookups.specs.Rule.{table}

abbrev pub house_key : ℕ
house_key = 0x2000000000000027

abbrev pub house_words : List ℕ
house_words = table house_key

-- ---- claims

-- "The house key is its entry for degree 61", the stock list's,
abbrev pub HouseStock : Type 0
HouseStock = stock_key 61 ≡ house_key

abbrev pub HouseAccepted : Type 0
HouseAccepted = accepted house_key ≡ true
