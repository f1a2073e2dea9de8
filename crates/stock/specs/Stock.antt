-- The stock list (document 01, "Polynomials and keys"): for each degree 8 to 64 the smallest accepted key of that degree.
use Rattle.std.specs.Prelude.{◌≡◌, true, ◌&&◌, cond, ℕ, ◌%◌, ◌^◌, ◌≤◌, leb}
use Rattle.lists.specs.Searches.{first_from}
use Rattle.gf2.specs.Polynomials.{degree}
use Rattle.acceptance.specs.Keys.{accepted}

-- The stock key of a degree 8 to 64, and 0 for every other number. The numbers of degree k are those from 2^k on, 2^k of them.
unfoldable pub stock_key : ℕ → ℕ
stock_key k = cond (leb 8 k && leb k 64) (first_from accepted (2 ^ k) (2 ^ k)) 0

-- its word: the coefficients below t^k
unfoldable pub stock_word : ℕ → ℕ
stock_word k = stock_key k % 2 ^ k

-- ---- claims

-- what it is for a degree 8 to 64, without a search: of degree k, accepted, and no accepted key of that degree is a smaller number
pub record Smallest (k p : ℕ) : Type 0 where
  pub of_degree : degree p ≡ k
  pub is-accepted : accepted p ≡ true
  pub least : (q : ℕ) → degree q ≡ k → accepted q ≡ true → p ≤ q

abbrev pub StockSmallest : Type 0
StockSmallest = (k : ℕ) → 8 ≤ k → k ≤ 64 → Smallest k (stock_key k)

-- the entry that wish 8 adds
abbrev pub StockAt64 : Type 0
StockAt64 = stock_key 64 ≡ 0x1000000000000001B
