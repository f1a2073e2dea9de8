-- The theorems about the stock list, and the test, computed once.
use mathlib.Core.Path.{◌≡◌, refl, sym}
use mathlib.Core.List.{List, [], ◌∷◌}
use Prim.Native.Nat.{ℕ, ◌+◌, ◌-◌, ◌≤◌}
use native.Mathlib.Nat.{le_refl}
use native.Mathlib.Omega.{arith}
use lib.Dec.{T}
use lib.ListN.{length, get_or}
use Rattle.gf2.specs.Polynomials.{monic}
use Rattle.gf2.proofs.Degrees.{degree-is}
use Rattle.gf2.proofs.Monics.{monic_of}
use Rattle.acceptance.proofs.Laws.{accepted-pos}
use Rattle.stock.specs.Stock.{stock_key, stock_word, Smallest, StockSmallest, StockAt64}
use Rattle.stock.proofs.Sieve.{stocked_table, left, smallest-at}
use Rattle.stock.proofs.Searches.{stock_is}

-- for each degree from 8 on: divisors beside t and t + 1, of which every smaller number of that degree than the stock key has one
unfoldable pub divisors : List (List ℕ)
divisors =
    (7 ∷ 11 ∷ 13 ∷ 19 ∷ 25 ∷ []) ∷
    [] ∷
    (7 ∷ 11 ∷ []) ∷
    (7 ∷ []) ∷
    (13 ∷ 67 ∷ []) ∷
    (7 ∷ 13 ∷ 59 ∷ 91 ∷ 117 ∷ []) ∷
    (7 ∷ 11 ∷ 13 ∷ 19 ∷ 31 ∷ 37 ∷ 131 ∷ []) ∷
    [] ∷
    (7 ∷ 11 ∷ 13 ∷ 19 ∷ 25 ∷ 31 ∷ 361 ∷ []) ∷
    (7 ∷ 13 ∷ []) ∷
    (37 ∷ 515 ∷ []) ∷
    (7 ∷ 11 ∷ 13 ∷ 25 ∷ 31 ∷ 41 ∷ 117 ∷ []) ∷
    (7 ∷ 11 ∷ []) ∷
    (171 ∷ []) ∷
    [] ∷
    (7 ∷ 11 ∷ 13 ∷ 19 ∷ 25 ∷ 301 ∷ 3731 ∷ []) ∷
    (7 ∷ 11 ∷ 13 ∷ 67 ∷ 73 ∷ 1933 ∷ []) ∷
    (7 ∷ 103 ∷ []) ∷
    (7 ∷ 37 ∷ 55 ∷ 59 ∷ 61 ∷ []) ∷
    (7 ∷ 11 ∷ 13 ∷ 25 ∷ 31 ∷ 87 ∷ 167 ∷ 841 ∷ []) ∷
    [] ∷
    (7 ∷ []) ∷
    [] ∷
    (7 ∷ 11 ∷ []) ∷
    (7 ∷ 11 ∷ 13 ∷ 19 ∷ 41 ∷ 47 ∷ 59 ∷ 61 ∷ 67 ∷ 73 ∷ 87 ∷ 97 ∷ 361 ∷ 433 ∷ 477 ∷ 731 ∷ 761 ∷ 901 ∷ 949 ∷ 1961 ∷ 1989 ∷ []) ∷
    (7 ∷ 11 ∷ 13 ∷ 19 ∷ 31 ∷ 37 ∷ 55 ∷ 59 ∷ 73 ∷ 285 ∷ 2955 ∷ 3413 ∷ 7545 ∷ []) ∷
    (7 ∷ 13 ∷ 19 ∷ 25 ∷ 31 ∷ []) ∷
    (7 ∷ []) ∷
    (7 ∷ 11 ∷ 13 ∷ 37 ∷ 55 ∷ 59 ∷ 515 ∷ 675 ∷ 973 ∷ 144293 ∷ []) ∷
    (7 ∷ 11 ∷ 13 ∷ 19 ∷ 31 ∷ 103 ∷ 2601 ∷ 5451 ∷ 208299 ∷ 444385 ∷ []) ∷
    (7 ∷ 11 ∷ 13 ∷ 25 ∷ 31 ∷ 41 ∷ 59 ∷ 61 ∷ 67 ∷ 131 ∷ 157 ∷ 239 ∷ 637 ∷ 1603 ∷ 148051 ∷ 190125 ∷ []) ∷
    (7 ∷ 25 ∷ 47 ∷ 115 ∷ []) ∷
    (7 ∷ 11 ∷ 13 ∷ 41 ∷ 375 ∷ 445 ∷ 1573 ∷ 2669 ∷ 325547 ∷ []) ∷
    (7 ∷ 11 ∷ []) ∷
    (7 ∷ 11 ∷ 13 ∷ 25 ∷ 55 ∷ 171 ∷ 601 ∷ 2097157 ∷ []) ∷
    (7 ∷ 11 ∷ 13 ∷ 19 ∷ 25 ∷ 31 ∷ 47 ∷ 55 ∷ 59 ∷ 97 ∷ 213 ∷ 477 ∷ 661 ∷ 901 ∷ 100111 ∷ []) ∷
    (7 ∷ 11 ∷ 13 ∷ 61 ∷ 103 ∷ 3413 ∷ 4194307 ∷ []) ∷
    (7 ∷ 11 ∷ 13 ∷ 55 ∷ 239 ∷ 54483 ∷ []) ∷
    [] ∷
    (7 ∷ 19 ∷ 25 ∷ 31 ∷ 143 ∷ 20389 ∷ 30443 ∷ []) ∷
    (7 ∷ 11 ∷ 13 ∷ 19 ∷ 31 ∷ 299 ∷ 351 ∷ 56385 ∷ 745571 ∷ []) ∷
    (7 ∷ 11 ∷ 13 ∷ 19 ∷ 25 ∷ 31 ∷ 41 ∷ 47 ∷ 61 ∷ 109 ∷ 167 ∷ 239 ∷ 1001 ∷ 1077 ∷ 1377 ∷ 20517 ∷ 65101 ∷ 25425187 ∷ []) ∷
    (7 ∷ 11 ∷ 13 ∷ 41 ∷ 59 ∷ 103 ∷ []) ∷
    (7 ∷ 11 ∷ 13 ∷ 47 ∷ 61 ∷ 191 ∷ 211 ∷ 971 ∷ 985 ∷ 1849 ∷ 1933 ∷ 11795545 ∷ []) ∷
    (7 ∷ 11 ∷ []) ∷
    (7 ∷ 11 ∷ 13 ∷ 19 ∷ 25 ∷ 87 ∷ 109 ∷ 995 ∷ 5139 ∷ 11439 ∷ 757525 ∷ []) ∷
    (7 ∷ 11 ∷ 13 ∷ 19 ∷ 25 ∷ 31 ∷ 41 ∷ 47 ∷ 55 ∷ 59 ∷ 67 ∷ 131 ∷ 143 ∷ 167 ∷ 361 ∷ 419 ∷ 841 ∷ 1435 ∷ 3305 ∷ 64931 ∷ []) ∷
    (7 ∷ 13 ∷ 41 ∷ 55 ∷ 103 ∷ 117 ∷ 193 ∷ 239 ∷ 299 ∷ 357 ∷ 1125 ∷ 17099 ∷ 123437 ∷ []) ∷
    (7 ∷ 11 ∷ 13 ∷ 19 ∷ 25 ∷ 31 ∷ 37 ∷ 47 ∷ 55 ∷ 73 ∷ 213 ∷ 3771 ∷ 260413 ∷ 4706181 ∷ 8163469 ∷
    11811265 ∷ 14725265 ∷ 268435459 ∷ 268435465 ∷ 268435471 ∷ 7528517531 ∷ []) ∷
    (7 ∷ 11 ∷ 25 ∷ 59 ∷ []) ∷
    (7 ∷ 11 ∷ 13 ∷ 19 ∷ 25 ∷ 41 ∷ 47 ∷ 55 ∷ 97 ∷ 2053 ∷ 2811 ∷ 50881 ∷ 635233 ∷ 25490401 ∷ 536870917 ∷ []) ∷
    (7 ∷ 11 ∷ 13 ∷ 19 ∷ 25 ∷ 31 ∷ 37 ∷ 47 ∷ 55 ∷ 73 ∷ 115 ∷ 137 ∷ 167 ∷ 253 ∷ 283 ∷ 973 ∷ 26103 ∷ 96075 ∷ 8685311 ∷ 20386973 ∷ []) ∷
    [] ∷
    (7 ∷ 11 ∷ 13 ∷ 25 ∷ 31 ∷ 10265 ∷ 12287 ∷ []) ∷
    (7 ∷ 11 ∷ 13 ∷ 19 ∷ 25 ∷ 31 ∷ 41 ∷ 47 ∷ 67 ∷ 87 ∷ 91 ∷ 103 ∷ 115 ∷ 445 ∷ 4051 ∷ 49747419 ∷ 61943701 ∷ 2147483657 ∷ 2147483663 ∷ []) ∷
    [] ∷
    (7 ∷ 11 ∷ 13 ∷ 19 ∷ 361 ∷ []) ∷
    []

-- the words of what they leave, which the checker finds: the stock list
abbrev pub words : List ℕ
words = left 8 divisors

tested : T (stocked_table 7 divisors)
unfolding divisors left
tested = tt

degrees : length divisors ≡ 57
unfolding divisors
degrees = refl

module _ (k : ℕ) (lo : 8 ≤ k) (hi : k ≤ 64) where
  abbrev word : ℕ
  word = get_or words (k - 8) 0

  entry-smallest : Smallest k (monic k word)
  entry-smallest = rw place at (smallest-at divisors 7 (le_refl 8) (rw degrees (le_refl 64)) tested (k - 8) (rw degrees (omega arith)))
    where
      place : 8 + (k - 8) ≡ k
      place = omega arith

  entry_stock : monic k word ≡ stock_key k
  entry_stock = sym (stock_is k (monic k word) entry-smallest)

  entry-is : Smallest k (stock_key k)
  entry-is = rw entry_stock at entry-smallest

  -- the stock key is t^k and its word
  pub stock_whole : monic k (stock_word k) ≡ stock_key k
  unfolding stock_word
  stock_whole =
      monic_of k (stock_key k) (rw entry-is.of_degree at (degree-is (stock_key k) (accepted-pos (stock_key k) entry-is.is-accepted)))

  pub entry-word : word ≡ stock_word k
  unfolding monic
  entry-word = omega (arith, entry_stock, stock_whole)

-- for each degree 8 to 64 the stock key is accepted, has that degree, and is the smallest such number
pub stock_smallest : StockSmallest
stock_smallest k lo hi = entry-is k lo hi

-- the house key, and the key of degree 64
pub stock_61 : stock_key 61 ≡ 0x2000000000000027
unfolding divisors left
stock_61 = sym (entry_stock 61 (omega arith) (omega arith))

pub stock_64 : StockAt64
unfolding divisors left
stock_64 = sym (entry_stock 64 (omega arith) (omega arith))
