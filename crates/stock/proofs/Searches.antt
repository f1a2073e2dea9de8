-- The smallest accepted key of a degree is what the search for it finds.
use mathlib.Core.Path.{◌≡◌, ap, ◌∙◌}
use mathlib.Core.Bool.{true}
use Prim.Native.Nat.{ℕ, ◌%◌, ◌^◌, ◌≤◌, ◌<◌}
use native.Mathlib.Nat.{pow-suc, mod-eq_of_lt}
use lib.Pow.{pow_pos}
use native.Mathlib.Omega.{arith}
use borrow.Author.Tests.{le-leb, lt-leb}
use Rattle.lists.specs.Searches.{first_from}
use Rattle.lists.proofs.Searches.{first-is}
use Rattle.gf2.specs.Degrees.{Degree}
use Rattle.gf2.proofs.Degrees.{degree-is, degree-eq, deg-lo, deg_hi, deg_intro}
use Rattle.acceptance.specs.Keys.{accepted}
use Rattle.acceptance.proofs.Laws.{accepted_iff, accepted-pos}
use Rattle.stock.specs.Stock.{stock_key, stock_word, Smallest}

-- the search runs for a degree 8 to 64 alone
search_runs : (k : ℕ) → 8 ≤ k → k ≤ 64 → stock_key k ≡ first_from accepted (2 ^ k) (2 ^ k)
unfolding stock_key
search_runs k lo hi = rw (le-leb 8 k lo, le-leb k 64 hi)

none_below : (k : ℕ) → k < 8 → stock_key k ≡ 0
unfolding stock_key
none_below k l = rw (lt-leb 8 k l)

none_above : (k : ℕ) → 64 < k → stock_key k ≡ 0
unfolding stock_key
none_above k l = rw (le-leb 8 k (omega arith), lt-leb k 64 l)

-- no other number has a word
no_word : (k : ℕ) → stock_key k ≡ 0 → stock_word k ≡ 0
unfolding stock_word
no_word k e = ap (λ (p : ℕ). p % 2 ^ k) e ∙ mod-eq_of_lt (pow_pos k)

pub no_word-below : (k : ℕ) → k < 8 → stock_word k ≡ 0
no_word-below k l = no_word k (none_below k l)

pub no_word-above : (k : ℕ) → 64 < k → stock_word k ≡ 0
no_word-above k l = no_word k (none_above k l)

pub stock_is : (k p : ℕ) → Smallest k p → stock_key k ≡ p
stock_is k p s =
    search_runs k range.0 range.1
    ∙ first-is accepted (2 ^ k) (2 ^ k) p (deg-lo p k is) (omega (arith, deg_hi p k is, pow-suc 2 k)) s.is-accepted none
  where
    range : (8 ≤ k) × (k ≤ 64)
    range = let a = (accepted_iff p).0 s.is-accepted in ((rw s.of_degree at a).0, (rw s.of_degree at a).1)

    is : Degree p k
    is = rw s.of_degree at (degree-is p (accepted-pos p s.is-accepted))

    none : (q : ℕ) → 2 ^ k ≤ q → q < p → accepted q ≡ true → ⊥
    none q l m a = omega (arith, s.least q (degree-eq q k (deg_intro q k l (omega (arith, deg_hi p k is)))) a)
