-- Two files whose differing bits stand near each other (document 01, "The plain book of demand 3").
use Rattle.std.specs.Prelude.{◌≡◌, ◌≢◌, List, ℕ, ◌+◌, ◌≤◌, ◌<◌, length, get_or}

-- "the lengths are equal and the first and last differing bits are at most k - 1 places apart": every bit that differs stands from
-- the place `first` to the place `last`
pub record Burst (k : ℕ) (a b : List ℕ) : Type 0 where
  pub same_length : length a ≡ length b
  pub first : ℕ
  pub last : ℕ
  pub near : last < first + k
  pub between : (i : ℕ) → get_or a i 0 ≢ get_or b i 0 → (first ≤ i) × (i ≤ last)
