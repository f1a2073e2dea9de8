-- For inner functions: a reader of the promises need not read this page. What the comparison of flagged windows with the pattern finds.
use Rattle.std.specs.Prelude.{◌≡◌, Bool, true, false, ◌&&◌, not, List, ℕ, ◌-◌, ◌≤◌, ◌<◌, length, get_or, Option, MatchOption}
use Rattle.lists.specs.Lists.{passing, same}
use Rattle.rolling.specs.Rolling.{window}

-- no window from `first` to `next` is flagged
abbrev pub NoneFlagged : List Bool → ℕ → ℕ → Type 0
NoneFlagged flags first next = (j : ℕ) → first ≤ j → j < next → get_or flags j false ≡ false

-- i is the first flagged window of those from `first` to `size`
pub record FirstFlagged (flags : List Bool) (first size i : ℕ) : Type 0 where
  pub low : first ≤ i
  pub high : i < size
  pub none : NoneFlagged flags first i
  pub flagged : get_or flags i false ≡ true

-- the first flagged window from `first` on, if there is one below `size`
abbrev pub NextFlagged : List Bool → ℕ → ℕ → Option ℕ → Type 0
NextFlagged flags first size next = MatchOption next (NoneFlagged flags first size) (λ i. FirstFlagged flags first size i)

-- a flagged window with the pattern's bytes, and one with other bytes
unfoldable pub flagged_place : List Bool → List ℕ → List ℕ → ℕ → ℕ → Bool
flagged_place flags text pattern from i = get_or flags (i - from) false && same (window (length pattern) text i) pattern

unfoldable pub flagged_alarm : List Bool → List ℕ → List ℕ → ℕ → ℕ → Bool
flagged_alarm flags text pattern from i = get_or flags (i - from) false && not (same (window (length pattern) text i) pattern)

-- those of the `size` windows from `from` on, rising
abbrev pub flagged_places : List Bool → List ℕ → List ℕ → ℕ → ℕ → List ℕ
flagged_places flags text pattern from size = passing (flagged_place flags text pattern from) from size

abbrev pub flagged_alarms : List Bool → List ℕ → List ℕ → ℕ → ℕ → List ℕ
flagged_alarms flags text pattern from size = passing (flagged_alarm flags text pattern from) from size
