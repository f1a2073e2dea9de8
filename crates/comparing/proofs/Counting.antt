-- A count under way over the flagged windows, one turn: the window at i is flagged, and `next` is the flagged one behind it.
use mathlib.Core.Path.{◌≡◌}
use mathlib.Core.Bool.{Bool, true, false}
use mathlib.Core.List.{List}
use Prim.Native.Nat.{ℕ, ◌+◌, ◌≤◌, ◌<◌}
use lib.ListN.{length, get_or, set}
use Rattle.lists.specs.Lists.{same}
use Rattle.rolling.specs.Rolling.{window}
use Rattle.std.specs.Prelude.{Option, Some, None, MatchOption}
use native.Mathlib.Omega.{arith}
use Rattle.comparing.specs.Flagged.{NoneFlagged, NextFlagged, flagged_place, flagged_alarm}
use Rattle.comparing.proofs.Comparing.{unflagged_place, unflagged_alarm, flagged-place, flagged-alarm}
use Rattle.comparing.proofs.Numbers.{Tally, tally_skip, tally_place, tally_alarm}

-- where the next flagged window is: behind the last one where there is none
abbrev pub place_of : ℕ → Option ℕ → ℕ
place_of size None = size
place_of size (Some i) = i

-- it is below the size, and flagged
abbrev pub Ahead : List Bool → ℕ → Option ℕ → Type 0
Ahead flags size next = MatchOption next (Unit {0}) (λ i. (i < size) × (get_or flags i false ≡ true))

pub ahead-next : (flags : List Bool) (first size : ℕ) (next : Option ℕ) → NextFlagged flags first size next → Ahead flags size next
ahead-next flags first size None f = tt
ahead-next flags first size (Some i) f = (f.high, f.flagged)

pub place-low : (flags : List Bool) (first size : ℕ) (next : Option ℕ) → first ≤ size → NextFlagged flags first size next → first ≤ place_of size next
place-low flags first size None l f = l
place-low flags first size (Some i) l f = f.low

module _ (flags : List Bool) (text pattern : List ℕ) (from size : ℕ) where
  abbrev pub Counted : List ℕ → ℕ → ℕ → List ℕ → ℕ → ℕ → ℕ → Type 0
  Counted = Tally (flagged_place flags text pattern from) (flagged_alarm flags text pattern from) from size

  module _ {words₀ words : List ℕ} {p₀ a₀ p a i : ℕ} (t : Counted words₀ p₀ a₀ words p a i) where
    passed : (next : ℕ) → i ≤ next → next ≤ size → NoneFlagged flags i next → Counted words₀ p₀ a₀ words p a next
    passed next l h none =
        tally_skip t next l h
        (λ j l h. (unflagged_place flags text pattern from j (none j l h), unflagged_alarm flags text pattern from j (none j l h)))

    -- windows without a flag are passed over
    pub skipped : i ≤ size → (next : Option ℕ) → NextFlagged flags i size next → Counted words₀ p₀ a₀ words p a (place_of size next)
    skipped l None none = passed size l (omega arith) none
    skipped l (Some n) f = passed n f.low (omega (arith, f.high)) f.none

  module _ {words₀ words : List ℕ} {p₀ a₀ p a i : ℕ} (t : Counted words₀ p₀ a₀ words p a i) (l : i < size) (flag : get_or flags i false ≡ true)
      (next : Option ℕ) (f : NextFlagged flags (i + 1) size next) where
    pub place-next : (after : List ℕ) → after ≡ set words p (from + i) → same (window (length pattern) text (from + i)) pattern ≡ true
        → Counted words₀ p₀ a₀ after (p + 1) a (place_of size next)
    place-next after e z =
        rw e
        (skipped (tally_place t l (flagged-place flags text pattern from i true flag z) (flagged-alarm flags text pattern from i true flag z)) (omega arith)
        next f)

    pub alarm_next : same (window (length pattern) text (from + i)) pattern ≡ false → Counted words₀ p₀ a₀ words p (a + 1) (place_of size next)
    alarm_next z =
        skipped (tally_alarm t l (flagged-place flags text pattern from i false flag z) (flagged-alarm flags text pattern from i false flag z)) (omega arith)
        next f
