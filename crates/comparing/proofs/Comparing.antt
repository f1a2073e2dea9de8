-- Laws of comparing two lists byte by byte, and of flagged windows.
use mathlib.Core.Path.{◌≡◌, refl, sym, ap, ◌∙◌}
use mathlib.Core.Bool.{Bool, true, false, not, ◌||◌}
use mathlib.Core.List.{List, [], ◌∷◌}
use Prim.Native.Nat.{ℕ, ◌+◌, ◌-◌, ◌≤◌, ◌<◌}
use native.Mathlib.Decide.{dec_lt}
use native.Mathlib.Omega.{arith}
use borrow.Author.Tests.{eq-eqb}
use lib.ListN.{length, get_or}
use Rattle.std.proofs.lemmas.List.{ext_get_or}
use Rattle.lists.specs.Lists.{same}
use Rattle.lists.proofs.Lists.{same-eq}
use Rattle.lists.proofs.Truth.{or-neither}
use Rattle.rolling.specs.Rolling.{window}
use Rattle.rolling.proofs.Window.{window-length, window-at}
use Rattle.comparing.specs.Flagged.{NoneFlagged, flagged_place, flagged_alarm}

-- ---- the same bytes

pub same-is : (a b : List ℕ) → same a b ≡ true → a ≡ b
same-is a b e = same-eq a b (rw e tt)

pub same_refl : (a : List ℕ) → same a a ≡ true
unfolding same
same_refl [] = refl
same_refl (x ∷ a) = rw (eq-eqb x x refl) (same_refl a)

false-unless : (b : Bool) → (b ≡ true → ⊥) → b ≡ false
false-unless true n = absurd (n refl)
false-unless false n = refl

-- every byte of the window is the pattern's
pub same_bytes : (text pattern : List ℕ) (at : ℕ) → at + length pattern ≤ length text
    → ((k : ℕ) → k < length pattern → get_or text (at + k) 0 ≡ get_or pattern k 0) → same (window (length pattern) text at) pattern ≡ true
same_bytes text pattern at fits h =
    let long = window-length (length pattern) text at fits in
    let bytes = ext_get_or 0 (window (length pattern) text at) pattern long
    (λ k l. window-at (length pattern) text at k (omega arith) ∙ h k (omega arith)) in
    rw bytes (same_refl pattern)

-- one byte of it is not
pub byte_differs : (text pattern : List ℕ) (at j : ℕ) → j < length pattern → (get_or text (at + j) 0 ≡ get_or pattern j 0 → ⊥)
    → same (window (length pattern) text at) pattern ≡ false
byte_differs text pattern at j h n =
    let w = window (length pattern) text at in
    false-unless (same w pattern) (λ t. n (sym (window-at (length pattern) text at j h) ∙ ap (λ (x : List ℕ). get_or x j 0) (same-is w pattern t)))

-- ---- flagged windows

module _ (flags : List Bool) where
  pub none-join : (first i next : ℕ) → NoneFlagged flags first i → NoneFlagged flags i next → NoneFlagged flags first next
  none-join first i next before behind j l h = go (dec_lt j i)
    where
      go : Dec (j < i) → get_or flags j false ≡ false
      go (yes g) = before j l g
      go (no g) = behind j (omega arith) h

  pub none_more : (first i next : ℕ) → next ≤ i + 1 → NoneFlagged flags first i → get_or flags i false ≡ false → NoneFlagged flags first next
  none_more first i next s before last = none-join first i next before (λ j l h. let e : j ≡ i = omega arith in rw e last)

  abbrev flag : ℕ → Bool
  flag i = get_or flags i false

  pub none-four : (i : ℕ) → (flag i || flag (i + 1) || flag (i + 2) || flag (i + 3)) ≡ false → NoneFlagged flags i (i + 4)
  none-four i e =
      let three = or-neither (flag i || flag (i + 1) || flag (i + 2)) (flag (i + 3)) e in
      let two = or-neither (flag i || flag (i + 1)) (flag (i + 2)) three.0 in
      let one = or-neither (flag i) (flag (i + 1)) two.0 in
      let n₁ = none_more i i (i + 1) (omega arith) (λ j a b. absurd (omega arith)) one.0 in
      let n₂ = none_more i (i + 1) (i + 2) (omega arith) n₁ one.1 in
      let n₃ = none_more i (i + 2) (i + 3) (omega arith) n₂ two.1 in
      none_more i (i + 3) (i + 4) (omega arith) n₃ three.1

  -- four, and four behind them
  pub none-eight : (a b : Bool) (i : ℕ) → (a ≡ false → NoneFlagged flags i (i + 4)) → (b ≡ false → NoneFlagged flags (i + 4) (i + 4 + 4)) → (a || b) ≡ false
      → NoneFlagged flags i (i + 8)
  none-eight a b i f g e = let h = or-neither a b e in none-join i (i + 4) (i + 8) (f h.0) (λ j l m. g h.1 j l (omega arith))

module _ (flags : List Bool) (text pattern : List ℕ) (from i : ℕ) where
  behind : from + i - from ≡ i
  behind = omega arith

  pub unflagged_place : get_or flags i false ≡ false → flagged_place flags text pattern from (from + i) ≡ false
  unfolding flagged_place
  unflagged_place e = rw (behind, e)

  pub unflagged_alarm : get_or flags i false ≡ false → flagged_alarm flags text pattern from (from + i) ≡ false
  unfolding flagged_alarm
  unflagged_alarm e = rw (behind, e)

  module _ (b : Bool) (e : get_or flags i false ≡ true) (p : same (window (length pattern) text (from + i)) pattern ≡ b) where
    pub flagged-place : flagged_place flags text pattern from (from + i) ≡ b
    unfolding flagged_place
    flagged-place = rw (behind, e) p

    pub flagged-alarm : flagged_alarm flags text pattern from (from + i) ≡ not b
    unfolding flagged_alarm
    flagged-alarm = rw (behind, e) (ap not p)
