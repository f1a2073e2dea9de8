-- The flagged windows of a block: which are places, and which are false alarms.
use mathlib.Core.Path.{◌≡◌, refl, sym, ap, ap₂, ◌∙◌}
use mathlib.Core.Bool.{Bool, true, false, ◌&&◌, not}
use mathlib.Core.List.{List}
use Prim.Native.Nat.{ℕ, ◌+◌, ◌-◌, ◌≤◌, ◌<◌}
use native.Mathlib.Nat.{zero-add}
use native.Mathlib.Omega.{arith}
use borrow.Author.Tests.{eq-eqb}
use lib.Dec.{eqb}
use lib.ListN.{length, get_or}
use lib.Seq.{sets}
use Rattle.lists.specs.Lists.{passing, overlay}
use Rattle.lists.proofs.Lent.{overlay_sets}
use Rattle.files.specs.Files.{bits, fingerprint}
use Rattle.comparing.specs.declared.Counts.{Counts}
use Rattle.rolling.specs.declared.text_windows.Windows.{Windows}
use Rattle.search.specs.Searching.{windows, is_place, is_alarm, places, alarms, counts}
use Rattle.rolling.specs.Rolling.{window, residue, key_of}
use Rattle.windows.specs.Flags.{Filled, hit}
use Rattle.rolling.proofs.Window.{window-length}
use Rattle.comparing.specs.Flagged.{flagged_place, flagged_alarm, flagged_places, flagged_alarms}
use Rattle.comparing.proofs.Comparing.{same-is}
use Rattle.rolling.proofs.Residues.{without_one}
use Rattle.comparing.proofs.Numbers.{passing-same}

-- the window has the pattern's fingerprint
unfoldable alike : ℕ → List ℕ → List ℕ → ℕ → Bool
alike key text pattern i = eqb (fingerprint key (bits (window (length pattern) text i))) (fingerprint key (bits pattern))

-- a place has it
place-alike : (p : ℕ) (text pattern : List ℕ) (i : ℕ) → is_place text pattern i ≡ true → alike p text pattern i ≡ true
unfolding is_place alike window
place-alike p text pattern i e =
    eq-eqb (fingerprint p (bits (window (length pattern) text i))) (fingerprint p (bits pattern))
    (ap (λ (l : List ℕ). fingerprint p (bits l)) (same-is (window (length pattern) text i) pattern e))

and_implied : (a b : Bool) → (b ≡ true → a ≡ true) → (a && b) ≡ b
and_implied true b h = refl
and_implied false true h = h refl
and_implied false false h = refl

module _ (w : Windows) (pattern : List ℕ) (from size : ℕ) (flags : List Bool) (pos : 0 < key_of w) (em : w.m ≡ length pattern)
    (ew : w.wanted ≡ residue (key_of w) pattern) (fits : from + size + length pattern ≤ length w.text.now + 1)
    (flagged : Filled false (hit w from) 0 size flags) where
  flag-alike : (i : ℕ) → from ≤ i → i < from + size → get_or flags (i - from) false ≡ alike (key_of w) w.text.now pattern i
  unfolding hit alike
  flag-alike i l h =
      let e : from + (i - from) ≡ i = omega arith in
      flagged.entry (i - from) (omega arith) (omega arith)
      ∙ rw (e, em, ew)
      (sym (without_one pos (window (length pattern) w.text.now i) pattern (window-length (length pattern) w.text.now i (omega arith))))

  pub flagged-places : flagged_places flags w.text.now pattern from size ≡ passing (is_place w.text.now pattern) (0 + from) size
  unfolding flagged_place is_place window
  flagged-places =
      rw (zero-add from)
      (passing-same (flagged_place flags w.text.now pattern from) (is_place w.text.now pattern) from size
      (λ i l h. ap (λ (b : Bool). b && is_place w.text.now pattern i) (flag-alike i l h)
      ∙ and_implied (alike (key_of w) w.text.now pattern i) (is_place w.text.now pattern i) (place-alike (key_of w) w.text.now pattern i)))

  pub flagged-alarms : flagged_alarms flags w.text.now pattern from size ≡ passing (is_alarm (key_of w) w.text.now pattern) (0 + from) size
  unfolding flagged_alarm is_alarm is_place alike window
  flagged-alarms =
      rw (zero-add from)
      (passing-same (flagged_alarm flags w.text.now pattern from) (is_alarm (key_of w) w.text.now pattern) from size
      (λ i l h. ap (λ (b : Bool). b && not (is_place w.text.now pattern i)) (flag-alike i l h)))

-- what was found of all windows is what the call answers
pub all_found : (p : ℕ) (text pattern words₀ words : List ℕ) (found : Counts) (n : ℕ) → n ≡ windows text pattern
    → (found.places ≡ 0 + length (passing (is_place text pattern) 0 n))
    × (found.alarms ≡ 0 + length (passing (is_alarm p text pattern) 0 n))
    × (words ≡ sets words₀ 0 (passing (is_place text pattern) 0 n))
    → (found ≡ counts p text pattern) × (words ≡ overlay (places text pattern) words₀)
unfolding counts places alarms
all_found p text pattern words₀ words found n e (ep, ea, ew) = (
  ap₂ {C = Counts} (λ (x y : ℕ). record { places = x; alarms = y })
      (ep ∙ zero-add (length (passing (is_place text pattern) 0 n)) ∙ ap (λ (m : ℕ). length (passing (is_place text pattern) 0 m)) e)
      (ea ∙ zero-add (length (passing (is_alarm p text pattern) 0 n)) ∙ ap (λ (m : ℕ). length (passing (is_alarm p text pattern) 0 m)) e),
  ew
      ∙ ap (λ (m : ℕ). sets words₀ 0 (passing (is_place text pattern) 0 m)) e
      ∙ sym (overlay_sets (passing (is_place text pattern) 0 (windows text pattern)) words₀),
)
