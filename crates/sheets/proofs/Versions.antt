-- Laws of the versions: what the layouts that are read have in common.
use mathlib.Core.Path.{◌≡◌, refl, sym, ap}
use mathlib.Core.Logic.{◌≢◌}
use mathlib.Core.Bool.{true, false, false≢true}
use mathlib.Core.List.{[], ◌∷◌}
use Prim.Native.Nat.{ℕ, ◌+◌, ◌*◌, ◌/◌, ◌^◌, ◌≤◌, ◌<◌}
use native.Mathlib.Nat.{mul-zero, add-zero, div-lt_iff_lt-mul}
use native.Mathlib.Decide.{ℕ_discrete}
use native.Mathlib.Omega.{arith}
use lib.Dec.{lit<}
use lib.ListN.{length, get_or}
use borrow.Author.Tests.{ne_eqb}
use Rattle.refusals.specs.Refusals.{longest}
use Rattle.sheets.specs.Layout.{fingerprint_width, Layout, version1, version2, version3, version4, newest, layouts, known, layout_among, layout_of}
use Rattle.sheets.specs.Layout.{width, field_widths, page_place, sheet_length}
use Rattle.sheets.proofs.Keys.{key_width}

-- versions 1, 2, 3, and every other number
pub first-is : (n : ℕ) → n ≡ 1 → layout_of n ≡ version1
unfolding layout_among
first-is n e = rw e

pub second_is : (n : ℕ) → n ≡ 2 → layout_of n ≡ version2
unfolding layout_among
second_is n e = rw e

pub third_is : (n : ℕ) → n ≡ 3 → layout_of n ≡ version3
unfolding layout_among
third_is n e = rw e

pub other-is : (n : ℕ) → n ≢ 1 → n ≢ 2 → n ≢ 3 → layout_of n ≡ version4
unfolding layout_among
other-is n e f g = go (ℕ_discrete 4 n)
  where
    go : Dec (4 ≡ n) → layout_of n ≡ version4
    go (yes d) = rw (← d)
    go (no d) = rw (ne_eqb 1 n (λ h. e (sym h)), ne_eqb 2 n (λ h. f (sym h)), ne_eqb 3 n (λ h. g (sym h)), ne_eqb 4 n d)

-- what holds of each holds of the layout of every number
pub of_each : (P : Layout → Type 0) → P version1 → P version2 → P version3 → P version4 → (n : ℕ) → P (layout_of n)
of_each P p₁ p₂ p₃ p₄ n = go (ℕ_discrete n 1) (ℕ_discrete n 2) (ℕ_discrete n 3)
  where
    go : Dec (n ≡ 1) → Dec (n ≡ 2) → Dec (n ≡ 3) → P (layout_of n)
    go (yes a) b c = rw (first-is n a) p₁
    go (no a) (yes b) c = rw (second_is n b) p₂
    go (no a) (no b) (yes c) = rw (third_is n c) p₃
    go (no a) (no b) (no c) = rw (other-is n a b c) p₄

-- the width of the length field
abbrev pub length_width : Layout → ℕ
length_width v = get_or v.widths 1 0

pub widths_are : (n : ℕ) → (layout_of n).widths ≡ key_width (layout_of n) ∷ length_width (layout_of n) ∷ 2 ∷ []
widths_are = of_each (λ v. v.widths ≡ key_width v ∷ length_width v ∷ 2 ∷ []) refl refl refl refl

pub three_wide : (n : ℕ) → length (layout_of n).widths ≡ 3
three_wide n = ap length (widths_are n)

pub unit-some : (n : ℕ) → 0 < (layout_of n).length_unit
unit-some = of_each (λ v. 0 < v.length_unit) (lit< tt) (lit< tt) (lit< tt) (lit< tt)

-- every length that is not refused fits its field
room_for : (n : ℕ) → longest < 2 ^ (8 * length_width (layout_of n)) * (layout_of n).length_unit
room_for = of_each (λ v. longest < 2 ^ (8 * length_width v) * v.length_unit) (lit< tt) (lit< tt) (lit< tt) (lit< tt)

pub length-fits : (n m : ℕ) → m ≤ longest → m / (layout_of n).length_unit < 2 ^ (8 * length_width (layout_of n))
length-fits n m h = (div-lt_iff_lt-mul (unit-some n)).1 (omega (arith, room_for n, h))

-- the version that is written
pub newest-is : layout_of newest.version ≡ newest
unfolding layout_among
newest-is = refl

pub newest-known : known layouts newest.version ≡ true
unfolding known
newest-known = refl

-- the fingerprints begin behind the fields
pub place-first : (v : Layout) → width (field_widths v) ≡ page_place v 0
place-first v = sym (rw (mul-zero fingerprint_width) (add-zero (width (field_widths v))))

-- where the fingerprint behind i others stands
pub place-from : (n i : ℕ) → page_place (layout_of n) i ≡ page_place (layout_of n) 0 + 8 * i
place-from n i = of_each (λ v. page_place v i ≡ page_place v 0 + 8 * i) (omega arith) (omega arith) (omega arith) (omega arith) n

pub length_from : (n c : ℕ) → sheet_length (layout_of n) c ≡ page_place (layout_of n) 0 + 8 * c + 8
length_from n c = of_each (λ v. sheet_length v c ≡ page_place v 0 + 8 * c + 8) (omega arith) (omega arith) (omega arith) (omega arith) n

-- no sheet has fewer than 27 bytes
pub least_needed : (n : ℕ) → 27 ≤ sheet_length (layout_of n) 0
least_needed = of_each (λ v. 27 ≤ sheet_length v 0) (omega arith) (omega arith) (omega arith) (omega arith)

-- the number of a version that is known fits its field
pub known_small : (n : ℕ) → known layouts n ≡ true → n < 2 ^ 16
unfolding known
known_small n e = go (ℕ_discrete 1 n) (ℕ_discrete 2 n) (ℕ_discrete 3 n) (ℕ_discrete 4 n)
  where
    go : Dec (1 ≡ n) → Dec (2 ≡ n) → Dec (3 ≡ n) → Dec (4 ≡ n) → n < 2 ^ 16
    go (yes a) b c d = rw (← a) (lit< tt)
    go (no a) (yes b) c d = rw (← b) (lit< tt)
    go (no a) (no b) (yes c) d = rw (← c) (lit< tt)
    go (no a) (no b) (no c) (yes d) = rw (← d) (lit< tt)
    go (no a) (no b) (no c) (no d) = absurd (false≢true (rw (ne_eqb 1 n a, ne_eqb 2 n b, ne_eqb 3 n c, ne_eqb 4 n d) at e))

-- the versions that are known are 1 to 4
module _ (n : ℕ) where
  pub known_between : 1 ≤ n → n ≤ 4 → known layouts n ≡ true
  unfolding known
  known_between l h = go (ℕ_discrete 1 n) (ℕ_discrete 2 n) (ℕ_discrete 3 n) (ℕ_discrete 4 n)
    where
      go : Dec (1 ≡ n) → Dec (2 ≡ n) → Dec (3 ≡ n) → Dec (4 ≡ n) → known layouts n ≡ true
      go (yes a) b c d = rw (← a) refl
      go (no a) (yes b) c d = rw (← b) refl
      go (no a) (no b) (yes c) d = rw (← c) refl
      go (no a) (no b) (no c) (yes d) = rw (← d) refl
      go (no a) (no b) (no c) (no d) = absurd (omega arith)

  pub not-known : (1 ≤ n → n ≤ 4 → ⊥) → known layouts n ≡ false
  unfolding known
  not-known out = rw (
    ne_eqb 1 n (λ e. out (omega arith) (omega arith)),
    ne_eqb 2 n (λ e. out (omega arith) (omega arith)),
    ne_eqb 3 n (λ e. out (omega arith) (omega arith)),
    ne_eqb 4 n (λ e. out (omega arith) (omega arith)),
  ) refl
