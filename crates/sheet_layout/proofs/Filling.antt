-- The pages of a file, and their marks joined, depend of a layout on whether a last page is filled up, and on nothing else.
use mathlib.Core.Path.{◌≡◌, refl, ap, ◌∙◌}
use mathlib.Core.Bool.{Bool}
use mathlib.Core.List.{List, [], ◌∷◌}
use Prim.Native.Nat.{ℕ, zero, suc, ◌-◌}
use lib.ListN.{take, drop}
use Rattle.files.specs.declared.Mark.{Mark}
use Rattle.files.specs.Files.{fingerprint, joined}
use Rattle.sheets.specs.Layout.{Layout}
use Rattle.sheets.specs.Sheets.{page_of, page_fingerprints, page_length, joined_pages}
use Rattle.sheets.specs.Inner.{filling}

own-prints : (v : Layout) (key s c : ℕ) (file : List ℕ) → page_fingerprints v key s c file ≡ page_fingerprints (filling v.filled) key s c file
unfolding page_fingerprints
own-prints v key s zero file = refl
own-prints v key s (suc c) file = ap (λ (fs : List ℕ). fingerprint key (page_of v s (take s file)) ∷ fs) (own-prints v key s c (drop s file))

own-joined : (v : Layout) (key s left : ℕ) (m : Mark) (fs : List ℕ) → joined_pages v key s left m fs ≡ joined_pages (filling v.filled) key s left m fs
unfolding joined_pages
own-joined v key s left m [] = refl
own-joined v key s left m (f ∷ fs) = own-joined v key s (left - s) (joined key m (record { fingerprint = f; length = page_length v s left })) fs

module _ (v : Layout) (b : Bool) (e : v.filled ≡ b) where
  pub prints-filling : (key s c : ℕ) (file : List ℕ) → page_fingerprints v key s c file ≡ page_fingerprints (filling b) key s c file
  prints-filling key s c file = own-prints v key s c file ∙ ap (λ (d : Bool). page_fingerprints (filling d) key s c file) e

  pub joined-filling : (key s left : ℕ) (m : Mark) (fs : List ℕ) → joined_pages v key s left m fs ≡ joined_pages (filling b) key s left m fs
  joined-filling key s left m fs = own-joined v key s left m fs ∙ ap (λ (d : Bool). joined_pages (filling d) key s left m fs) e
