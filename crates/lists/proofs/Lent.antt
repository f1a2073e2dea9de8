-- Numbers written one after the other to a lent list; past its end nothing is written.
use mathlib.Core.Path.{◌≡◌, refl, sym, ap, ◌∙◌}
use mathlib.Core.List.{List, [], ◌∷◌, ◌++◌}
use Prim.Native.Nat.{ℕ, suc, ◌+◌, ◌≤◌}
use native.Mathlib.Nat.{add-zero, add-suc, suc-add}
use lib.ListN.{length, set, drop}
use lib.Seq.{sets, take_all, take-nil, length-sets}
use Rattle.lists.specs.Lists.{overlay}

pub sets_append : (l : List ℕ) (i : ℕ) (x y : List ℕ) → sets l i (x ++ y) ≡ sets (sets l i x) (i + length x) y
sets_append l i [] y = rw add-zero
sets_append l i (a ∷ x) y = sets_append (set l i a) (suc i) x y ∙ rw (suc-add i (length x), add-suc i (length x))

sets_behind : (y : ℕ) (l : List ℕ) (i : ℕ) (ns : List ℕ) → sets (y ∷ l) (suc i) ns ≡ y ∷ sets l i ns
sets_behind y l i [] = refl
sets_behind y l i (n ∷ ns) = sets_behind y (set l i n) (suc i) ns

sets_empty : (i : ℕ) (ns : List ℕ) → sets {A = ℕ} [] i ns ≡ []
sets_empty i [] = refl
sets_empty i (n ∷ ns) = sets_empty (suc i) ns

pub overlay-none : (l : List ℕ) → overlay [] l ≡ l
unfolding overlay
overlay-none l = ap (λ (r : List ℕ). r ++ l) (take-nil (length l))

pub overlay_sets : (ns l : List ℕ) → overlay ns l ≡ sets l 0 ns
unfolding overlay
overlay_sets [] l = overlay-none l
overlay_sets (n ∷ ns) [] = sym (sets_empty 1 ns)
overlay_sets (n ∷ ns) (w ∷ l) = ap (λ (r : List ℕ). n ∷ r) (overlay_sets ns l) ∙ sym (sets_behind n l 0 ns)

pub overlay-length : (ns l : List ℕ) → length (overlay ns l) ≡ length l
overlay-length ns l = ap length (overlay_sets ns l) ∙ length-sets l 0 ns

pub overlay-fits : (ns l : List ℕ) → length ns ≤ length l → overlay ns l ≡ ns ++ drop (length ns) l
unfolding overlay
overlay-fits ns l h = ap (λ (r : List ℕ). r ++ drop (length ns) l) (take_all (length l) ns h)
