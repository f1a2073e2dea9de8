-- Parts of equal lists: two lists of one length that agree outside k neighbouring places have equal parts before and behind these
-- places; and what stands beside a common part is equal.
use mathlib.Core.Path.{◌≡◌, refl, sym, ap, ap₂, ◌∙◌}
use mathlib.Core.Logic.{◌≢◌, ◌⊎◌, inl, inr}
use mathlib.Core.List.{List, ◌++◌, append-nil, append_assoc}
use Prim.Native.Nat.{ℕ, ◌+◌, ◌-◌, ◌≤◌, ◌<◌, min}
use native.Mathlib.Decide.{ℕ_discrete}
use native.Mathlib.Omega.{arith}
use lib.ListN.{length, get_or, take, drop, length-append, length-take, length-drop, take-append-drop}
use lib.Seq.{ext_get_or, get_or-take, get_or-drop, take_at, drop_at, drop-length, length-take-le}
use borrow.Rule.Slice.PartMut.{put_mid, Post-is}

-- before the place `first`, k entries from there on, and those behind
pub three_parts : {A : Type 0} (first k : ℕ) (l : List A) → take first l ++ take k (drop first l) ++ drop k (drop first l) ≡ l
three_parts first k l =
    append_assoc (take first l) (take k (drop first l)) (drop k (drop first l))
    ∙ ap (λ r. take first l ++ r) (take-append-drop k (drop first l))
    ∙ take-append-drop first l

-- where entries differ only from the place `first` to the place `last`, they agree outside k places, if `last` is one of these
pub outside : (a b : List ℕ) (first last k : ℕ) → last < first + k → ((i : ℕ) → get_or a i 0 ≢ get_or b i 0 → (first ≤ i) × (i ≤ last))
    → (i : ℕ) → (i < first) ⊎ (first + k ≤ i) → get_or a i 0 ≡ get_or b i 0
outside a b first last k near between i h = go h (ℕ_discrete (get_or a i 0) (get_or b i 0))
  where
    go : (i < first) ⊎ (first + k ≤ i) → Dec (get_or a i 0 ≡ get_or b i 0) → get_or a i 0 ≡ get_or b i 0
    go h' (yes e) = e
    go (inl l) (no n) = absurd (omega (arith, (between i n).0))
    go (inr l) (no n) = absurd (omega (arith, (between i n).1))

module _ {A : Type 0} (d : A) (first k : ℕ) (a b : List A) (len : length a ≡ length b)
    (agree : (i : ℕ) → (i < first) ⊎ (first + k ≤ i) → get_or a i d ≡ get_or b i d) where
  same-front : take first a ≡ take first b
  same-front =
      ext_get_or d (take first a) (take first b) (length-take first a ∙ ap (λ (n : ℕ). min first n) len ∙ sym (length-take first b))
      (λ i l. let h : i < first = omega (arith, length-take first a) in get_or-take first a i d h ∙ agree i (inl h) ∙ sym (get_or-take first b i d h))

  at : (l : List A) (i : ℕ) → get_or (drop k (drop first l)) i d ≡ get_or l (first + (k + i)) d
  at l i = get_or-drop k (drop first l) i d ∙ get_or-drop first l (k + i) d

  same_back : drop k (drop first a) ≡ drop k (drop first b)
  same_back =
      ext_get_or d (drop k (drop first a)) (drop k (drop first b))
      (omega (arith, length-drop k (drop first a), length-drop first a, length-drop k (drop first b), length-drop first b))
      (λ i l. at a i ∙ agree (first + (k + i)) (inr (omega arith)) ∙ sym (at b i))

  pub middles_length : length (take k (drop first a)) ≡ length (take k (drop first b))
  middles_length = omega (arith, length-take k (drop first a), length-drop first a, length-take k (drop first b), length-drop first b)

  -- the second list is the first with another middle
  pub other-middle : b ≡ take first a ++ take k (drop first b) ++ drop k (drop first a)
  other-middle = sym (ap₂ (λ x y. x ++ take k (drop first b) ++ y) same-front same_back ∙ three_parts first k b)

module _ {A : Type 0} (a b common : List A) where
  pub behind_common : common ++ a ≡ common ++ b → a ≡ b
  behind_common e =
      sym (drop_at common a (length common) refl) ∙ ap (drop (length common)) e ∙ drop_at common b (length common) refl

  pub before_common : a ++ common ≡ b ++ common → a ≡ b
  before_common e =
      sym (take_at a common (length a) refl)
      ∙ ap (take (length a)) e
      ∙ take_at b common (length a) (omega (arith, ap length e, length-append a common, length-append b common))

-- what was put in the place of all from a place on
pub put_last : (at : ℕ) (l part : List ℕ) → at ≤ length l → drop at (put_mid at (length l - at) l part) ≡ part
put_last at l part h =
    drop_at (take at l) _ at (length-take-le at l h)
    ∙ ap (λ (x : List ℕ). part ++ x) (Post-is at (length l) l h ∙ drop-length l)
    ∙ append-nil part
