-- Laws of the first place where two lists of fingerprints differ.
use mathlib.Core.Path.{◌≡◌, refl, sym, ap, ap₂, ◌∙◌}
use mathlib.Core.Logic.{◌≢◌}
use mathlib.Core.List.{List, [], ◌∷◌, ◌++◌}
use Prim.Native.Nat.{ℕ, zero, suc, ◌+◌, ◌-◌, ◌≤◌, ◌<◌}
use native.Mathlib.Nat.{add-zero, zero-add, not-suc-le-zero}
use native.Mathlib.Decide.{ℕ_discrete}
use native.Mathlib.Omega.{arith}
use lib.ListN.{length, get_or, drop, drop_of_length-le}
use borrow.Author.Tests.{eq-eqb, ne_eqb}
use Rattle.lists.proofs.Lists.{drop-next}
use Rattle.big_endian.specs.Numbers.{number_at, numbers_at}
use Rattle.sheets.specs.Claims.{First}
use Rattle.sheets.specs.Inner.{agreeing}
use Rattle.big_endian.proofs.Numbers.{numbers-next}
use Rattle.sheets.specs.Sheets.{Same, Page, OtherLength, first_change}

pub page_inj : {i j : ℕ} → Page i ≡ Page j → i ≡ j
page_inj e = cc

pub not_same : {i : ℕ} → Page i ≡ Same → ⊥
not_same e = let z : ◌≡◌ {A = ℕ} 0 1 = cc in omega arith

pub not-other : {i : ℕ} → OtherLength ≡ Page i → ⊥
not-other e = let z : ◌≡◌ {A = ℕ} 0 1 = cc in omega arith

pub other-not-same : OtherLength ≡ Same → ⊥
other-not-same e = let z : ◌≡◌ {A = ℕ} 0 1 = cc in omega arith

no_change : (n : ℕ) (fs : List ℕ) → first_change n fs fs ≡ Same
unfolding first_change
no_change n [] = refl
no_change n (f ∷ fs) = rw (eq-eqb f f refl) (no_change (suc n) fs)

-- both cases of one comparison
pub data Compared (n f g : ℕ) (fs gs : List ℕ) : Type 0 where
  alike : f ≡ g → first_change n (f ∷ fs) (g ∷ gs) ≡ first_change (suc n) fs gs → Compared n f g fs gs
  unlike : f ≢ g → first_change n (f ∷ fs) (g ∷ gs) ≡ Page n → Compared n f g fs gs

pub compare_heads : (n f g : ℕ) (fs gs : List ℕ) → Compared n f g fs gs
unfolding first_change
compare_heads n f g fs gs = go (ℕ_discrete f g)
  where
    go : Dec (f ≡ g) → Compared n f g fs gs
    go (yes e) = alike e (rw (eq-eqb f g e))
    go (no e) = unlike e (rw (ne_eqb f g e))

pub same-equal : (n : ℕ) (fs gs : List ℕ) → length fs ≡ length gs → first_change n fs gs ≡ Same → fs ≡ gs
same-equal n [] [] l e = refl
same-equal n [] (g ∷ gs) l e = absurd (omega arith)
same-equal n (f ∷ fs) [] l e = absurd (omega arith)
same-equal n (f ∷ fs) (g ∷ gs) l e = go (compare_heads n f g fs gs) (same-equal (suc n) fs gs (omega arith))
  where
    go : Compared n f g fs gs → (first_change (suc n) fs gs ≡ Same → fs ≡ gs) → f ∷ fs ≡ g ∷ gs
    go (alike h d) rest = ap₂ {C = List ℕ} (λ (x : ℕ) (xs : List ℕ). x ∷ xs) h (rest (sym d ∙ e))
    go (unlike h d) rest = absurd (not_same (sym d ∙ e))

pub equal-same : (n : ℕ) (fs gs : List ℕ) → fs ≡ gs → first_change n fs gs ≡ Same
equal-same n fs gs e = ap (λ (hs : List ℕ). first_change n hs gs) e ∙ no_change n gs

-- one place further
first-later : (f g : ℕ) (fs gs : List ℕ) (i : ℕ) → f ≡ g → First fs gs i → First (f ∷ fs) (g ∷ gs) (suc i)
first-later f g fs gs i e h = record { below = omega (arith, h.below); differ = h.differ; equal = equal }
  where
    equal : (j : ℕ) → j < suc i → get_or (f ∷ fs) j 0 ≡ get_or (g ∷ gs) j 0
    equal zero l = e
    equal (suc j) l = h.equal j (omega arith)

first_sooner : (f g : ℕ) (fs gs : List ℕ) (i : ℕ) → First (f ∷ fs) (g ∷ gs) (suc i) → First fs gs i
first_sooner f g fs gs i h = record { below = omega (arith, h.below); differ = h.differ; equal = λ j l. h.equal (suc j) (omega arith) }

pub record Later (n : ℕ) (fs gs : List ℕ) (i : ℕ) : Type 0 where
  pub place : ℕ
  pub counted : i ≡ n + place
  pub first : First fs gs place

pub page-first : (n : ℕ) (fs gs : List ℕ) (i : ℕ) → first_change n fs gs ≡ Page i → Later n fs gs i
unfolding first_change
page-first n [] gs i e = absurd (not_same (sym e))
page-first n (f ∷ fs) [] i e = absurd (not_same (sym e))
page-first n (f ∷ fs) (g ∷ gs) i e = go (compare_heads n f g fs gs) (page-first (suc n) fs gs i)
  where
    go : Compared n f g fs gs → (first_change (suc n) fs gs ≡ Page i → Later (suc n) fs gs i) → Later n (f ∷ fs) (g ∷ gs) i
    go (alike h d) rest =
        let r = rest (sym d ∙ e) in
        record { place = suc r.place; counted = omega (arith, r.counted); first = first-later f g fs gs r.place h r.first }
    go (unlike h d) rest =
        record {
          place = 0;
          counted = sym (page_inj (sym d ∙ e))
              ∙ sym (add-zero n);
          first = record { below = omega arith; differ = h; equal = λ j l. absurd (not-suc-le-zero l) };
        }

pub first-page : (n : ℕ) (fs gs : List ℕ) (i : ℕ) → length fs ≡ length gs → First fs gs i → first_change n fs gs ≡ Page (n + i)
first-page n [] gs i l h = absurd (not-suc-le-zero h.below)
first-page n (f ∷ fs) [] i l h = absurd (omega arith)
first-page n (f ∷ fs) (g ∷ gs) zero l h = go (compare_heads n f g fs gs)
  where
    go : Compared n f g fs gs → first_change n (f ∷ fs) (g ∷ gs) ≡ Page (n + 0)
    go (alike e d) = absurd (h.differ e)
    go (unlike e d) = d ∙ ap Page (sym (add-zero n))
first-page n (f ∷ fs) (g ∷ gs) (suc i) l h = go (compare_heads n f g fs gs) (first-page (suc n) fs gs i (omega arith) (first_sooner f g fs gs i h))
  where
    go : Compared n f g fs gs → first_change (suc n) fs gs ≡ Page (suc n + i) → first_change n (f ∷ fs) (g ∷ gs) ≡ Page (n + suc i)
    go (alike e d) rest = d ∙ rest ∙ ap Page (omega arith)
    go (unlike e d) rest = absurd (e (h.equal 0 (omega arith)))

-- ---- how many numbers, from the first on, agree

agree-step : (f g : ℕ) (fs gs : List ℕ) → f ≡ g → agreeing (f ∷ fs) (g ∷ gs) ≡ suc (agreeing fs gs)
unfolding agreeing
agree-step f g fs gs e = rw (eq-eqb f g e)

agree_stop : (f g : ℕ) (fs gs : List ℕ) → f ≢ g → agreeing (f ∷ fs) (g ∷ gs) ≡ 0
unfolding agreeing
agree_stop f g fs gs n = rw (ne_eqb f g n)

pub agree-le : (fs gs : List ℕ) → agreeing fs gs ≤ length gs
unfolding agreeing
agree-le [] gs = omega arith
agree-le (f ∷ fs) [] = omega arith
agree-le (f ∷ fs) (g ∷ gs) = go (ℕ_discrete f g) (agree-le fs gs)
  where
    go : Dec (f ≡ g) → agreeing fs gs ≤ length gs → agreeing (f ∷ fs) (g ∷ gs) ≤ length (g ∷ gs)
    go (yes e) rest = omega (arith, agree-step f g fs gs e)
    go (no e) rest = omega (arith, agree_stop f g fs gs e)

pub agree-all : (fs : List ℕ) → agreeing fs fs ≡ length fs
unfolding agreeing
agree-all [] = refl
agree-all (f ∷ fs) = agree-step f f fs fs refl ∙ ap suc (agree-all fs)

-- two lists of one length, and what stands behind each
module _ (xs ys : List ℕ) where
  pub agree-here : (fs gs : List ℕ) → length fs ≡ length gs → agreeing fs gs < length gs → agreeing (fs ++ xs) (gs ++ ys) ≡ agreeing fs gs
  agree-here fs [] l h = absurd (not-suc-le-zero h)
  agree-here [] (g ∷ gs) l h = absurd (omega arith)
  agree-here (f ∷ fs) (g ∷ gs) l h = go (ℕ_discrete f g) (agree-here fs gs (omega arith))
    where
      go : Dec (f ≡ g) → (agreeing fs gs < length gs → agreeing (fs ++ xs) (gs ++ ys) ≡ agreeing fs gs)
          → agreeing (f ∷ fs ++ xs) (g ∷ gs ++ ys) ≡ agreeing (f ∷ fs) (g ∷ gs)
      go (yes e) rest =
          let s = agree-step f g fs gs e in
          agree-step f g (fs ++ xs) (gs ++ ys) e ∙ ap suc (rest (omega (arith, s))) ∙ sym s
      go (no e) rest = agree_stop f g (fs ++ xs) (gs ++ ys) e ∙ sym (agree_stop f g fs gs e)

  pub agree-further : (fs gs : List ℕ) → length fs ≡ length gs → length gs ≤ agreeing fs gs
      → agreeing (fs ++ xs) (gs ++ ys) ≡ length gs + agreeing xs ys
  agree-further [] [] l h = sym (zero-add (agreeing xs ys))
  agree-further (f ∷ fs) [] l h = absurd (omega arith)
  agree-further [] (g ∷ gs) l h = absurd (omega arith)
  agree-further (f ∷ fs) (g ∷ gs) l h = go (ℕ_discrete f g) (agree-further fs gs (omega arith))
    where
      go : Dec (f ≡ g) → (length gs ≤ agreeing fs gs → agreeing (fs ++ xs) (gs ++ ys) ≡ length gs + agreeing xs ys)
          → agreeing (f ∷ fs ++ xs) (g ∷ gs ++ ys) ≡ length (g ∷ gs) + agreeing xs ys
      go (yes e) rest = omega (arith, agree-step f g (fs ++ xs) (gs ++ ys) e, rest (omega (arith, agree-step f g fs gs e)))
      go (no e) rest = absurd (omega (arith, agree_stop f g fs gs e))

-- what differs first is behind them
pub changed_at : (i : ℕ) (fs gs : List ℕ) → length fs ≡ length gs → agreeing fs gs < length gs → first_change i fs gs ≡ Page (i + agreeing fs gs)
changed_at i fs [] l h = absurd (not-suc-le-zero h)
changed_at i [] (g ∷ gs) l h = absurd (omega arith)
changed_at i (f ∷ fs) (g ∷ gs) l h = go (compare_heads i f g fs gs) (changed_at (suc i) fs gs (omega arith))
  where
    go : Compared i f g fs gs → (agreeing fs gs < length gs → first_change (suc i) fs gs ≡ Page (suc i + agreeing fs gs))
        → first_change i (f ∷ fs) (g ∷ gs) ≡ Page (i + agreeing (f ∷ fs) (g ∷ gs))
    go (alike e d) rest = let s = agree-step f g fs gs e in d ∙ rest (omega (arith, s)) ∙ ap Page (omega (arith, s))
    go (unlike e d) rest = d ∙ ap Page (omega (arith, agree_stop f g fs gs e))

pub changed_nowhere : (i : ℕ) (fs gs : List ℕ) → length fs ≡ length gs → length gs ≤ agreeing fs gs → first_change i fs gs ≡ Same
unfolding first_change
changed_nowhere i [] gs l h = refl
changed_nowhere i (f ∷ fs) [] l h = absurd (omega arith)
changed_nowhere i (f ∷ fs) (g ∷ gs) l h = go (compare_heads i f g fs gs) (changed_nowhere (suc i) fs gs (omega arith))
  where
    go : Compared i f g fs gs → (length gs ≤ agreeing fs gs → first_change (suc i) fs gs ≡ Same) → first_change i (f ∷ fs) (g ∷ gs) ≡ Same
    go (alike e d) rest = d ∙ rest (omega (arith, agree-step f g fs gs e))
    go (unlike e d) rest = absurd (omega (arith, agree_stop f g fs gs e))

-- as the code counts them: fields of a sheet from a place on, and the numbers from the i-th on
module _ (place : ℕ) (sheet gs : List ℕ) (i : ℕ) (l : i < length gs) where
  heads : agreeing (numbers_at place 8 (length gs - i) sheet) (drop i gs)
      ≡ agreeing (number_at place 8 sheet ∷ numbers_at (place + 8) 8 (length gs - (i + 1)) sheet) (get_or gs i 0 ∷ drop (i + 1) gs)
  heads =
      let e : length gs - i - 1 ≡ length gs - (i + 1) = omega arith in
      ap₂ agreeing (numbers-next place 8 (length gs - i) sheet (omega arith) ∙ ap (λ (n : ℕ). number_at place 8 sheet ∷ numbers_at (place + 8) 8 n sheet) e)
      (drop-next gs i 0 l)

  pub agree_on : number_at place 8 sheet ≡ get_or gs i 0
      → agreeing (numbers_at place 8 (length gs - i) sheet) (drop i gs) ≡ suc
      (agreeing (numbers_at (place + 8) 8 (length gs - (i + 1)) sheet) (drop (i + 1) gs))
  agree_on e = heads ∙ agree-step _ _ _ _ e

  pub agree_off : number_at place 8 sheet ≢ get_or gs i 0 → agreeing (numbers_at place 8 (length gs - i) sheet) (drop i gs) ≡ 0
  agree_off n = heads ∙ agree_stop _ _ _ _ n

-- no number is left
pub agree-end : (gs fs : List ℕ) (i : ℕ) → length gs ≤ i → agreeing fs (drop i gs) ≡ 0
unfolding agreeing
agree-end gs [] i l = refl
agree-end gs (f ∷ fs) i l = rw (drop_of_length-le gs {i = i} l)
