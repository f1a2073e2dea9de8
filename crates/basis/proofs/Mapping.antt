-- A buffer whose rows are replaced one by one, from the front, each by its value under f.
use Rattle.std.proofs.Common.{◌≡◌, ℕ, zero, suc, ◌+◌, ◌<◌, List, [], ◌∷◌, ◌++◌, map, length, get_or, take, drop, set, refl, ap, ◌∙◌, ap₂, le_of_suc-le-suc}
use Rattle.std.proofs.Common.{not-suc-le-zero, add-one}

-- the first i of the given rows are replaced, each by its value under f
abbrev pub Mapped : (ℕ → ℕ) → ℕ → List ℕ → List ℕ → Type 0
Mapped f i given rows = rows ≡ map f (take i given) ++ drop i given

module _ (f : ℕ → ℕ) where
  entry : (i : ℕ) (given : List ℕ) → get_or (map f (take i given) ++ drop i given) i 0 ≡ get_or given i 0
  entry zero given = refl
  entry (suc i) [] = refl
  entry (suc i) (r ∷ given) = entry i given

  more : (i : ℕ) (given : List ℕ) → i < length given
      → set (map f (take i given) ++ drop i given) i (f (get_or given i 0)) ≡ map f (take (suc i) given) ++ drop (suc i) given
  more i [] h = absurd (not-suc-le-zero h)
  more zero (r ∷ given) h = refl
  more (suc i) (r ∷ given) h = ap (λ (x : List ℕ). f r ∷ x) (more i given (le_of_suc-le-suc h))

  whole : (given : List ℕ) → map f (take (length given) given) ++ drop (length given) given ≡ map f given
  whole [] = refl
  whole (r ∷ given) = ap (λ (x : List ℕ). f r ∷ x) (whole given)

  module _ (i : ℕ) (given : List ℕ) {rows : List ℕ} (h : Mapped f i given rows) where
    pub mapped_at : get_or rows i 0 ≡ get_or given i 0
    mapped_at = ap (λ (x : List ℕ). get_or x i 0) h ∙ entry i given

    pub mapped_next : {x : ℕ} → i < length given → x ≡ f (get_or rows i 0) → Mapped f (i + 1) given (set rows i x)
    mapped_next l e = ap₂ (λ (t : List ℕ) (y : ℕ). set t i y) h (e ∙ ap f mapped_at) ∙ rw add-one (more i given l)

    pub mapped-whole : i ≡ length given → rows ≡ map f given
    mapped-whole e = rw e at h ∙ whole given
