-- Laws of the pages of a file, of s bits each, as each version takes them: their count, and that their marks joined are the mark of the file
-- with zeros behind it, none where pages are not filled up.
use mathlib.Core.Path.{◌≡◌, refl, sym, ap, ap₂, ◌∙◌}
use mathlib.Core.Bool.{Bool, true, false, cond}
use mathlib.Core.List.{List, [], ◌∷◌, ◌++◌, append_assoc, append-nil}
use Prim.Native.Nat.{ℕ, zero, suc, ◌+◌, ◌-◌, ◌*◌, ◌/◌, ◌^◌, ◌≤◌, ◌<◌, min}
use native.Mathlib.Nat.{div-add-mod', le-div_iff_mul-le, mod-lt, mul-add-div_right, mul-le-mul_left, mul-le-mul_right, mul-one, sub-zero, suc-add, suc-mul}
use native.Mathlib.Nat.{div-div-eq-div-mul, add-mul, zero-add, zero-mul, le_refl}
use native.Mathlib.Decide.{dec_le}
use native.Mathlib.Omega.{arith}
use lib.ListN.{length, get_or, take, drop, replicate, length-append, length-replicate, length-drop, length-take, drop_of_length-le, take-append-drop}
use lib.ListN.{replicate-append-replicate}
use lib.Seq.{drop-drop, length-take-le, take-add, take_all, take_at, drop_at}
use Rattle.gf2.specs.Polynomials.{rem, degree}
use Rattle.lists.specs.Lists.{All}
use Rattle.gf2.proofs.Products.{shl_suc}
use Rattle.gf2.proofs.Residues.{rem_lt}
use Rattle.files.specs.declared.Mark.{Mark}
use Rattle.refusals.specs.Refusals.{longest}
use Rattle.files.specs.Files.{value_from, value, fingerprint, mark_of, Part, part_length, joined, fingerprint_from, joined_from, mark_from}
use Rattle.files.proofs.Parts.{part_bytes}
use Rattle.files.proofs.Marks.{fed, joined_true}
use Rattle.sheets.specs.Layout.{Layout, page_count, pages_for}
use Rattle.sheets.specs.Sheets.{filled, page_of, page_fingerprints, page_length, joined_pages}
use Rattle.sheets.specs.Inner.{zeros_behind}

-- ---- the number of pages

pub count-covers : (s n : ℕ) → 0 < s → n ≤ page_count s n * s
count-covers s n h = omega (arith, div-add-mod' (n + s - 1) s, mod-lt (n + s - 1) h)

pub count-tight : (s n : ℕ) → 0 < s → page_count s n * s < n + s
count-tight s n h = omega (arith, div-add-mod' (n + s - 1) s)

-- pages of s bytes, an unfinished byte counted as one, are pages of 8s bits
pub pages-count : (s n : ℕ) → 0 < s → pages_for s n ≡ page_count (8 * s) n
pages-count s n h =
    let e : (n + 7) / 8 + s - 1 ≡ (n + 8 * s - 1) / 8 = omega arith in
    ap (λ (m : ℕ). m / s) e ∙ div-div-eq-div-mul (n + 8 * s - 1) 8 s

pub count-few : (s n : ℕ) → 16 ≤ s → s ≤ 4096 → n < 2 ^ 32 → page_count s n < 2 ^ 29
count-few s n lo hi b = omega (arith, count-tight s n (omega arith), mul-le-mul_left (page_count s n) lo)

pub count_small : (s n : ℕ) → 16 ≤ s → s ≤ 4096 → n ≤ longest → pages_for s n < 2 ^ 29
count_small s n lo hi b = count-few s ((n + 7) / 8) lo hi (omega arith)

-- ---- a page filled up

pub length-filled : (s : ℕ) (page : List ℕ) → length page ≤ s → length (filled s page) ≡ s
unfolding filled
length-filled s page h = length-append page (replicate (s - length page) 0) ∙ rw (length-replicate {A = ℕ} (s - length page) 0) (omega arith)

pub filled-whole : (s : ℕ) (page : List ℕ) → length page ≡ s → filled s page ≡ page
unfolding filled
filled-whole s page e = let z : s - length page ≡ 0 = omega arith in rw z (append-nil page)

page-short : (s : ℕ) (file : List ℕ) → length (take s file) ≤ s
page-short s file = rw (length-take s file) (omega arith)

-- ---- a page as a version takes it

-- as long as it counts
length-page : (v : Layout) (s : ℕ) (file : List ℕ) → length (page_of v s (take s file)) ≡ page_length v s (length file)
length-page v s file = go v.filled
  where
    go : (b : Bool) → length (cond b (filled s (take s file)) (take s file)) ≡ cond b s (min s (length file))
    go true = length-filled s (take s file) (page-short s file)
    go false = length-take s file

pub page-whole : (v : Layout) (s : ℕ) (page : List ℕ) → length page ≡ s → page_of v s page ≡ page
page-whole v s page e = go v.filled
  where
    go : (b : Bool) → cond b (filled s page) page ≡ page
    go true = filled-whole s page e
    go false = refl

-- zeros behind a start: a shift
value-zeros : (m x : ℕ) → value_from x (replicate m 0) ≡ x * 2 ^ m
unfolding value_from
value-zeros zero x = sym (mul-one x)
value-zeros (suc m) x = value-zeros m (x * 2 + 0) ∙ omega (arith, shl_suc x m)

module _ {p : ℕ} (pos : 0 < p) where
  -- the fingerprint of a file with zeros behind it
  pub with_zeros : (m : ℕ) (file : List ℕ) → rem p (fingerprint p file * 2 ^ m) ≡ fingerprint p (file ++ replicate m 0)
  with_zeros m file = ap (rem p) (sym (value-zeros m (fingerprint p file))) ∙ fed pos 1 file (replicate m 0)

  pub fingerprint-lt : (file : List ℕ) → fingerprint p file < 2 ^ degree p
  unfolding fingerprint_from
  fingerprint-lt file = rem_lt pos (value file)

  pub fingerprints-lt : (v : Layout) (c s : ℕ) (file : List ℕ) → All (λ f. f < 2 ^ degree p) (page_fingerprints v p s c file)
  unfolding page_fingerprints
  fingerprints-lt v zero s file = tt
  fingerprints-lt v (suc c) s file = (fingerprint-lt (page_of v s (take s file)), fingerprints-lt v c s (drop s file))

pub length-pages : (v : Layout) (p c s : ℕ) (file : List ℕ) → length (page_fingerprints v p s c file) ≡ c
unfolding page_fingerprints
length-pages v p zero s file = refl
length-pages v p (suc c) s file = ap suc (length-pages v p c s (drop s file))

-- ---- the pages joined

-- the first c pages behind each other, as the version takes them
unfoldable pub laid_pages : Layout → ℕ → ℕ → List ℕ → List ℕ
laid_pages v s zero file = []
laid_pages v s (suc c) file = page_of v s (take s file) ++ laid_pages v s c (drop s file)

pages-filled : (v : Layout) → v.filled ≡ true → (c s : ℕ) (file : List ℕ) → length file ≤ c * s
    → laid_pages v s c file ≡ file ++ replicate (c * s - length file) 0
unfolding laid_pages filled
pages-filled v f zero s [] h = rw (zero-mul s)
pages-filled v f zero s (b ∷ file) h = absurd (omega (arith, zero-mul s))
pages-filled v f (suc c) s file h =
    ap (λ (b : Bool). cond b (filled s (take s file)) (take s file) ++ laid_pages v s c (drop s file)) f
    ∙ go (dec_le s (length file)) (pages-filled v f c s (drop s file) (rw (length-drop s file) (omega arith)))
  where
    go : Dec (s ≤ length file) → laid_pages v s c (drop s file) ≡ drop s file ++ replicate (c * s - length (drop s file)) 0
        → filled s (take s file) ++ laid_pages v s c (drop s file) ≡ file ++ replicate (suc c * s - length file) 0
    go (yes l) ih =
        let left : c * s - (length file - s) ≡ suc c * s - length file = omega arith in
        rw (filled-whole s (take s file) (length-take-le s file l), ih, length-drop s file, left, ← append_assoc, take-append-drop s file)
    go (no l) ih =
        let short : length file ≤ s = omega arith in
        let all : s - length file + c * s ≡ suc c * s - length file = omega arith in
        rw (take_all s file short, ih, drop_of_length-le file {i = s} short, sub-zero)
        (append_assoc file (replicate (s - length file) 0) (replicate (c * s) 0)
        ∙ ap (λ (l : List ℕ). file ++ l) (replicate-append-replicate (s - length file) (c * s) 0 ∙ ap (λ (n : ℕ). replicate n 0) all))

pages-own : (v : Layout) → v.filled ≡ false → (c s : ℕ) (file : List ℕ) → laid_pages v s c file ≡ take (c * s) file
unfolding laid_pages
pages-own v f zero s file = ap (λ (k : ℕ). take k file) (sym (zero-mul s))
pages-own v f (suc c) s file =
    let e : s + c * s ≡ suc c * s = omega (arith, suc-mul c s) in
    ap₂ (λ (b : Bool) (l : List ℕ). cond b (filled s (take s file)) (take s file) ++ l) f (pages-own v f c s (drop s file))
    ∙ sym (take-add s (c * s) file)
    ∙ ap (λ (k : ℕ). take k file) e

-- all pages of a file: the file, and zeros where they are filled up
pages_are : (v : Layout) (s : ℕ) (file : List ℕ) → 0 < s
    → laid_pages v s (page_count s (length file)) file ≡ file ++ replicate (zeros_behind v s (length file)) 0
pages_are v s file h = go v.filled refl
  where
    covers : length file ≤ page_count s (length file) * s
    covers = count-covers s (length file) h

    go : (b : Bool) → v.filled ≡ b → laid_pages v s (page_count s (length file)) file ≡ file ++ replicate (zeros_behind v s (length file)) 0
    go true e = pages-filled v e (page_count s (length file)) s file covers ∙ rw e
    go false e = pages-own v e (page_count s (length file)) s file ∙ take_all (page_count s (length file) * s) file covers ∙ rw e (sym (append-nil file))

module _ {p : ℕ} (pos : 0 < p) where
  joined_is : (a b : List ℕ) (n : ℕ) → length b ≡ n → joined p (mark_of p a) (record { fingerprint = fingerprint p b; length = n }) ≡ mark_of p (a ++ b)
  unfolding mark_from
  joined_is a b n e = rw (← e) (joined_true 1 pos a b)

  pub joined-pages : (v : Layout) (c s : ℕ) (pre file : List ℕ)
      → joined_pages v p s (length file) (mark_of p pre) (page_fingerprints v p s c file) ≡ mark_of p (pre ++ laid_pages v s c file)
  unfolding joined_pages page_fingerprints laid_pages
  joined-pages v zero s pre file = ap (mark_of p) (sym (append-nil pre))
  joined-pages v (suc c) s pre file =
      let page = page_of v s (take s file) in
      ap₂ (λ (m : Mark) (n : ℕ). joined_pages v p s n m (page_fingerprints v p s c (drop s file)))
      (joined_is pre page (page_length v s (length file)) (length-page v s file)) (sym (length-drop s file))
      ∙ joined-pages v c s (pre ++ page) (drop s file)
      ∙ ap (mark_of p) (append_assoc pre page (laid_pages v s c (drop s file)))

  -- the page marks of a file joined are the mark of the file with zeros behind it,
  pub pages-joined : (v : Layout) (s : ℕ) (file : List ℕ) → 0 < s
      → joined_pages v p s (length file) (mark_of p []) (page_fingerprints v p s (page_count s (length file)) file)
      ≡ mark_of p (file ++ replicate (zeros_behind v s (length file)) 0)
  pages-joined v s file h = joined-pages v (page_count s (length file)) s [] file ∙ ap (mark_of p) (pages_are v s file h)

  -- whose fingerprint is the file's times t^(zeros)
  pub pages-joined-print : (v : Layout) (s : ℕ) (file : List ℕ) → 0 < s
      → (joined_pages v p s (length file) (mark_of p []) (page_fingerprints v p s (page_count s (length file)) file)).fingerprint
      ≡ rem p (fingerprint p file * 2 ^ zeros_behind v s (length file))
  unfolding mark_from
  pages-joined-print v s file h =
      ap (λ (m : Mark). m.fingerprint) (pages-joined v s file h) ∙ sym (with_zeros pos (zeros_behind v s (length file)) file)

  -- where pages are not filled up: the file's own mark
  pub own-joined : (v : Layout) → v.filled ≡ false → (s : ℕ) (file : List ℕ) → 0 < s
      → joined_pages v p s (length file) (mark_of p []) (page_fingerprints v p s (page_count s (length file)) file) ≡ mark_of p file
  own-joined v f s file h =
      pages-joined v s file h
      ∙ ap (λ (b : Bool). mark_of p (file ++ replicate (cond b (page_count s (length file) * s - length file) 0) 0)) f
      ∙ ap (mark_of p) (append-nil file)

-- ---- the length of marks joined

min-step : (m s left : ℕ) → min s left + min m (left - s) ≡ min (s + m) left
min-step m s left = omega arith

pub joined_length : (v : Layout) (key s left : ℕ) (m : Mark) (fs : List ℕ)
    → (joined_pages v key s left m fs).length ≡ m.length + cond v.filled (length fs * s) (min (length fs * s) left)
unfolding joined_pages joined_from
joined_length v key s left m [] = go v.filled
  where
    go : (b : Bool) → m.length ≡ m.length + cond b (0 * s) (min (0 * s) left)
    go true = omega (arith, zero-mul s)
    go false = omega (arith, zero-mul s)
joined_length v key s left m (f ∷ fs) =
    joined_length v key s (left - s) (joined key m (record { fingerprint = f; length = page_length v s left })) fs ∙ go v.filled
  where
    go : (b : Bool) → m.length + cond b s (min s left) + cond b (length fs * s) (min (length fs * s) (left - s))
        ≡ m.length + cond b (suc (length fs) * s) (min (suc (length fs) * s) left)
    go true = omega (arith, suc-mul (length fs) s)
    go false = omega (arith, suc-mul (length fs) s, min-step (length fs * s) s left)

-- with as many pages as the length asks
pub zeros_are : (v : Layout) (key s n : ℕ) (fs : List ℕ) → 0 < s → length fs ≡ page_count s n
    → (joined_pages v key s n (mark_of key []) fs).length - n ≡ zeros_behind v s n
unfolding mark_from
zeros_are v key s n fs h c =
    ap (λ (m : ℕ). m - n) (joined_length v key s n (mark_of key []) fs ∙ ap (λ (m : ℕ). 0 + cond v.filled (m * s) (min (m * s) n)) c)
    ∙ go v.filled
  where
    go : (b : Bool) → 0 + cond b (page_count s n * s) (min (page_count s n * s) n) - n ≡ cond b (page_count s n * s - n) 0
    go true = omega arith
    go false = omega (arith, count-covers s n h)

-- ---- as the code goes: pages from the i-th on

-- so many pages begin inside the file
pub count-le : (s n m : ℕ) → 0 < s → m * s < n + s → m ≤ page_count s n
count-le s n m h l = (le-div_iff_mul-le h).1 (omega arith)

pub count-after : (s n i : ℕ) → 0 < s → i * s ≤ n → page_count s n ≡ i + page_count s (n - i * s)
count-after s n i h l =
    let e : n + s - 1 ≡ i * s + (n - i * s + s - 1) = omega arith in
    ap (λ (m : ℕ). m / s) e ∙ mul-add-div_right h i (n - i * s + s - 1)

pub pages_split : (v : Layout) (p s m n : ℕ) (file : List ℕ)
    → page_fingerprints v p s (m + n) file ≡ page_fingerprints v p s m file ++ page_fingerprints v p s n (drop (m * s) file)
unfolding page_fingerprints
pages_split v p s zero n file = ap₂ (λ (c : ℕ) (l : List ℕ). page_fingerprints v p s c l) (zero-add n) (ap (λ (k : ℕ). drop k file) (sym (zero-mul s)))
pages_split v p s (suc m) n file =
    let e : s + m * s ≡ suc m * s = omega (arith, suc-mul m s) in
    ap (λ (c : ℕ). page_fingerprints v p s c file) (suc-add m n)
    ∙ ap (λ (l : List ℕ). fingerprint p (page_of v s (take s file)) ∷ l)
    (pages_split v p s m n (drop s file)
    ∙ ap (λ (l : List ℕ). page_fingerprints v p s m (drop s file) ++ page_fingerprints v p s n l) (drop-drop (m * s) s file ∙ ap (λ (k : ℕ). drop k file) e))

-- page i
pub page-at : (v : Layout) (p s c i : ℕ) (file : List ℕ) → i < c
    → get_or (page_fingerprints v p s c file) i 0 ≡ fingerprint p (page_of v s (take s (drop (i * s) file)))
unfolding page_fingerprints
page-at v p s zero i file l = absurd (omega arith)
page-at v p s (suc c) zero file l = rw (zero-mul s)
page-at v p s (suc c) (suc i) file l =
    let n : s + i * s ≡ suc i * s = omega (arith, suc-mul i s) in
    page-at v p s c i (drop s file) (omega arith)
    ∙ ap (λ (r : List ℕ). fingerprint p (page_of v s (take s r))) (drop-drop (i * s) s file ∙ ap (λ (m : ℕ). drop m file) n)

-- n of c pages, from page i on
pub pages-from : (v : Layout) (p s c i n : ℕ) (file : List ℕ) → i + n ≤ c
    → take n (drop i (page_fingerprints v p s c file)) ≡ page_fingerprints v p s n (drop (i * s) file)
pages-from v p s c i n file l =
    let m = c - (i + n) in
    let e : c ≡ i + (n + m) = omega arith in
    let left = drop (i * s) file in
    ap (λ (k : ℕ). take n (drop i (page_fingerprints v p s k file))) e
    ∙ ap (λ (fs : List ℕ). take n (drop i fs)) (pages_split v p s i (n + m) file)
    ∙ ap (take n) (drop_at (page_fingerprints v p s i file) (page_fingerprints v p s (n + m) left) i (length-pages v p i s file) ∙ pages_split v p s n m left)
    ∙ take_at (page_fingerprints v p s n left) (page_fingerprints v p s m (drop (n * s) left)) n (length-pages v p n s left)

-- page i begins inside the file or at most a page behind it
pub page-begins : (s n i : ℕ) → 0 < s → i ≤ page_count s n → i * s < n + s
page-begins s n i h l = omega (arith, mul-le-mul_right s l, count-tight s n h)

-- n pages of what is left from page i on are pages of the file
pub block_within : (s i n : ℕ) (file : List ℕ) → 0 < s → i * s ≤ length file → n ≤ page_count s (length (drop (i * s) file))
    → i + n ≤ page_count s (length file)
block_within s i n file h l b =
    let e : page_count s (length (drop (i * s) file)) ≡ page_count s (length file - i * s) = ap (page_count s) (length-drop (i * s) file) in
    omega (arith, e, count-after s (length file) i h l)

-- no page is left where the file has no bit more
pub count-reached : (s n i : ℕ) → 0 < s → n ≤ i * s → page_count s n ≤ i
count-reached s n i h l = go (dec_le (page_count s n) i)
  where
    go : Dec (page_count s n ≤ i) → page_count s n ≤ i
    go (yes d) = d
    go (no d) =
        let more : suc i ≤ page_count s n = omega arith in
        absurd (omega (arith, suc-mul i s, mul-le-mul_right s more, count-tight s n h))

-- ---- the last page

pub whole-fits : (s n : ℕ) → n / s * s ≤ n
whole-fits s n = omega (arith, div-add-mod' n s)

pub last-short : (s n : ℕ) → 0 < s → n < n / s * s + s
last-short s n h = omega (arith, div-add-mod' n s, mod-lt n h)

-- n pages, and one more with what is left
pub pages-last : (v : Layout) (p s n : ℕ) (file : List ℕ) → length file ≤ n * s + s
    → page_fingerprints v p s (n + 1) file ≡ page_fingerprints v p s n file ++ fingerprint p (page_of v s (drop (n * s) file)) ∷ []
unfolding page_fingerprints
pages-last v p s n file h =
    pages_split v p s n 1 file
    ∙ ap (λ (l : List ℕ). page_fingerprints v p s n file ++ fingerprint p (page_of v s l) ∷ [])
    (take_all s (drop (n * s) file) (rw (length-drop (n * s) file) (omega arith)))

-- what stands from a place on, as the code lends it
pub all_left : (file : List ℕ) (at : ℕ) → take (length file - at) (drop at file) ≡ drop at file
all_left file at = take_all (length file - at) (drop at file) (rw (length-drop at file) (le_refl (length file - at)))

-- m pages and one more, which has what they leave
pub count_next : (s n m : ℕ) → 0 < s → m * s < n → n ≤ m * s + s → page_count s n ≡ m + 1
count_next s n m h l r =
    omega (
      arith,
      count-le s n (m + 1) h (omega (arith, add-mul m 1 s)),
      count-reached s n (m + 1) h (omega (arith, add-mul m 1 s)),
    )

-- the pages of a part, by its bytes and by its bits
pub part-pages : (s : ℕ) (p : Part) → 0 < s → page_count s (length p.bytes) ≡ page_count (8 * s) (part_length p)
part-pages s p h = ap (page_count s) (sym (part_bytes p)) ∙ pages-count s (part_length p) h
