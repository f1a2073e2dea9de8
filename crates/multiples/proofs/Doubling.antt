-- Laws of a row of multiples: the multiples of x from z = 2^b on, below 2·z, are those below z with z·x added. So a row is filled, and
-- tested, by doubling.
use mathlib.Core.Path.{◌≡◌, sym, ap, ◌∙◌}
use mathlib.Core.List.{List}
use Prim.Native.Nat.{ℕ, zero, suc, ◌+◌, ◌-◌, ◌*◌, ◌/◌, ◌^◌, ◌≤◌, ◌<◌}
use native.Mathlib.Nat.{add-zero, add_assoc, pow-suc}
use native.Mathlib.Decide.{dec_lt, ℕ_discrete}
use native.Mathlib.Omega.{arith}
use lib.Arith.{lt_of_le-ne}
use lib.Bits.{bit_or, or_zero_l, or_add_and, and_le_l, and_le_r}
use borrow.Author.Count.{below_more}
use mathlib.Core.Logic.{◌↔◌}
use lib.ListN.{length, get_or, set}
use lib.Pow.{pow-add, pow_mono}
use lib.Seq.{get_or-set_same, get_or-set_other}
use Rattle.gf2.specs.Polynomials.{◌⊕◌, degree, monic, rem, ◌⊗◌}
use Rattle.gf2.proofs.Sums.{⊕_comm, ⊕_assoc, ⊕_self, ⊕-eq}
use Rattle.gf2.proofs.Products.{zero-⊗, one-⊗, dbl_⊗, ⊕-⊗}
use Rattle.gf2.proofs.Residues.{rem-zero, rem-small, rem-⊕}
use Rattle.gf2.proofs.Powers.{rem_shl}
use Rattle.gf2.proofs.Monics.{monic-⊕}
use Rattle.multiples.specs.Rows.{Multiples, Shifted, SameBefore, SameFrom}

module _ {key : ℕ} (pos : 0 < key) (x : ℕ) where
  pub multiple-double : (b m : ℕ) → m < 2 ^ b → rem key ((2 ^ b + m) ⊗ x) ≡ rem key (m ⊗ x) ⊕ rem key (2 ^ b ⊗ x)
  unfolding monic
  multiple-double b m h =
      ap (λ (y : ℕ). rem key (y ⊗ x)) (monic-⊕ b m h ∙ ⊕_comm (2 ^ b) m) ∙ ap (rem key) (⊕-⊗ m (2 ^ b) x) ∙ rem-⊕ pos (m ⊗ x) (2 ^ b ⊗ x)

  -- the multiple by twice z, from the one by z
  pub multiple-next : (z : ℕ) → rem key (rem key (z ⊗ x) * 2 + 0) ≡ rem key (z * 2 ⊗ x)
  multiple-next z = rw add-zero (rem_shl pos (z ⊗ x) 1 ∙ ap (rem key) (sym (dbl_⊗ z x)))

  pub multiple-step : (z y v : ℕ) → y ≡ rem key (z ⊗ x) → v ≡ rem key (y * 2 + 0) → v ≡ rem key (z * 2 ⊗ x)
  multiple-step z y v ey ev = ev ∙ ap (λ (w : ℕ). rem key (w * 2 + 0)) ey ∙ multiple-next z

  pub multiple-zero : rem key (0 ⊗ x) ≡ 0
  multiple-zero = rw zero-⊗ (rem-zero key)

  pub multiple-one : x < 2 ^ degree key → x ≡ rem key (1 ⊗ x)
  multiple-one l = sym (rw one-⊗ (rem-small pos x l))

  -- a row of z words and its double
  module _ (a b z y : ℕ) (words : List ℕ) (ez : z ≡ 2 ^ b) (ey : y ≡ rem key (z ⊗ x)) where
    at-double : (m : ℕ) → m < z → rem key ((z + m) ⊗ x) ≡ rem key (m ⊗ x) ⊕ y
    at-double m h = rw (ey, ez) (multiple-double b m (rw ez at h))

    pub row_more : Multiples key x a z words → Shifted a (a + z) z y words words → Multiples key x a (z * 2) words
    row_more f s i l = go (dec_lt i z)
      where
        go : Dec (i < z) → get_or words (a + i) 0 ≡ rem key (i ⊗ x)
        go (yes h) = f i h
        go (no h) =
            let m : i - z < z = omega arith in
            let e : i ≡ z + (i - z) = omega arith in
            let p : a + i ≡ a + z + (i - z) = omega arith in
            ap (λ (n : ℕ). get_or words n 0) p
            ∙ s (i - z) m
            ∙ ap (λ (v : ℕ). v ⊕ y) (f (i - z) m)
            ∙ sym (at-double (i - z) m)
            ∙ ap (λ (n : ℕ). rem key (n ⊗ x)) (sym e)

    pub row-half : Multiples key x a (z * 2) words → Multiples key x a z words
    row-half f i l = f i (omega arith)

    pub row-shifted : Multiples key x a (z * 2) words → Shifted a (a + z) z y words words
    row-shifted f m l =
        ap (λ (n : ℕ). get_or words n 0) (add_assoc a z m)
        ∙ f (z + m) (omega arith)
        ∙ at-double m l
        ∙ ap (λ (v : ℕ). v ⊕ y) (sym (f m (omega arith)))

-- ---- filling by doubling, one store at a time

module _ (a b y : ℕ) (from words : List ℕ) (i : ℕ) (l : b + i < length words) (h : a + i < b) where
  abbrev pub stored : List ℕ
  stored = set words (b + i) (get_or words (a + i) 0 ⊕ y)

  pub same_more : SameBefore b from words → SameBefore b from stored
  same_more s m g = get_or-set_other words (b + i) m (get_or words (a + i) 0 ⊕ y) 0 (λ e. omega arith) ∙ s m g

  pub from_more : (n : ℕ) → i < n → SameFrom (b + n) from words → SameFrom (b + n) from stored
  from_more n k s m g = get_or-set_other words (b + i) m (get_or words (a + i) 0 ⊕ y) 0 (λ e. omega arith) ∙ s m g

  pub shifted-more : SameBefore b from words → Shifted a b i y from words → Shifted a b (i + 1) y from stored
  shifted-more s f m g = go (ℕ_discrete m i)
    where
      go : Dec (m ≡ i) → get_or (set words (b + i) (get_or words (a + i) 0 ⊕ y)) (b + m) 0 ≡ get_or from (a + m) 0 ⊕ y
      go (yes e) = rw e (get_or-set_same words (b + i) (get_or words (a + i) 0 ⊕ y) 0 l ∙ ap (λ (v : ℕ). v ⊕ y) (s (a + i) h))
      go (no e) = get_or-set_other words (b + i) (b + m) (get_or words (a + i) 0 ⊕ y) 0 (λ q. e (omega arith)) ∙ f m (lt_of_le-ne (omega arith) e)

-- the row of one word, the multiple by 0
pub row_one : {key : ℕ} (pos : 0 < key) (x a : ℕ) (words : List ℕ) → a < length words → Multiples key x a 1 (set words a 0)
row_one {key} pos x a words l i h =
    let e : i ≡ 0 = omega arith in
    rw (e, add-zero) (get_or-set_same words a 0 0 l ∙ sym (multiple-zero pos x))

-- what a list's double keeps of a row
pub row_kept : (key x a n : ℕ) (from words : List ℕ) → SameBefore (a + n) from words → Multiples key x a n from → Multiples key x a n words
row_kept key x a n from words s f i l = s (a + i) (omega arith) ∙ f i l

pub shifted-kept : (a n y : ℕ) (from words : List ℕ) → SameBefore (a + n) from words → Shifted a (a + n) n y from words → Shifted a (a + n) n y words words
shifted-kept a n y from words s f i l = f i l ∙ ap (λ (v : ℕ). v ⊕ y) (sym (s (a + i) (omega arith)))

-- half of the row that is still to be made
pub double-le : {b width : ℕ} → b < width → 2 ^ b * 2 ≤ 2 ^ width
double-le {b} {width} h = rw (← (pow-suc 2 b)) (pow_mono {i = suc b} {j = width} h)

pub power-half : (w : ℕ) → 0 < w → 2 ^ w / 2 * 2 ≡ 2 ^ w
power-half zero h = absurd (omega arith)
power-half (suc v) h = rw pow-suc (omega arith)

-- three times doubled
pub eight-fold : (b n : ℕ) → n ≡ 2 ^ b → n * 2 * 2 * 2 ≡ 2 ^ (b + 3)
eight-fold b n e = rw e (sym (pow-add 2 b 3 ∙ omega arith))

-- ---- testing by doubling: differences added up by or

or-zero : (s d : ℕ) → bit_or s d ≡ 0 → (s ≡ 0) × (d ≡ 0)
or-zero s d e = omega (arith, or_add_and s d, and_le_l s d, and_le_r s d)

both_zero : (s d : ℕ) → s ≡ 0 → d ≡ 0 → bit_or s d ≡ 0
both_zero s d e f = rw (e, f) (or_zero_l 0)

-- two tests, as one
pub or_iff : (s d : ℕ) {P Q : Type 0} → (s ≡ 0) ↔ P → (d ≡ 0) ↔ Q → (bit_or s d ≡ 0) ↔ (P × Q)
or_iff s d p q = (λ e. (p.0 (or-zero s d e).0, q.0 (or-zero s d e).1), λ h. both_zero s d (p.1 h.0) (q.1 h.1))

pub iff_trans : {P Q R : Type 0} → P ↔ Q → Q ↔ R → P ↔ R
iff_trans f g = (λ p. g.0 (f.0 p), λ r. f.1 (g.1 r))

-- one word is another with y added
pub difference_iff : (u v y : ℕ) → (u ⊕ v ⊕ y ≡ 0) ↔ (u ≡ v ⊕ y)
difference_iff u v y = (λ e. ⊕-eq u (v ⊕ y) (sym (⊕_assoc u v y) ∙ e), λ e. ⊕_assoc u v y ∙ rw e (⊕_self (v ⊕ y)))

-- one word more
pub shifted_iff : (a b i y : ℕ) (words : List ℕ)
    → (Shifted a b i y words words × (get_or words (b + i) 0 ≡ get_or words (a + i) 0 ⊕ y)) ↔ Shifted a b (i + 1) y words words
shifted_iff a b i y words = (there, back)
  where
    there : Shifted a b i y words words × (get_or words (b + i) 0 ≡ get_or words (a + i) 0 ⊕ y) → Shifted a b (i + 1) y words words
    there h = below_more (λ m. get_or words (b + m) 0 ≡ get_or words (a + m) 0 ⊕ y) i h.0 h.1

    back : Shifted a b (i + 1) y words words → Shifted a b i y words words × (get_or words (b + i) 0 ≡ get_or words (a + i) 0 ⊕ y)
    back f = (λ m l. f m (omega arith), f i (omega arith))

-- the row, and its double
module _ {key : ℕ} (pos : 0 < key) (x a : ℕ) (words : List ℕ) where
  pub row_iff_one : (get_or words a 0 ≡ 0) ↔ Multiples key x a 1 words
  row_iff_one = (there, back)
    where
      there : get_or words a 0 ≡ 0 → Multiples key x a 1 words
      there h i l = let e : i ≡ 0 = omega arith in rw (e, add-zero) (h ∙ sym (multiple-zero pos x))

      back : Multiples key x a 1 words → get_or words a 0 ≡ 0
      back f = ap (λ (n : ℕ). get_or words n 0) (sym (add-zero a)) ∙ f 0 (omega arith) ∙ multiple-zero pos x

  pub row_iff : (b z y : ℕ) → z ≡ 2 ^ b → y ≡ rem key (z ⊗ x)
      → (Multiples key x a z words × Shifted a (a + z) z y words words) ↔ Multiples key x a (z * 2) words
  row_iff b z y ez ey =
      (λ h. row_more pos x a b z y words ez ey h.0 h.1, λ f. (row-half pos x a b z y words ez ey f, row-shifted pos x a b z y words ez ey f))

  -- three doublings
  pub row_iff_eight : (b n y z v : ℕ) → n ≡ 2 ^ b → y ≡ rem key (n ⊗ x) → z ≡ rem key (n * 2 ⊗ x) → v ≡ rem key (n * 2 * 2 ⊗ x)
      → (Multiples key x a n words × (Shifted a (a + n) n y words words × (Shifted a (a + n * 2) (n * 2) z words words
      × Shifted a (a + n * 2 * 2) (n * 2 * 2) v words words)))
      ↔ Multiples key x a (n * 2 * 2 * 2) words
  row_iff_eight b n y z v en ey ez ev = (there, back)
    where
      next : (c m : ℕ) → m ≡ 2 ^ c → m * 2 ≡ 2 ^ suc c
      next c m e = rw (pow-suc, ← e)

      once : (Multiples key x a n words × Shifted a (a + n) n y words words) ↔ Multiples key x a (n * 2) words
      once = row_iff b n y en ey

      twice : (Multiples key x a (n * 2) words × Shifted a (a + n * 2) (n * 2) z words words) ↔ Multiples key x a (n * 2 * 2) words
      twice = row_iff (suc b) (n * 2) z (next b n en) ez

      thrice : (Multiples key x a (n * 2 * 2) words × Shifted a (a + n * 2 * 2) (n * 2 * 2) v words words) ↔ Multiples key x a (n * 2 * 2 * 2) words
      thrice = row_iff (suc (suc b)) (n * 2 * 2) v (next (suc b) (n * 2) (next b n en)) ev

      there : Multiples key x a n words × (Shifted a (a + n) n y words words × (Shifted a (a + n * 2) (n * 2) z words words
          × Shifted a (a + n * 2 * 2) (n * 2 * 2) v words words))
          → Multiples key x a (n * 2 * 2 * 2) words
      there h = thrice.0 (twice.0 (once.0 (h.0, h.1.0), h.1.1.0), h.1.1.1)

      back : Multiples key x a (n * 2 * 2 * 2) words → Multiples key x a n words × (Shifted a (a + n) n y words words
          × (Shifted a (a + n * 2) (n * 2) z words words × Shifted a (a + n * 2 * 2) (n * 2 * 2) v words words))
      back f =
          let four = thrice.1 f in
          let two = twice.1 four.0 in
          let one = once.1 two.0 in
          (one.0, (one.1, (two.1, four.1)))

-- ---- three doublings in one pass, by eight parts of the row

-- two pairs, as one
zip_iff : {A B C P Q R : Type 0} → (A × B) ↔ C → (P × Q) ↔ R → ((A × P) × (B × Q)) ↔ (C × R)
zip_iff f g =
    (λ h. (f.0 (h.0.0, h.1.0), g.0 (h.0.1, h.1.1)), λ h. let u = f.1 h.0 in let w = g.1 h.1 in ((u.0, w.0), (u.1, w.1)))

module _ (p₀ p₁ p₂ p₃ p₄ p₅ p₆ p₇ y z v : ℕ) (words : List ℕ) where
  abbrev word : ℕ → ℕ → ℕ
  word p i = get_or words (p + i) 0

  -- the first i words of each part, from the part that it is made of
  abbrev pub Parts : ℕ → Type 0
  Parts i =
      ((Shifted p₀ p₁ i y words words × (Shifted p₀ p₂ i z words words × Shifted p₁ p₃ i z words words))
      × (Shifted p₀ p₄ i v words words × Shifted p₁ p₅ i v words words))
      × (Shifted p₂ p₆ i v words words × Shifted p₃ p₇ i v words words)

  abbrev pub part_differences : ℕ → ℕ
  part_differences i =
      bit_or
      (bit_or (bit_or (word p₁ i ⊕ word p₀ i ⊕ y) (bit_or (word p₂ i ⊕ word p₀ i ⊕ z) (word p₃ i ⊕ word p₁ i ⊕ z)))
      (bit_or (word p₄ i ⊕ word p₀ i ⊕ v) (word p₅ i ⊕ word p₁ i ⊕ v)))
      (bit_or (word p₆ i ⊕ word p₂ i ⊕ v) (word p₇ i ⊕ word p₃ i ⊕ v))

  difference-at : (p q u i : ℕ) → (word q i ⊕ word p i ⊕ u ≡ 0) ↔ (word q i ≡ word p i ⊕ u)
  difference-at p q u i = difference_iff (word q i) (word p i) u

  -- one word more of each
  pub parts_iff : (i sum : ℕ) → (sum ≡ 0) ↔ Parts i → (bit_or sum (part_differences i) ≡ 0) ↔ Parts (i + 1)
  parts_iff i sum h =
      iff_trans
      (or_iff sum (part_differences i) h
      (or_iff _ _
      (or_iff _ _ (or_iff _ _ (difference-at p₀ p₁ y i) (or_iff _ _ (difference-at p₀ p₂ z i) (difference-at p₁ p₃ z i)))
      (or_iff _ _ (difference-at p₀ p₄ v i) (difference-at p₁ p₅ v i)))
      (or_iff _ _ (difference-at p₂ p₆ v i) (difference-at p₃ p₇ v i))))
      (zip_iff
      (zip_iff (zip_iff (more p₀ p₁ y) (zip_iff (more p₀ p₂ z) (more p₁ p₃ z))) (zip_iff (more p₀ p₄ v) (more p₁ p₅ v)))
      (zip_iff (more p₂ p₆ v) (more p₃ p₇ v)))
    where
      more : (p q u : ℕ) → (Shifted p q i u words words × (word q i ≡ word p i ⊕ u)) ↔ Shifted p q (i + 1) u words words
      more p q u = shifted_iff p q i u words

-- the parts one behind the other
shifted-append : (a b m n y : ℕ) (words : List ℕ)
    → (Shifted a b m y words words × Shifted (a + m) (b + m) n y words words) ↔ Shifted a b (m + n) y words words
shifted-append a b m n y words = (there, back)
  where
    there : Shifted a b m y words words × Shifted (a + m) (b + m) n y words words → Shifted a b (m + n) y words words
    there h i l = go (dec_lt i m)
      where
        go : Dec (i < m) → get_or words (b + i) 0 ≡ get_or words (a + i) 0 ⊕ y
        go (yes k) = h.0 i k
        go (no k) =
            let e : b + i ≡ b + m + (i - m) = omega arith in
            let d : a + i ≡ a + m + (i - m) = omega arith in
            ap (λ (j : ℕ). get_or words j 0) e ∙ h.1 (i - m) (omega arith) ∙ ap (λ (j : ℕ). get_or words j 0 ⊕ y) (sym d)

    back : Shifted a b (m + n) y words words → Shifted a b m y words words × Shifted (a + m) (b + m) n y words words
    back f = (
      λ i l. f i (omega arith),
      λ i l. ap (λ (j : ℕ). get_or words j 0) (add_assoc b m i) ∙ f (m + i) (omega arith) ∙ ap (λ (j : ℕ). get_or words j 0 ⊕ y) (sym (add_assoc a m i)),
    )

shifted_at : (a b c m n y : ℕ) (words : List ℕ) → b ≡ c → m ≡ n → Shifted a b m y words words → Shifted a c n y words words
shifted_at a b c m n y words e d f i l = ap (λ (p : ℕ). get_or words (p + i) 0) (sym e) ∙ f i (omega arith)

module _ (a n y z v : ℕ) (words : List ℕ) where
  abbrev AllParts : Type 0
  AllParts =
      Parts a (a + n) (a + n + n) (a + n + n + n) (a + n + n + n + n) (a + n + n + n + n + n) (a + n + n + n + n + n + n)
      (a + n + n + n + n + n + n + n) y z v words n

  abbrev Doubled : Type 0
  Doubled = Shifted a (a + n) n y words words × (Shifted a (a + n * 2) (n * 2) z words words × Shifted a (a + n * 2 * 2) (n * 2 * 2) v words words)

  two : (p q u : ℕ) → (Shifted p q n u words words × Shifted (p + n) (q + n) n u words words) ↔ Shifted p q (n + n) u words words
  two p q u = shifted-append p q n n u words

  four : (q u : ℕ) → (Shifted a q (n + n) u words words × Shifted (a + n + n) (q + n + n) (n + n) u words words) ↔ Shifted a q (n + n + (n + n)) u words words
  four q u = rw (add_assoc, add_assoc) (shifted-append a q (n + n) (n + n) u words)

  pub parts_whole : AllParts ↔ Doubled
  parts_whole = (there, back)
    where
      there : AllParts → Doubled
      there h =
          let s = (two a (a + n + n) z).0 h.0.0.1 in
          let t = (four (a + n + n + n + n) v).0 ((two a (a + n + n + n + n) v).0 h.0.1, (two (a + n + n) (a + n + n + n + n + n + n) v).0 h.1) in (
            h.0.0.0,
            (
              shifted_at a (a + n + n) (a + n * 2) (n + n) (n * 2) z words (omega arith) (omega arith) s,
              shifted_at a (a + n + n + n + n) (a + n * 2 * 2) (n + n + (n + n)) (n * 2 * 2) v words (omega arith) (omega arith) t,
            ),
          )

      back : Doubled → AllParts
      back h =
          let s = shifted_at a (a + n * 2) (a + n + n) (n * 2) (n + n) z words (omega arith) (omega arith) h.1.0 in
          let t = shifted_at a (a + n * 2 * 2) (a + n + n + n + n) (n * 2 * 2) (n + n + (n + n)) v words (omega arith) (omega arith) h.1.1 in
          let u = (four (a + n + n + n + n) v).1 t in
          (((h.0, (two a (a + n + n) z).1 s), (two a (a + n + n + n + n) v).1 u.0), (two (a + n + n) (a + n + n + n + n + n + n) v).1 u.1)
