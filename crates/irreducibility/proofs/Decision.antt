-- A polynomial is irreducible where its two lists of rows are independent, and only there.
use mathlib.Core.Path.{◌≡◌, refl, sym, ap, ap₂, ◌∙◌}
use mathlib.Core.Logic.{◌⊎◌, inl, inr}
use mathlib.Core.Bool.{Bool, true, false, not, true≢false, false≢true}
use mathlib.Core.List.{List}
use Prim.Native.Nat.{ℕ, suc, ◌+◌, ◌-◌, ◌*◌, ◌/◌, ◌%◌, ◌^◌, ◌≤◌, ◌<◌}
use native.Mathlib.Nat.{mod-lt, lt_of_lt_of_le, eq-zero-or-pos, div-eq_of_lt}
use native.Mathlib.Decide.{dec_lt}
use native.Mathlib.Omega.{arith}
use lib.ListN.{length, get_or}
use lib.Pow.{pow_pos, pow_mono, pow-add, split, high, shl_lt, shr_lt}
use Rattle.gf2.specs.Polynomials.{◌⊕◌, ◌⊗◌, degree, rem}
use Rattle.lists.specs.Lists.{list_from}
use Rattle.gf2.proofs.Sums.{⊕-zero, ⊕_self, ⊕-eq, ⊕_swap, ⊕-lt, ⊕-append}
use Rattle.gf2.proofs.Products.{zero-⊗, ⊗-pow, square-⊕, ring}
use Rattle.gf2.proofs.Degrees.{degree-is, degree-⊗, deg_hi, deg-le, lt_of_high, pos-⊗, ⊗_no_zero}
use Rattle.gf2.proofs.Residues.{rem-⊕, rem-small, rem_lt}
use Rattle.gf2.proofs.Criterion.{rigid_irreducible, irreducible_rigid}
use Rattle.acceptance.specs.Keys.{reducible}
use Rattle.acceptance.proofs.Laws.{irreducible_of, not-reducible}
use Rattle.basis.specs.Rows.{sum_of, Independent}
use Rattle.basis.proofs.Matrices.{sum-listed}
use Rattle.irreducibility.specs.Squares.{square, odd_part, folded, square_rows, difference_rows}
use Rattle.irreducibility.proofs.Filling.{list_over}
use Rattle.gf2.proofs.Linear.{Additive, after, both, squared}
use Rattle.lists.proofs.Lists.{length_list, list_same}
use Rattle.irreducibility.proofs.Folding.{Kernel, odd_kernel, fold_kernel}

-- the square of t^i, as a value of squaring
square-is : (p i : ℕ) → square p i ≡ rem p (2 ^ i ⊗ 2 ^ i)
unfolding square
square-is p i = let e : 2 * i ≡ i + i = omega arith in ap (rem p) (rw e (pow-add 2 i i ∙ sym (⊗-pow i (2 ^ i))))

-- ---- the rows of the squares of t^h, .. t^(h + n - 1), for h half of the degree, rounded up, and any n of the other half

module _ (p : ℕ) (pos : 0 < p) (h n : ℕ) (within : h + n ≤ degree p) (lower : degree p ≤ 2 * h) (upper : 2 * h ≤ suc (degree p)) (some : 0 < h)
    (word : degree p ≤ 64) where
  small-square : (l : ℕ) → l < 2 ^ h → l ⊗ l < 2 ^ degree p
  small-square l m = go (eq-zero-or-pos l)
    where
      go : (l ≡ 0) ⊎ (0 < l) → l ⊗ l < 2 ^ degree p
      go (inl z) = rw (z, zero-⊗) (pow_pos (degree p))
      go (inr q) =
          lt_of_lt_of_le (deg_hi (l ⊗ l) (degree (l ⊗ l)) (degree-is (l ⊗ l) (pos-⊗ l l q q)))
          (pow_mono (omega (arith, degree-⊗ l l q q, deg-le l (degree l) h (degree-is l q) m)))

  small-rem : (l : ℕ) → l < 2 ^ h → rem p (l ⊗ l) ≡ l ⊗ l
  small-rem l m = rem-small pos (l ⊗ l) (small-square l m)

  -- the two maps are x² and x² ⊕ x: x² ⊕ δ x, for δ x = 0 and δ x = x
  module _ {δ r : ℕ → ℕ} (t : Kernel δ r) where
    abbrev rows : List ℕ
    rows = list_from (λ i. r (square p i ⊕ δ (2 ^ i))) h n

    abbrev value : ℕ → ℕ
    value x = rem p (x ⊗ x) ⊕ δ x

    value-additive : Additive (λ x. r (value x))
    value-additive = after t.additive (both (after (record { sum = rem-⊕ pos }) squared) t.δ-additive)

    sum_rows : (g : ℕ) → g < 2 ^ n → sum_of g rows ≡ r (value (g * 2 ^ h))
    sum_rows g l =
        ap (sum_of g)
        (list_same (λ i. r (square p i ⊕ δ (2 ^ i))) (λ i. r (value (2 ^ i))) h h n (λ i m. ap (λ (x : ℕ). r (x ⊕ δ (2 ^ (h + i)))) (square-is p (h + i))))
        ∙ sum-listed value-additive h n g l

    parts : (g l : ℕ) → l < 2 ^ h → value (g * 2 ^ h ⊕ l) ≡ value (g * 2 ^ h) ⊕ (l ⊗ l ⊕ δ l)
    parts g l m =
        ap₂ (λ (x y : ℕ). x ⊕ y)
        (ap (rem p) (square-⊕ (g * 2 ^ h) l) ∙ rem-⊕ pos (g * 2 ^ h ⊗ (g * 2 ^ h)) (l ⊗ l)
        ∙ ap (λ (y : ℕ). rem p (g * 2 ^ h ⊗ (g * 2 ^ h)) ⊕ y) (small-rem l m))
        (t.δ-additive.sum (g * 2 ^ h) l)
        ∙ ⊕_swap (rem p (g * 2 ^ h ⊗ (g * 2 ^ h))) (l ⊗ l) (δ (g * 2 ^ h)) (δ l)

    abbrev Low : Type 0
    Low = (x : ℕ) → x < 2 ^ (n + h) → value x ≡ 0 → x < 2 ^ h

    there : Independent rows → Low
    there i x l e =
        lt_of_high x h
        (i g (rw length_list small) (sum_rows g small ∙ ap r equal ∙ t.zero-at lo (lt_of_lt_of_le lo-lt (pow_mono {j = 32} (omega arith)))))
      where
        g : ℕ
        g = x / 2 ^ h

        lo : ℕ
        lo = x % 2 ^ h

        lo-lt : lo < 2 ^ h
        lo-lt = mod-lt x (pow_pos h)

        small : g < 2 ^ n
        small = shr_lt n h l

        equal : value (g * 2 ^ h) ≡ lo ⊗ lo ⊕ δ lo
        equal =
            ⊕-eq (value (g * 2 ^ h)) (lo ⊗ lo ⊕ δ lo)
            (sym (parts g lo lo-lt) ∙ ap value (⊕-append g h lo lo-lt ∙ split x h) ∙ e)

    back : Low → Independent rows
    back j g l e = sym (high g h low.1) ∙ div-eq_of_lt (rw (⊕-append g h low.0 low.1) at (j (g * 2 ^ h ⊕ low.0) bound zero-there))
      where
        small : g < 2 ^ n
        small = rw length_list at l

        high_lt : g * 2 ^ h < 2 ^ (n + h)
        high_lt = shl_lt n h small

        residue : g * 2 ^ h < 2 ^ degree p
        residue = lt_of_lt_of_le high_lt (pow_mono (omega arith))

        small-value : value (g * 2 ^ h) < 2 ^ degree p
        small-value =
            ⊕-lt (degree p) (rem p (g * 2 ^ h ⊗ (g * 2 ^ h))) (δ (g * 2 ^ h)) (rem_lt pos (g * 2 ^ h ⊗ (g * 2 ^ h))) (t.δ-lt (degree p) (g * 2 ^ h) residue)

        low : (l : ℕ) × (l < 2 ^ h) × (value (g * 2 ^ h) ≡ l ⊗ l ⊕ δ l)
        low =
            t.only_at (value (g * 2 ^ h)) h (lt_of_lt_of_le small-value (pow_mono {j = 64} (omega arith)))
            (lt_of_lt_of_le small-value (pow_mono (omega arith))) (sym (sum_rows g small) ∙ e)

        bound : g * 2 ^ h ⊕ low.0 < 2 ^ (n + h)
        bound = ⊕-lt (n + h) (g * 2 ^ h) low.0 high_lt (lt_of_lt_of_le low.1 (pow_mono (omega arith)))

        zero-there : value (g * 2 ^ h ⊕ low.0) ≡ 0
        zero-there = parts g low.0 low.1 ∙ rw (← low.2) (⊕_self (value (g * 2 ^ h)))

  -- ---- squaring takes no residue to 0 but 0

  abbrev NoNilpotent : Type 0
  NoNilpotent = (x : ℕ) → 0 < x → x < 2 ^ (n + h) → rem p (x ⊗ x) ≡ 0 → ⊥

  rows-alone : list_from (λ i. odd_part (square p i ⊕ 0)) h n ≡ square_rows p h n
  unfolding square_rows
  rows-alone = list_same (λ i. odd_part (square p i ⊕ 0)) (λ i. odd_part (square p i)) h h n (λ i l. ap odd_part (⊕-zero (square p (h + i))))

  squares-there : Independent (square_rows p h n) → NoNilpotent
  squares-there i x q l e = go (⊗_no_zero x x (sym (small-rem x small) ∙ e))
    where
      small : x < 2 ^ h
      small = there odd_kernel (rw rows-alone i) x l (rw e (⊕-zero 0))

      go : (x ≡ 0) ⊎ (x ≡ 0) → ⊥
      go (inl z) = omega arith
      go (inr z) = omega arith

  squares-back : NoNilpotent → Independent (square_rows p h n)
  squares-back j = rw rows-alone at (back odd_kernel (λ x l e. go x l e (eq-zero-or-pos x)))
    where
      go : (x : ℕ) → x < 2 ^ (n + h) → rem p (x ⊗ x) ⊕ 0 ≡ 0 → (x ≡ 0) ⊎ (0 < x) → x < 2 ^ h
      go x l e (inl z) = rw z (pow_pos h)
      go x l e (inr q) = absurd (j x q l (sym (⊕-zero (rem p (x ⊗ x))) ∙ e))

  -- ---- squaring keeps no residue but 0 and 1

  abbrev NoIdempotent : Type 0
  NoIdempotent = (x : ℕ) → 1 < x → x < 2 ^ (n + h) → rem p (x ⊗ x) ≡ x → ⊥

  differences_there : Independent (difference_rows p h n) → NoIdempotent
  unfolding difference_rows
  differences_there i x q l e = go (⊗_no_zero x (x ⊕ 1) (expand x ∙ rw (sym (small-rem x small) ∙ e) (⊕_self x)))
    where
      small : x < 2 ^ h
      small = there fold_kernel i x l (rw e (⊕_self x))

      expand : (a : ℕ) → a ⊗ (a ⊕ 1) ≡ a ⊗ a ⊕ a
      expand a = simp ring

      go : (x ≡ 0) ⊎ (x ⊕ 1 ≡ 0) → ⊥
      go (inl z) = omega arith
      go (inr z) = omega (arith, ⊕-eq x 1 z)

  differences_back : NoIdempotent → Independent (difference_rows p h n)
  unfolding difference_rows
  differences_back j = back fold_kernel (λ x l e. go x l e (dec_lt 1 x))
    where
      go : (x : ℕ) → x < 2 ^ (n + h) → rem p (x ⊗ x) ⊕ x ≡ 0 → Dec (1 < x) → x < 2 ^ h
      go x l e (no q) = omega (arith, pow_mono {i = 1} some)
      go x l e (yes q) = absurd (j x q l (⊕-eq (rem p (x ⊗ x)) x e))

-- ---- the criterion: the key's number 2. Squares up to two thirds of the degree, differences up to the degree

module _ (p k : ℕ) (proper : 1 < p) (is : k ≡ degree p) (low : 0 < k) (high : k ≤ 64) where
  pos : 0 < p
  pos = omega (arith, proper)

  word : degree p ≤ 64
  word = omega arith

  h : ℕ
  h = k - k / 2

  thirds : ℕ
  thirds = 2 * k / 3 + 1 - h

  two-thirds : 2 ^ (thirds + h) ≡ 2 ^ (2 * degree p / 3 + 1)
  unfolding thirds h
  two-thirds = ap (λ (x : ℕ). 2 ^ x) (omega arith)

  all : 2 ^ (k / 2 + h) ≡ 2 ^ degree p
  unfolding h
  all = ap (λ (x : ℕ). 2 ^ x) (omega arith)

  pub irreducible-squares : reducible p ≡ false → Independent (square_rows p (k - k / 2) (2 * k / 3 + 1 - (k - k / 2)))
  unfolding thirds h
  irreducible-squares e =
      squares-back p pos h thirds (omega arith) (omega arith) (omega arith) (omega arith) word
      (λ x q l z. (irreducible_rigid p (irreducible_of p (omega arith) e)).no_nilpotent x q (rw two-thirds at l) z)

  pub irreducible_differences : reducible p ≡ false → Independent (difference_rows p (k - k / 2) (k / 2))
  unfolding h
  irreducible_differences e =
      differences_back p pos h (k / 2) (omega arith) (omega arith) (omega arith) (omega arith) word
      (λ x q l z. (irreducible_rigid p (irreducible_of p (omega arith) e)).no_idempotent x q (rw all at l) z)

  pub both-irreducible : Independent (square_rows p (k - k / 2) (2 * k / 3 + 1 - (k - k / 2))) → Independent (difference_rows p (k - k / 2) (k / 2))
      → reducible p ≡ false
  unfolding thirds h
  both-irreducible i j =
      not-reducible p
      (rigid_irreducible p
      (record {
        proper = proper;
        no_nilpotent = λ x q l z. squares-there p pos h thirds (omega arith) (omega arith) (omega arith) (omega arith) word i x q (rw two-thirds l) z;
        no_idempotent = λ x q l z. differences_there p pos h (k / 2) (omega arith) (omega arith) (omega arith) (omega arith) word j x q (rw all l) z;
      }))

-- the rows as the code makes them, of listed squares

module _ (p h n : ℕ) (rows : List ℕ) (e : rows ≡ list_from (square p) h n) where
  pub squares-made : list_from (λ i. odd_part (get_or rows i 0)) 0 (length rows) ≡ square_rows p h n
  unfolding square_rows
  squares-made = rw (e, length_list) (list_over (λ i x. odd_part x) (square p) h n)

  pub differences_made : list_from (λ i. folded 6 (get_or rows i 0 ⊕ 2 ^ (h + i))) 0 (length rows) ≡ difference_rows p h n
  unfolding difference_rows
  differences_made = rw (e, length_list) (list_over (λ i x. folded 6 (x ⊕ 2 ^ i)) (square p) h n)

pub by_test : (b r : Bool) → (r ≡ true → b ≡ false) → (b ≡ false → r ≡ true) → r ≡ not b
by_test true true f g = absurd (true≢false (f refl))
by_test true false f g = refl
by_test false true f g = refl
by_test false false f g = absurd (false≢true (g refl))
