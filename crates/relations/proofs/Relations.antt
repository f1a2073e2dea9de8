-- Elimination with the sums of rows beside the rows: what it keeps, and how it ends in a relation.
use Rattle.std.proofs.Common.{◌≡◌, ℕ, zero, suc, ◌+◌, ◌-◌, ◌*◌, ◌/◌, ◌%◌, ◌^◌, ◌<◌, ◌≤◌, ◌⊎◌, List, [], ◌∷◌, map, length, get_or, take, drop, set, replicate}
use Rattle.std.proofs.Common.{sym, refl, ap, ◌∙◌, ap₂, inl, inr, suc-le-suc, lt_of_lt_of_le, le_of_suc-le-suc, not-suc-le-zero, add-zero, add-suc}
use Rattle.std.proofs.Common.{eq-zero-or-pos, suc-add, one-mul, zero-add, zero-mul, add-one, arith, length-take-le, get_or-take, pow_pos, pow_mono}
use native.Mathlib.Nat.{sub-zero, div_self}
use native.Mathlib.Nat.{le-suc}
use lib.ListN.{length-map, length-replicate}
use lib.Seq.{take-length}
use borrow.Rule.Slice.PartMut.{put_mid, mid_len, same_len_mid}
use Rattle.gf2.specs.Polynomials.{◌⊕◌}
use Rattle.gf2.specs.Degrees.{Degree}
use Rattle.gf2.proofs.Sums.{⊕-left_comm, ⊕-lt, ⊕-zero}
use Rattle.gf2.proofs.Products.{by_bit, bit-cases}
use Rattle.gf2.proofs.Degrees.{deg_hi, deg-pos, deg-⊕}
use Rattle.gf2.proofs.Linear.{at-bit}
use Rattle.basis.specs.Rows.{sum_of, Independent, NoRelation, clear}
use Rattle.relations.specs.Adding.{add_where}
use Rattle.basis.proofs.Sums.{sum-additive, sum-take, sum-place}
use Rattle.basis.proofs.Turns.{part_cons, put-part, turn-behind}

-- ---- a list of sums that is changed one by one, from the front

module _ (c w : ℕ) where
  pub length-added : (rows sums : List ℕ) → length (add_where c w rows sums) ≡ length sums
  unfolding add_where
  length-added [] sums = refl
  length-added (r ∷ rows) [] = refl
  length-added (r ∷ rows) (s ∷ sums) = ap suc (length-added rows sums)

  added-at : (j : ℕ) (rows sums : List ℕ) → get_or (add_where c w (take j rows) sums) j 0 ≡ get_or sums j 0
  unfolding add_where
  added-at zero rows sums = refl
  added-at (suc j) [] sums = refl
  added-at (suc j) (r ∷ rows) [] = refl
  added-at (suc j) (r ∷ rows) (s ∷ sums) = added-at j rows sums

  more : (j : ℕ) (rows sums : List ℕ) → j < length rows
      → set (add_where c w (take j rows) sums) j (get_or rows j 0 / 2 ^ c % 2 * w ⊕ get_or sums j 0) ≡ add_where c w (take (suc j) rows) sums
  unfolding add_where
  more j [] sums h = absurd (not-suc-le-zero h)
  more zero (r ∷ rows) [] h = refl
  more zero (r ∷ rows) (s ∷ sums) h = refl
  more (suc j) (r ∷ rows) [] h = refl
  more (suc j) (r ∷ rows) (s ∷ sums) h = ap (λ (x : List ℕ). (r / 2 ^ c % 2 * w ⊕ s) ∷ x) (more j rows sums (le_of_suc-le-suc h))

  -- the sums of the first j rows are changed
  abbrev pub Added : ℕ → List ℕ → List ℕ → List ℕ → Type 0
  Added j rows given sums = sums ≡ add_where c w (take j rows) given

  module _ (j : ℕ) (rows given : List ℕ) {sums : List ℕ} (h : Added j rows given sums) where
    pub added_next : {x y : ℕ} → j < length rows → y ≡ get_or rows j 0 → x ≡ y / 2 ^ c % 2 * w ⊕ get_or sums j 0 → Added (j + 1) rows given (set sums j x)
    added_next l at e =
        let same = ap (λ (t : List ℕ). get_or t j 0) h ∙ added-at j rows given in
        ap₂ (λ (t : List ℕ) (z : ℕ). set t j z) h (e ∙ ap₂ (λ (r s : ℕ). r / 2 ^ c % 2 * w ⊕ s) at same) ∙ rw add-one (more j rows given l)

-- ---- rows and sums

module _ (given : List ℕ) where
  -- each row, from row i on, is the given row i with the sum beside it added, and that sum is of rows before it
  abbrev pub Tied : ℕ → List ℕ → List ℕ → Type 0
  Tied i [] sums = Unit {0}
  Tied i (r ∷ rows) [] = ⊥
  Tied i (r ∷ rows) (s ∷ sums) = (s < 2 ^ i) × (sum_of (2 ^ i ⊕ s) given ≡ r) × Tied (suc i) rows sums

  pub tied-start : (i : ℕ) (rows sums : List ℕ) → length rows ≤ length sums → ((j : ℕ) → j < length rows → get_or rows j 0 ≡ get_or given (i + j) 0)
      → ((j : ℕ) → get_or sums j 0 ≡ 0) → Tied i rows sums
  tied-start i [] sums l h z = tt
  tied-start i (r ∷ rows) [] l h z = not-suc-le-zero l
  tied-start i (r ∷ rows) (s ∷ sums) l h z = (
    rw (z 0) (pow_pos i),
    rw (z 0) (ap (λ (x : ℕ). sum_of x given) (⊕-zero (2 ^ i)) ∙ sum-place i given ∙ sym (h 0 (omega arith) ∙ ap (λ (n : ℕ). get_or given n 0) (add-zero i))),
    tied-start (suc i) rows sums (le_of_suc-le-suc l)
        (λ j m. h (suc j) (suc-le-suc m) ∙ ap (λ (n : ℕ). get_or given n 0) (add-suc i j ∙ sym (suc-add i j))) (λ j. z (suc j)),
  )

  -- a column is cleared by a row v before them, the sum of the given rows that w chooses
  pub tied-cleared : (c v w : ℕ) → sum_of w given ≡ v → (i : ℕ) (rows sums : List ℕ) → w < 2 ^ i → Tied i rows sums
      → Tied i (map (clear c v) rows) (add_where c w rows sums)
  unfolding clear add_where
  tied-cleared c v w e i [] sums l t = tt
  tied-cleared c v w e i (r ∷ rows) [] l t = t
  tied-cleared c v w e i (r ∷ rows) (s ∷ sums) l t = (
    ⊕-lt i (r / 2 ^ c % 2 * w) s (by_bit (λ (b : ℕ). b * w < 2 ^ i) (rw zero-mul (pow_pos i)) (rw one-mul l) (r / 2 ^ c)) t.0,
    ap (λ (x : ℕ). sum_of x given) (⊕-left_comm (2 ^ i) (r / 2 ^ c % 2 * w) s) ∙ (sum-additive given).sum (r / 2 ^ c % 2 * w) (2 ^ i ⊕ s)
        ∙ ap₂ (λ (x y : ℕ). x ⊕ y) (at-bit (sum-additive given) (r / 2 ^ c) w ∙ ap (λ (x : ℕ). r / 2 ^ c % 2 * x) e) t.1,
    tied-cleared c v w e (suc i) rows sums (lt_of_lt_of_le l (pow_mono (le-suc i))) t.2,
  )

-- ---- a turn, on the buffers: row i clears the rows from i + 1 up to n, which the code lends as parts of the buffers

module _ (given : List ℕ) (i n : ℕ) (rows sums : List ℕ) (l : i < n) (lr : n ≤ length rows) (ls : n ≤ length sums)
    (t : Tied given i (take (n - i) (drop i rows)) (take (n - i) (drop i sums))) where
  parts : Tied given i (get_or rows i 0 ∷ take (n - (i + 1)) (drop (i + 1) rows)) (get_or sums i 0 ∷ take (n - (i + 1)) (drop (i + 1) sums))
  parts = rw (part_cons i n rows l lr, part_cons i n sums l ls) at t

  pub sum-before : get_or sums i 0 < 2 ^ i
  sum-before = parts.0

  pub row-value : sum_of (2 ^ i ⊕ get_or sums i 0) given ≡ get_or rows i 0
  row-value = parts.1

  pub new-degree : Degree (2 ^ i ⊕ get_or sums i 0) i
  new-degree = deg-⊕ (2 ^ i) (get_or sums i 0) i (div_self (pow_pos i)) sum-before

  pub tied-turn : (c : ℕ) (ys zs : List ℕ) → ys ≡ map (clear c (get_or rows i 0)) (take (n - (i + 1)) (drop (i + 1) rows))
      → zs ≡ add_where c (2 ^ i ⊕ get_or sums i 0) (take (n - (i + 1)) (drop (i + 1) rows)) (take (n - (i + 1)) (drop (i + 1) sums))
      → Tied given (i + 1)
      (take (n - (i + 1)) (drop (i + 1) (put_mid (i + 1) (n - (i + 1)) rows ys)))
      (take (n - (i + 1)) (drop (i + 1) (put_mid (i + 1) (n - (i + 1)) sums zs)))
  tied-turn c ys zs ey ez =
      rw (put-part (i + 1) (n - (i + 1)) rows ys (omega arith) ly, put-part (i + 1) (n - (i + 1)) sums zs (omega arith) lz, ey, ez, add-one i)
      (tied-cleared given c (get_or rows i 0) (2 ^ i ⊕ get_or sums i 0) row-value (suc i)
      (take (n - suc i) (drop (suc i) rows)) (take (n - suc i) (drop (suc i) sums))
      (deg_hi (2 ^ i ⊕ get_or sums i 0) i new-degree) (rw (add-one i) at parts.2))
    where
      ly : length ys ≡ n - (i + 1)
      ly = ap length ey ∙ length-map (take (n - (i + 1)) (drop (i + 1) rows)) (clear c (get_or rows i 0)) ∙ mid_len (i + 1) n rows lr

      lz : length zs ≡ n - (i + 1)
      lz = ap length ez ∙ length-added c (2 ^ i ⊕ get_or sums i 0) _ _ ∙ mid_len (i + 1) n sums ls

-- ---- independence

-- a row that is not independent by itself is 0
pub last_row : (x : ℕ) → (Independent (x ∷ []) → ⊥) → x ≡ 0
unfolding sum_of
last_row x n = go (eq-zero-or-pos x)
  where
    go : (x ≡ 0) ⊎ (0 < x) → x ≡ 0
    go (inl z) = z
    go (inr p) = absurd (n (λ h l e. settle h (bit-cases h l) e))
      where
        settle : (h : ℕ) → (h ≡ 0) ⊎ (h ≡ 1) → h % 2 * x ⊕ 0 ≡ 0 → h ≡ 0
        settle h (inl z) e = z
        settle h (inr o) e = absurd (omega (arith, sym (one-mul x) ∙ sym (⊕-zero (1 * x)) ∙ (rw o at e)))

pub independent-none : (n : ℕ) (rows : List ℕ) → n ≤ length rows → Independent (take n rows) → NoRelation n rows
independent-none n rows l i x m e = i x (rw (length-take-le n rows l) m) (sum-take n rows x m ∙ e)

-- ---- what the loop keeps

zeros-at : (m n j : ℕ) → get_or {A = ℕ} (take n (replicate m 0)) j 0 ≡ 0
zeros-at m zero j = refl
zeros-at zero (suc n) j = refl
zeros-at (suc m) (suc n) zero = refl
zeros-at (suc m) (suc n) (suc j) = zeros-at m n j

module _ (rows : List ℕ) (k : ℕ) where
  -- the rows before row i have cleared their columns: the rows from i to k are not independent, and each has its sum beside it
  pub record Kept (i : ℕ) (work sums : List ℕ) : Type 0 where
    pub reached : i ≤ k
    pub work_length : length work ≡ 64
    pub sums-length : length sums ≡ 64
    pub dependent : Independent (take (k + 1 - i) (drop i work)) → ⊥
    pub tied : Tied rows i (take (k + 1 - i) (drop i work)) (take (k + 1 - i) (drop i sums))

  module _ (small : k < 64) where
    pub kept-start : length rows ≡ 64 → (NoRelation (k + 1) rows → ⊥) → Kept 0 rows (replicate 64 0)
    kept-start e d =
        record {
          reached = omega arith;
          work_length = e;
          sums-length = length-replicate {A = ℕ} 64 0;
          dependent = λ i. d (independent-none (k + 1) rows (omega arith) (rw sub-zero at i));
          tied =
              rw sub-zero
              (tied-start rows 0 (take (k + 1) rows) (take (k + 1) (replicate 64 0)) lengths
              (λ j l. get_or-take (k + 1) rows j 0 (omega (arith, own)) ∙ ap (λ (n : ℕ). get_or rows n 0) (sym (zero-add j))) (zeros-at 64 (k + 1)));
        }
      where
        own : length (take (k + 1) rows) ≡ k + 1
        own = length-take-le (k + 1) rows (omega arith)

        lengths : length (take (k + 1) rows) ≤ length (take (k + 1) (replicate {A = ℕ} 64 0))
        lengths = omega (arith, own, length-take-le (k + 1) (replicate {A = ℕ} 64 0) (omega (arith, length-replicate {A = ℕ} 64 0)))

    module _ (i : ℕ) (work sums : List ℕ) (s : Kept i work sums) where
      i_lt : i < k + 1
      i_lt = omega (arith, s.reached)

      rows-there : k + 1 ≤ length work
      rows-there = omega (arith, s.work_length)

      sums-there : k + 1 ≤ length sums
      sums-there = omega (arith, s.sums-length)

      -- while the first k rows are independent, something is left of each
      pub pivot : i < k → NoRelation k rows → 0 < get_or work i 0
      pivot l none = go (eq-zero-or-pos (get_or work i 0))
        where
          x : ℕ
          x = 2 ^ i ⊕ get_or sums i 0

          d : Degree x i
          d = new-degree rows i (k + 1) work sums i_lt rows-there sums-there s.tied

          go : (get_or work i 0 ≡ 0) ⊎ (0 < get_or work i 0) → 0 < get_or work i 0
          go (inr p) = p
          go (inl z) =
              absurd (omega (
                arith,
                none x (lt_of_lt_of_le (deg_hi x i d) (pow_mono l)) (row-value rows i (k + 1) work sums i_lt rows-there sums-there s.tied ∙ z),
                deg-pos x i d,
              ))

      pub kept-turn : i < k → (c : ℕ) → get_or work i 0 / 2 ^ c % 2 ≡ 1 → (ys zs : List ℕ)
          → ys ≡ map (clear c (get_or work i 0)) (take (k + 1 - (i + 1)) (drop (i + 1) work))
          → zs ≡ add_where c (2 ^ i ⊕ get_or sums i 0) (take (k + 1 - (i + 1)) (drop (i + 1) work)) (take (k + 1 - (i + 1)) (drop (i + 1) sums))
          → Kept (i + 1) (put_mid (i + 1) (k + 1 - (i + 1)) work ys) (put_mid (i + 1) (k + 1 - (i + 1)) sums zs)
      kept-turn l c one ys zs ey ez =
          record {
            reached = omega arith;
            work_length = same_len_mid (i + 1) (k + 1 - (i + 1)) work ys (ap length ey ∙ simp length-map) ∙ s.work_length;
            sums-length = same_len_mid (i + 1) (k + 1 - (i + 1)) sums zs (ap length ez ∙ length-added c (2 ^ i ⊕ get_or sums i 0) _ _) ∙ s.sums-length;
            dependent = λ j. s.dependent ((turn-behind i (k + 1) c work ys i_lt rows-there one ey).1 j);
            tied = tied-turn rows i (k + 1) work sums i_lt rows-there sums-there s.tied c ys zs ey ez;
          }

    -- of the last row nothing is left: t^k with its sum is the relation
    pub relation_found : (work sums : List ℕ) → Kept k work sums → (place : ℕ) → place ≡ 2 ^ k
        → Degree (place ⊕ get_or sums k 0) k × (sum_of (place ⊕ get_or sums k 0) rows ≡ 0)
    relation_found work sums s place e =
        rw e (
          new-degree rows k (k + 1) work sums (i_lt k work sums s) (rows-there k work sums s) (sums-there k work sums s) s.tied,
          row-value rows k (k + 1) work sums (i_lt k work sums s) (rows-there k work sums s) (sums-there k work sums s) s.tied
              ∙ last_row (get_or work k 0) (λ j. s.dependent (rw (part_cons k (k + 1) work (i_lt k work sums s) (rows-there k work sums s), none_left) j)),
        )
      where
        none_left : k + 1 - (k + 1) ≡ 0
        none_left = omega arith
