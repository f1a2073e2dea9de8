-- A turn of elimination on a buffer, of which the code lends the rows to be cleared as a part: those behind row i, or those before row n - 1.
use Rattle.std.proofs.Common.{◌≡◌, ℕ, suc, ◌+◌, ◌-◌, ◌/◌, ◌%◌, ◌^◌, ◌<◌, ◌≤◌, ◌⊎◌, ◌↔◌, List, [], ◌∷◌, ◌++◌, map, length, get_or, take, drop, ap, ◌∙◌, inl, inr}
use Rattle.std.proofs.Common.{eq-zero-or-pos, add-one, arith, length-take-le, drop-cons, take-suc, take_at, drop_at}
use mathlib.Core.List.{map-append}
use lib.ListN.{length-map}
use borrow.Rule.Slice.PartMut.{put_mid, mid_len}
use Rattle.gf2.specs.Polynomials.{degree}
use Rattle.gf2.proofs.Degrees.{degree-is}
use Rattle.basis.specs.Rows.{Independent, clear}
use Rattle.basis.proofs.Elimination.{eliminate, no_rows, rotate, zero_row}

-- ---- row i clears the rows from i + 1 up to n

pub part_cons : (i n : ℕ) (rows : List ℕ) → i < n → n ≤ length rows
    → take (n - i) (drop i rows) ≡ get_or rows i 0 ∷ take (n - (i + 1)) (drop (i + 1) rows)
part_cons i n rows h l =
    let e : n - i ≡ suc (n - (i + 1)) = omega arith in
    rw (e, add-one i, drop-cons rows i 0 (omega arith))

pub put-part : (a k : ℕ) (rows ys : List ℕ) → a ≤ length rows → length ys ≡ k → take k (drop a (put_mid a k rows ys)) ≡ ys
put-part a k rows ys h e = ap (take k) (drop_at (take a rows) _ a (length-take-le a rows h)) ∙ take_at ys _ k e

pub turn-behind : (i n c : ℕ) (rows ys : List ℕ) → i < n → n ≤ length rows → get_or rows i 0 / 2 ^ c % 2 ≡ 1
    → ys ≡ map (clear c (get_or rows i 0)) (take (n - (i + 1)) (drop (i + 1) rows))
    → Independent (take (n - i) (drop i rows)) ↔ Independent (take (n - (i + 1)) (drop (i + 1) (put_mid (i + 1) (n - (i + 1)) rows ys)))
turn-behind i n c rows ys h l one e =
    rw (part_cons i n rows h l, put-part (i + 1) (n - (i + 1)) rows ys (omega arith) len, e)
    (eliminate c (get_or rows i 0) (take (n - (i + 1)) (drop (i + 1) rows)) one)
  where
    len : length ys ≡ n - (i + 1)
    len = ap length e ∙ length-map (take (n - (i + 1)) (drop (i + 1) rows)) (clear c (get_or rows i 0)) ∙ mid_len (i + 1) n rows l

-- ---- rows n - 1 and n - 2 clear the rows before them

module _ (n : ℕ) (rows : List ℕ) (more : 1 < n) (h : n ≤ length rows) where
  abbrev v : ℕ
  v = get_or rows (n - 2 + 1) 0

  abbrev u : ℕ
  u = get_or rows (n - 2) 0

  abbrev front : List ℕ
  front = take (n - 2) rows

  -- the last row in front, and the one before it behind
  last-first : Independent (take n rows) ↔ Independent (v ∷ (front ++ (u ∷ [])))
  last-first = rw whole (rotate v (front ++ (u ∷ [])))
    where
      whole : take n rows ≡ front ++ (u ∷ []) ++ (v ∷ [])
      whole =
          let e : n ≡ suc (n - 2 + 1) = omega arith in
          ap (λ (m : ℕ). take m rows) e
          ∙ take-suc rows (n - 2 + 1) 0 (omega arith)
          ∙ ap (λ (l : List ℕ). l ++ (v ∷ [])) (ap (λ (m : ℕ). take m rows) (add-one (n - 2)) ∙ take-suc rows (n - 2) 0 (omega arith))

  pub last-zero : get_or rows (n - 2 + 1) 0 ≡ 0 → Independent (take n rows) → ⊥
  last-zero z i = zero_row (front ++ (u ∷ [])) (rw z at (last-first.0 i))

  module _ (c : ℕ) (one : get_or rows (n - 2 + 1) 0 / 2 ^ c % 2 ≡ 1) where
    parted : map (clear c v) (front ++ (u ∷ [])) ≡ map (clear c v) front ++ (clear c v u ∷ [])
    parted = map-append (clear c v) front (u ∷ [])

    first_out : Independent (take n rows) ↔ Independent (clear c v u ∷ map (clear c v) front)
    first_out = (
      λ i. (rotate (clear c v u) (map (clear c v) front)).0 (rw parted at ((eliminate c v (front ++ (u ∷ [])) one).0 (last-first.0 i))),
      λ i. last-first.1 ((eliminate c v (front ++ (u ∷ [])) one).1 (rw parted ((rotate (clear c v u) (map (clear c v) front)).1 i))),
    )

    module _ (w : ℕ) (is : w ≡ clear c (get_or rows (n - 2 + 1) 0) (get_or rows (n - 2) 0)) where
      next-out : Independent (take n rows) ↔ Independent (w ∷ map (clear c v) front)
      next-out = rw is first_out

      pub next-zero : w ≡ 0 → Independent (take n rows) → ⊥
      next-zero z i = zero_row (map (clear c v) front) (rw z at (next-out.0 i))

      pub turn-before : (d : ℕ) (ys : List ℕ) → w / 2 ^ d % 2 ≡ 1 → ys ≡ map (clear d w) (map (clear c (get_or rows (n - 2 + 1) 0)) (take (n - 2) rows))
          → Independent (take n rows) ↔ Independent (take (n - 2) (ys ++ drop (n - 2) rows))
      turn-before d ys two e =
          rw (take_at ys (drop (n - 2) rows) (n - 2) len, e)
          (λ i. (eliminate d w (map (clear c v) front) two).0 (next-out.0 i), λ i. next-out.1 ((eliminate d w (map (clear c v) front) two).1 i))
        where
          len : length ys ≡ n - 2
          len =
              ap length e ∙ length-map (map (clear c v) front) (clear d w) ∙ length-map front (clear c v)
              ∙ length-take-le (n - 2) rows (omega arith)

-- ---- one row is left

pub only_row : (rows : List ℕ) → 0 < length rows → (0 < get_or rows 0 0) ↔ Independent (take 1 rows)
only_row [] h = absurd (omega arith)
only_row (r ∷ rows) h = (there, λ i. go i (eq-zero-or-pos r))
  where
    there : 0 < r → Independent (r ∷ [])
    there l = (eliminate (degree r) r [] (rw (degree-is r l))).1 no_rows

    go : Independent (r ∷ []) → (r ≡ 0) ⊎ (0 < r) → 0 < r
    go i (inl z) = absurd (zero_row [] (rw z at i))
    go i (inr l) = l
