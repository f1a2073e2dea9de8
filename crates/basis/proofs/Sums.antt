-- Laws of the sum of the rows that the bits of a number choose.
use Rattle.std.proofs.Common.{◌≡◌, ℕ, zero, suc, ◌+◌, ◌*◌, ◌/◌, ◌%◌, ◌^◌, ◌<◌, List, [], ◌∷◌, map, length, get_or, take, drop, sym, refl, ap, ◌∙◌, ap₂, one-mul}
use Rattle.std.proofs.Common.{pow-suc, zero-mul, add-one, arith, drop-cons}
use lib.Arith.{lt-one}
use lib.Seq.{drop-length}
use Rattle.gf2.specs.Polynomials.{◌⊕◌}
use Rattle.gf2.proofs.Sums.{⊕_self, ⊕-zero, zero-⊕, ⊕_assoc, ⊕-half, ⊕_swap}
use Rattle.gf2.proofs.Products.{low-⊕}
use Rattle.gf2.proofs.Linear.{Additive, at_zero, at-bit}
use Rattle.gf2.proofs.Degrees.{half_lt}
use Rattle.basis.specs.Rows.{sum_of}

pub sum-none : (rows : List ℕ) → sum_of 0 rows ≡ 0
unfolding sum_of
sum-none [] = refl
sum-none (r ∷ rows) = rw (sum-none rows, zero-mul) (⊕-zero 0)

sum-⊕ : (rows : List ℕ) (x y : ℕ) → sum_of (x ⊕ y) rows ≡ sum_of x rows ⊕ sum_of y rows
unfolding sum_of
sum-⊕ [] x y = sym (⊕_self 0)
sum-⊕ (r ∷ rows) x y =
    ap₂ (λ (u v : ℕ). u ⊕ v) (low-⊕ x y r) (ap (λ (z : ℕ). sum_of z rows) (⊕-half x y) ∙ sum-⊕ rows (x / 2) (y / 2))
    ∙ ⊕_swap (x % 2 * r) (y % 2 * r) (sum_of (x / 2) rows) (sum_of (y / 2) rows)

pub sum-additive : (rows : List ℕ) → Additive (λ x. sum_of x rows)
sum-additive rows = record { sum = sum-⊕ rows }

-- an additive function may be put through the sum
pub sum-map : {f : ℕ → ℕ} → Additive f → (h : ℕ) (rows : List ℕ) → sum_of h (map f rows) ≡ f (sum_of h rows)
unfolding sum_of
sum-map {f} a h [] = sym (at_zero a)
sum-map {f} a h (r ∷ rows) =
    ap₂ (λ (x y : ℕ). x ⊕ y) (sym (at-bit a h r)) (sum-map a (h / 2) rows) ∙ sym (a.sum (h % 2 * r) (sum_of (h / 2) rows))

-- a number below 2^n chooses none but the first n rows
pub sum-take : (n : ℕ) (rows : List ℕ) (x : ℕ) → x < 2 ^ n → sum_of x (take n rows) ≡ sum_of x rows
unfolding sum_of
sum-take zero rows x l = rw (lt-one l) (sym (sum-none rows))
sum-take (suc n) [] x l = refl
sum-take (suc n) (r ∷ rows) x l = ap (λ (y : ℕ). x % 2 * r ⊕ y) (sum-take n rows (x / 2) (half_lt x n l))

-- t^j chooses row j
pub sum-place : (j : ℕ) (rows : List ℕ) → sum_of (2 ^ j) rows ≡ get_or rows j 0
unfolding sum_of
sum-place j [] = refl
sum-place zero (r ∷ rows) = rw (one-mul r, sum-none rows) (⊕-zero r)
sum-place (suc j) (r ∷ rows) =
    ap₂ (λ (x y : ℕ). x * r ⊕ sum_of y rows) even half
    ∙ ap (λ (x : ℕ). x ⊕ sum_of (2 ^ j) rows) (zero-mul r)
    ∙ zero-⊕ (sum_of (2 ^ j) rows)
    ∙ sum-place j rows
  where
    even : 2 ^ suc j % 2 ≡ 0
    even = rw pow-suc (omega arith)

    half : 2 ^ suc j / 2 ≡ 2 ^ j
    half = rw pow-suc (omega arith)

-- ---- as the code makes it

pub sum-next : (rows : List ℕ) (j sum x : ℕ) → j < length rows
    → (sum ⊕ x % 2 * get_or rows j 0) ⊕ sum_of (x / 2) (drop (j + 1) rows) ≡ sum ⊕ sum_of x (drop j rows)
unfolding sum_of
sum-next rows j sum x l = rw (add-one j, drop-cons rows j 0 l) (⊕_assoc sum (x % 2 * get_or rows j 0) (sum_of (x / 2) (drop (suc j) rows)))

pub sum_done : (rows : List ℕ) (j sum x : ℕ) → j ≡ length rows → sum ⊕ sum_of x (drop j rows) ≡ sum
unfolding sum_of
sum_done rows j sum x e = rw (e, drop-length rows) (⊕-zero sum)
