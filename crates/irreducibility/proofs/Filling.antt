-- Listed values put through a function, and a buffer that is filled with them from the front.
use mathlib.Core.Path.{◌≡◌, sym, ap, ◌∙◌}
use mathlib.Core.Bool.{Bool, true}
use mathlib.Core.Logic.{◌↔◌}
use mathlib.Core.List.{List, [], ◌∷◌, ◌++◌, append-nil, append_assoc}
use Prim.Native.Nat.{ℕ, suc, ◌+◌, ◌-◌, ◌*◌, ◌^◌, ◌≤◌, ◌<◌}
use native.Mathlib.Nat.{zero-add, add-zero, pow-suc}
use native.Mathlib.Omega.{arith}
use lib.ListN.{length, take, drop, get_or, set, length-append, length-drop}
use lib.Seq.{drop-cons, drop-length, get_or_at, take_at}
use Rattle.gf2.specs.Polynomials.{rem}
use Rattle.lists.specs.Lists.{list_from}
use Rattle.gf2.proofs.Powers.{rem_shl}
use Rattle.lists.proofs.Lists.{length_list, list_append, list_at, list_more, list_same, written_next}
use Rattle.basis.specs.Rows.{Independent}
use Rattle.irreducibility.specs.Squares.{square}

-- listed values, each put through g with its place
pub list_over : (g : ℕ → ℕ → ℕ) (f : ℕ → ℕ) (a n : ℕ) → list_from (λ i. g (a + i) (get_or (list_from f a n) i 0)) 0 n ≡ list_from (λ i. g i (f i)) a n
list_over g f a n = list_same (λ i. g (a + i) (get_or (list_from f a n) i 0)) (λ i. g i (f i)) 0 a n (λ i l. rw (zero-add, list_at f a n i l))

-- ---- the buffer, with i values written

module _ (f : ℕ → ℕ) (a i : ℕ) (rows : List ℕ) where
  pub length-filled : i ≤ length rows → length (list_from f a i ++ drop i rows) ≡ length rows
  length-filled h = length-append (list_from f a i) (drop i rows) ∙ rw (length_list, length-drop) (omega arith)

  pub filled_at : i < length rows → get_or (list_from f a i ++ drop i rows) i 0 ≡ get_or rows i 0
  filled_at h = rw (drop-cons rows i 0 h) (get_or_at (list_from f a i) (get_or rows i 0) (drop (suc i) rows) 0 i (length_list f a i))

  pub fill : (v : ℕ) → i < length rows → v ≡ f (a + i) → set (list_from f a i ++ drop i rows) i v ≡ list_from f a (i + 1) ++ drop (i + 1) rows
  fill v h e =
      written_next (list_from f a i) rows i 0 v (length_list f a i) h
      ∙ ap (λ (l : List ℕ). l ++ drop (i + 1) rows) (ap (λ (x : ℕ). list_from f a i ++ x ∷ []) e ∙ sym (list_more f a i))

  pub fill-whole : i ≡ length rows → list_from f a i ++ drop i rows ≡ list_from f a (length rows)
  fill-whole e = rw (e, drop-length) (append-nil (list_from f a (length rows)))

-- the first m of n values in front of a buffer
pub front-values : (f : ℕ → ℕ) (a m n : ℕ) (rest : List ℕ) → m ≤ n → take m (list_from f a n ++ rest) ≡ list_from f a m
front-values f a m n rest h =
    let e : n ≡ m + (n - m) = omega arith in
    ap (λ (x : ℕ). take m (list_from f a x ++ rest)) e
    ∙ ap (λ (l : List ℕ). take m (l ++ rest)) (list_append f a m (n - m))
    ∙ ap (take m) (append_assoc (list_from f a m) (list_from f (a + m) (n - m)) rest)
    ∙ take_at (list_from f a m) (list_from f (a + m) (n - m) ++ rest) m (length_list f a m)

-- what is decided of the filled buffer
pub same-independent : {r : Bool} {xs ys : List ℕ} → xs ≡ ys → (r ≡ true) ↔ Independent xs → (r ≡ true) ↔ Independent ys
same-independent e h = rw e at h

-- two steps from a square to the next one
pub next-square : (p : ℕ) → 0 < p → (i w y z : ℕ) → w ≡ square p i → y ≡ rem p (w * 2 + 0) → z ≡ rem p (y * 2 + 0) → z ≡ square p (i + 1)
unfolding square
next-square p pos i w y z e once twice =
    twice
    ∙ ap (λ (x : ℕ). rem p (x * 2 + 0)) once
    ∙ ap (rem p) (add-zero (rem p (w * 2 + 0) * 2))
    ∙ ap (λ (x : ℕ). rem p (rem p x * 2)) (add-zero (w * 2) ∙ ap (λ (x : ℕ). x * 2) e)
    ∙ ap (λ (x : ℕ). rem p (x * 2)) (rem_shl pos (2 ^ (2 * i)) 1)
    ∙ rem_shl pos (2 ^ (2 * i) * 2) 1
    ∙ ap (rem p) (sym (ap (λ (x : ℕ). 2 ^ x) two-more ∙ pow-suc 2 (suc (2 * i)) ∙ ap (λ (x : ℕ). x * 2) (pow-suc 2 (2 * i))))
  where
    two-more : 2 * (i + 1) ≡ suc (suc (2 * i))
    two-more = omega arith
