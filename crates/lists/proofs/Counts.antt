-- Sums and counts over the n numbers from x on; a count as the length of a list; and counting twice: what passes a test after a map, by the
-- values that the map takes.
use mathlib.Core.Path.{◌≡◌, refl, sym, ap, ap₂, ◌∙◌}
use mathlib.Core.Bool.{Bool, true, false, false≢true, cond}
use mathlib.Core.List.{List, ◌∷◌}
use Prim.Native.Nat.{ℕ, zero, suc, ◌+◌, ◌*◌, ◌≤◌, ◌<◌}
use native.Mathlib.Nat.{le_refl, mul-zero, zero-mul, mul-one, mul-add, zero-add, add-zero}
use native.Mathlib.Decide.{ℕ_discrete}
use native.Mathlib.Omega.{arith}
use lib.Dec.{eqb}
use lib.ListN.{length}
use borrow.Author.Tests.{eq-eqb, ne_eqb}
use Rattle.lists.specs.Lists.{passing}
use Rattle.lists.specs.Counts.{count_from}

unfoldable pub sum_from : (ℕ → ℕ) → ℕ → ℕ → ℕ
sum_from g x zero = 0
sum_from g x (suc n) = g x + sum_from g (suc x) n

pub count-is-sum : (f : ℕ → Bool) (x n : ℕ) → count_from f x n ≡ sum_from (λ y. cond (f y) 1 0) x n
unfolding count_from sum_from
count-is-sum f x zero = refl
count-is-sum f x (suc n) = ap (λ (s : ℕ). (cond (f x) 1 0) + s) (count-is-sum f (suc x) n)

pub sum_same : (g h : ℕ → ℕ) (x n : ℕ) → ((y : ℕ) → x ≤ y → y < x + n → g y ≡ h y) → sum_from g x n ≡ sum_from h x n
unfolding sum_from
sum_same g h x zero e = refl
sum_same g h x (suc n) e =
    ap₂ (λ (a b : ℕ). a + b) (e x (le_refl x) (omega arith)) (sum_same g h (suc x) n (λ y l m. e y (omega arith) (omega arith)))

sum-zero : (x n : ℕ) → sum_from (λ y. 0) x n ≡ 0
unfolding sum_from
sum-zero x zero = refl
sum-zero x (suc n) = omega (arith, sum-zero (suc x) n)

sum-add : (g h : ℕ → ℕ) (x n : ℕ) → sum_from (λ y. g y + h y) x n ≡ sum_from g x n + sum_from h x n
unfolding sum_from
sum-add g h x zero = refl
sum-add g h x (suc n) = omega (arith, sum-add g h (suc x) n)

pub sum_times : (g : ℕ → ℕ) (c x n : ℕ) → sum_from (λ y. g y * c) x n ≡ sum_from g x n * c
unfolding sum_from
sum_times g c x zero = sym (zero-mul c)
sum_times g c x (suc n) = rw (sum_times g c (suc x) n) (omega arith)

-- all pass
pub count-all : (f : ℕ → Bool) (x n : ℕ) → ((y : ℕ) → x ≤ y → y < x + n → f y ≡ true) → count_from f x n ≡ n
unfolding count_from
count-all f x zero e = refl
count-all f x (suc n) e =
    rw (e x (le_refl x) (omega arith), count-all f (suc x) n (λ y l m. e y (omega arith) (omega arith))) (omega arith)

-- the list of the numbers that pass is as long as their count
length_keep : (b : Bool) (x : ℕ) (xs : List ℕ) → length (cond b (x ∷ xs) xs) ≡ (cond b 1 0) + length xs
length_keep true x xs = omega arith
length_keep false x xs = omega arith

pub length-passing : (f : ℕ → Bool) (x n : ℕ) → length (passing f x n) ≡ count_from f x n
unfolding passing count_from
length-passing f x zero = refl
length-passing f x (suc n) = length_keep (f x) x (passing f (suc x) n) ∙ ap (λ (m : ℕ). (cond (f x) 1 0) + m) (length-passing f (suc x) n)

-- ---- one number alone

-- a sum over the places where y is v, of which there is none past v
none-later : (h : ℕ → ℕ) (v x n : ℕ) → v < x → sum_from (λ y. h y * (cond (eqb v y) 1 0)) x n ≡ 0
none-later h v x n l =
    sum_same (λ y. h y * (cond (eqb v y) 1 0)) (λ y. 0) x n (λ y a b. ap (λ (t : Bool). h y * (cond t 1 0)) (ne_eqb v y (λ e. omega arith)) ∙ mul-zero (h y))
    ∙ sum-zero x n

sum-at : (h : ℕ → ℕ) (v x n : ℕ) → x ≤ v → v < x + n → sum_from (λ y. h y * (cond (eqb v y) 1 0)) x n ≡ h v
unfolding sum_from
sum-at h v x zero l m = absurd (omega arith)
sum-at h v x (suc n) l m = go (ℕ_discrete v x) (λ a. sum-at h v (suc x) n a (omega arith))
  where
    go : Dec (v ≡ x) → (suc x ≤ v → sum_from (λ y. h y * (cond (eqb v y) 1 0)) (suc x) n ≡ h v)
        → h x * (cond (eqb v x) 1 0) + sum_from (λ y. h y * (cond (eqb v y) 1 0)) (suc x) n ≡ h v
    go (yes e) rest =
        rw (eq-eqb v x e, none-later h v (suc x) n (omega arith), mul-one, add-zero) (ap h (sym e))
    go (no d) rest = rw (ne_eqb v x d, mul-zero, zero-add) (rest (omega arith))

-- a test that one number of the range passes, and no other
pub count-one : (f : ℕ → Bool) (v x n : ℕ) → x ≤ v → v < x + n → f v ≡ true → ((y : ℕ) → x ≤ y → y < x + n → f y ≡ true → v ≡ y)
    → count_from f x n ≡ 1
count-one f v x n l m e only =
    count-is-sum f x n ∙ sum_same (λ y. cond (f y) 1 0) (λ y. 1 * (cond (eqb v y) 1 0)) x n each ∙ sum-at (λ y. 1) v x n l m
  where
    each : (y : ℕ) → x ≤ y → y < x + n → cond (f y) 1 0 ≡ 1 * (cond (eqb v y) 1 0)
    each y a b = go (f y) refl
      where
        go : (t : Bool) → f y ≡ t → cond t 1 0 ≡ 1 * (cond (eqb v y) 1 0)
        go true p = rw (eq-eqb v y (only y a b p))
        go false p = rw (ne_eqb v y (λ q. false≢true (sym p ∙ ap f (sym q) ∙ e)))

-- a test that no number of the range passes
pub count_none : (f : ℕ → Bool) (x n : ℕ) → ((y : ℕ) → x ≤ y → y < x + n → f y ≡ true → ⊥) → count_from f x n ≡ 0
count_none f x n e = count-is-sum f x n ∙ sum_same (λ y. cond (f y) 1 0) (λ y. 0) x n each ∙ sum-zero x n
  where
    each : (y : ℕ) → x ≤ y → y < x + n → ◌≡◌ {A = ℕ} (cond (f y) 1 0) 0
    each y a b = go (f y) refl
      where
        go : (t : Bool) → f y ≡ t → ◌≡◌ {A = ℕ} (cond t 1 0) 0
        go true p = absurd (e y a b p)
        go false p = refl

-- ---- counting twice

-- g takes the n numbers from a on to the m numbers from b on: those whose value passes are, value by value, those with that value
pub count-twice : (g : ℕ → ℕ) (t : ℕ → Bool) (a n b m : ℕ) → ((x : ℕ) → a ≤ x → x < a + n → (b ≤ g x) × (g x < b + m))
    → count_from (λ x. t (g x)) a n ≡ sum_from (λ y. (cond (t y) 1 0) * count_from (λ x. eqb (g x) y) a n) b m
unfolding count_from
count-twice g t a zero b m into =
    sym (sum_same (λ y. (cond (t y) 1 0) * 0) (λ y. 0) b m (λ y l h. mul-zero (cond (t y) 1 0)) ∙ sum-zero b m)
count-twice g t a (suc n) b m into =
    let here = into a (le_refl a) (omega arith) in
    ap₂ (λ (x y : ℕ). x + y) (sym (sum-at (λ y. cond (t y) 1 0) (g a) b m here.0 here.1))
    (count-twice g t (suc a) n b m (λ x l h. into x (omega arith) (omega arith)))
    ∙ sym (sum-add (λ y. (cond (t y) 1 0) * (cond (eqb (g a) y) 1 0)) (λ y. (cond (t y) 1 0) * count_from (λ x. eqb (g x) y) (suc a) n) b m)
    ∙ sum_same (λ y. (cond (t y) 1 0) * (cond (eqb (g a) y) 1 0) + (cond (t y) 1 0) * count_from (λ x. eqb (g x) y) (suc a) n)
    (λ y. (cond (t y) 1 0) * ((cond (eqb (g a) y) 1 0) + count_from (λ x. eqb (g x) y) (suc a) n)) b m
    (λ y l h. sym (mul-add (cond (t y) 1 0) (cond (eqb (g a) y) 1 0) (count_from (λ x. eqb (g x) y) (suc a) n)))
