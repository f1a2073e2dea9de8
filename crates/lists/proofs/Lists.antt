-- Laws of lists of numbers, of two lists entry by entry, of listed values and of the numbers that pass a test, and tests of a whole list that the
-- checker computes: of every entry, that two lists are the same, and that a list rises.
use mathlib.Core.Path.{◌≡◌, refl, sym, ap, ap₂, ◌∙◌}
use mathlib.Core.Logic.{◌≢◌, ◌⊎◌}
use mathlib.Core.Bool.{Bool, true, false, ◌&&◌, cond}
use mathlib.Core.List.{List, [], ◌∷◌, ◌++◌, map, zip_with}
use Prim.Native.Nat.{ℕ, zero, suc, ◌+◌, ◌≤◌, ◌<◌}
use native.Mathlib.Nat.{lt_trans, ne_of_gt, zero-add, add-zero, add-suc, suc-add, le_of_suc-le-suc, not-suc-le-zero}
use native.Mathlib.Numerals.{add-one}
use native.Mathlib.Decide.{ℕ_discrete}
use native.Mathlib.Omega.{arith}
use lib.Dec.{T, ltb, ltb→lt, eqb, eqb→eq}
use lib.ListN.{length, get_or, set, take, drop}
use lib.Seq.{get_or-set_same, get_or-set_other, drop-cons, set_at, append_snoc}
use Rattle.lists.specs.Lists.{list_from, passing, same, All, Distinct}
use Rattle.lists.proofs.Truth.{and_left, and_right}

pub all_map : {P Q : ℕ → Type 0} → ((x : ℕ) → P x → Q x) → (xs : List ℕ) → All P xs → All Q xs
all_map f [] p = tt
all_map f (x ∷ xs) p = (f x p.0, all_map f xs p.1)

-- of the front of a list, of what is behind it, and of two lists one behind the other
module _ (P : ℕ → Type 0) where
  pub all_take : (n : ℕ) (xs : List ℕ) → All P xs → All P (take n xs)
  all_take zero xs p = tt
  all_take (suc n) [] p = tt
  all_take (suc n) (x ∷ xs) p = (p.0, all_take n xs p.1)

  pub all_drop : (n : ℕ) (xs : List ℕ) → All P xs → All P (drop n xs)
  all_drop zero xs p = p
  all_drop (suc n) [] p = tt
  all_drop (suc n) (x ∷ xs) p = all_drop n xs p.1

  pub all_append : (xs ys : List ℕ) → All P xs → All P ys → All P (xs ++ ys)
  all_append [] ys p q = q
  all_append (x ∷ xs) ys p q = (p.0, all_append xs ys p.1 q)

pub all-zip : {P Q R : ℕ → Type 0} → ((x : ℕ) → P x → Q x → R x) → (xs : List ℕ) → All P xs → All Q xs → All R xs
all-zip f [] p q = tt
all-zip f (x ∷ xs) p q = (f x p.0 q.0, all-zip f xs p.1 q.1)

-- something holds of at least one entry
abbrev pub Some : (ℕ → Type 0) → List ℕ → Type 0
Some P [] = ⊥
Some P (x ∷ xs) = P x ⊎ Some P xs

-- ---- two lists, entry by entry

module _ (f : ℕ → ℕ → ℕ) where
  pub length_zip_with : (a b : List ℕ) → length a ≡ length b → length (zip_with f a b) ≡ length a
  unfolding zip_with
  length_zip_with [] b l = refl
  length_zip_with (x ∷ a) [] l = absurd (omega arith)
  length_zip_with (x ∷ a) (y ∷ b) l = ap suc (length_zip_with a b (omega arith))

  pub take_zip_with : (n : ℕ) (a b : List ℕ) → take n (zip_with f a b) ≡ zip_with f (take n a) (take n b)
  unfolding zip_with
  take_zip_with zero a b = refl
  take_zip_with (suc n) [] b = refl
  take_zip_with (suc n) (x ∷ a) [] = refl
  take_zip_with (suc n) (x ∷ a) (y ∷ b) = ap {B = List ℕ} (λ r. f x y ∷ r) (take_zip_with n a b)

  pub append_zip_with : (a b c d : List ℕ) → length a ≡ length b → zip_with f (a ++ c) (b ++ d) ≡ zip_with f a b ++ zip_with f c d
  unfolding zip_with
  append_zip_with [] [] c d l = refl
  append_zip_with [] (y ∷ b) c d l = absurd (omega arith)
  append_zip_with (x ∷ a) [] c d l = absurd (omega arith)
  append_zip_with (x ∷ a) (y ∷ b) c d l = ap {B = List ℕ} (λ r. f x y ∷ r) (append_zip_with a b c d (omega arith))

  pub get_d_zip_with : f 0 0 ≡ 0 → (a b : List ℕ) (i : ℕ) → length a ≡ length b → get_or (zip_with f a b) i 0 ≡ f (get_or a i 0) (get_or b i 0)
  unfolding zip_with
  get_d_zip_with z [] [] i l = sym z
  get_d_zip_with z [] (y ∷ b) i l = absurd (omega arith)
  get_d_zip_with z (x ∷ a) [] i l = absurd (omega arith)
  get_d_zip_with z (x ∷ a) (y ∷ b) zero l = refl
  get_d_zip_with z (x ∷ a) (y ∷ b) (suc i) l = get_d_zip_with z a b i (omega arith)

-- ---- a test at every entry

unfoldable pub every : (ℕ → Bool) → List ℕ → Bool
every f [] = true
every f (x ∷ xs) = f x && every f xs

pub all_by_test : (f : ℕ → Bool) (xs : List ℕ) → T (every f xs) → All (λ x. T (f x)) xs
unfolding every
all_by_test f [] t = tt
all_by_test f (x ∷ xs) t = (and_left (f x) (every f xs) t, all_by_test f xs (and_right (f x) (every f xs) t))

-- ---- the same entries

pub same-eq : (xs ys : List ℕ) → T (same xs ys) → xs ≡ ys
unfolding same
same-eq [] [] t = refl
same-eq [] (y ∷ ys) t = absurd t
same-eq (x ∷ xs) [] t = absurd t
same-eq (x ∷ xs) (y ∷ ys) t =
    ap₂ {C = List ℕ} (λ (v : ℕ) (vs : List ℕ). v ∷ vs) (eqb→eq x y (and_left (eqb x y) (same xs ys) t)) (same-eq xs ys (and_right (eqb x y) (same xs ys) t))

-- ---- sorted, so different

-- each entry is above the one before it, the first above b
unfoldable pub rising : ℕ → List ℕ → Bool
rising b [] = true
rising b (x ∷ xs) = ltb b x && rising x xs

above : (b : ℕ) (xs : List ℕ) → T (rising b xs) → All (λ y. b < y) xs
unfolding rising
above b [] t = tt
above b (x ∷ xs) t =
    let l = ltb→lt b x (and_left (ltb b x) (rising x xs) t) in
    (l, all_map (λ y h. lt_trans l h) xs (above x xs (and_right (ltb b x) (rising x xs) t)))

pub distinct_by_test : (b : ℕ) (xs : List ℕ) → T (rising b xs) → Distinct xs
unfolding rising
distinct_by_test b [] t = tt
distinct_by_test b (x ∷ xs) t =
    let s = and_right (ltb b x) (rising x xs) t in
    (all_map (λ y h. ne_of_gt h) xs (above x xs s), distinct_by_test x xs s)

-- ---- listed values

pub length_list : (f : ℕ → ℕ) (i n : ℕ) → length (list_from f i n) ≡ n
unfolding list_from
length_list f i zero = refl
length_list f i (suc n) = ap suc (length_list f (suc i) n)

pub list_at : (f : ℕ → ℕ) (a n i : ℕ) → i < n → get_or (list_from f a n) i 0 ≡ f (a + i)
unfolding list_from
list_at f a zero i h = absurd (not-suc-le-zero h)
list_at f a (suc n) zero h = rw add-zero
list_at f a (suc n) (suc i) h = list_at f (suc a) n i (le_of_suc-le-suc h) ∙ rw (suc-add, add-suc)

pub list_append : (f : ℕ → ℕ) (a m n : ℕ) → list_from f a (m + n) ≡ list_from f a m ++ list_from f (a + m) n
unfolding list_from
list_append f a zero n = rw (zero-add, add-zero)
list_append f a (suc m) n = rw (suc-add, add-suc) (ap (λ (xs : List ℕ). f a ∷ xs) (rw suc-add at (list_append f (suc a) m n)))

pub list_more : (f : ℕ → ℕ) (a n : ℕ) → list_from f a (n + 1) ≡ list_from f a n ++ (f (a + n) ∷ [])
unfolding list_from
list_more f a n = list_append f a n 1

pub list_map : (f g : ℕ → ℕ) (a n : ℕ) → map g (list_from f a n) ≡ list_from (λ i. g (f i)) a n
unfolding list_from
list_map f g a zero = refl
list_map f g a (suc n) = ap (λ (xs : List ℕ). g (f a) ∷ xs) (list_map f g (suc a) n)

-- the same values, counted from a or from b
pub list_same : (f g : ℕ → ℕ) (a b n : ℕ) → ((i : ℕ) → i < n → f (a + i) ≡ g (b + i)) → list_from f a n ≡ list_from g b n
unfolding list_from
list_same f g a b zero h = refl
list_same f g a b (suc n) h =
    ap₂ {C = List ℕ} (λ (x : ℕ) (xs : List ℕ). x ∷ xs) (rw (add-zero, add-zero) at (h 0 (omega arith)))
    (list_same f g (suc a) (suc b) n (λ i l. rw (suc-add, suc-add, ← add-suc, ← add-suc) (h (suc i) (omega arith))))

-- ---- a store: what holds of each entry at its place holds on, where it holds of what is stored

module _ {A : Type 0} (d : A) (P : ℕ → A → Type 0) (xs : List A) (i : ℕ) (v : A) (l : i < length xs) (p : P i v) where
  pub stored : (j : ℕ) → (j ≢ i → P j (get_or xs j d)) → P j (get_or (set xs i v) j d)
  stored j f = go (ℕ_discrete j i)
    where
      go : Dec (j ≡ i) → P j (get_or (set xs i v) j d)
      go (yes e) = rw (e, get_or-set_same xs i v d l) p
      go (no n) = rw (get_or-set_other xs i j v d n) (f n)

-- the entries from a place on: the first, and the others
pub drop-next : {A : Type 0} (xs : List A) (i : ℕ) (d : A) → i < length xs → drop i xs ≡ get_or xs i d ∷ drop (i + 1) xs
drop-next xs i d l = rw add-one (drop-cons xs i d l)

-- a store behind what is written already
pub written_next : {A : Type 0} (xs before : List A) (i : ℕ) (d v : A) → length xs ≡ i → i < length before
    → set (xs ++ drop i before) i v ≡ (xs ++ v ∷ []) ++ drop (i + 1) before
written_next xs before i d v e l =
    rw (drop-next before i d l) (set_at xs (get_or before i d) (drop (i + 1) before) v i e) ∙ sym (append_snoc xs v (drop (i + 1) before))

-- ---- the numbers that pass a test

-- y is one of the c numbers from n on, and passes
pub record Passes (test : ℕ → Bool) (n c y : ℕ) : Type 0 where
  pub from : n ≤ y
  pub below : y < n + c
  pub holds : test y ≡ true

module _ (test : ℕ → Bool) where
  all_keep : (P : ℕ → Type 0) (b : Bool) (n : ℕ) (xs : List ℕ) → (b ≡ true → P n) → All P xs → All P (cond b (n ∷ xs) xs)
  all_keep P true n xs h p = (h refl, p)
  all_keep P false n xs h p = p

  wider : (n c y : ℕ) → Passes test (suc n) c y → Passes test n (suc c) y
  wider n c y p = record { from = omega (arith, p.from); below = omega (arith, p.below); holds = p.holds }

  pub all-passing : (n c : ℕ) → All (Passes test n c) (passing test n c)
  unfolding passing
  all-passing n zero = tt
  all-passing n (suc c) =
      all_keep (Passes test n (suc c)) (test n) n (passing test (suc n) c) (λ e. record { from = omega arith; below = omega arith; holds = e })
      (all_map (wider n c) (passing test (suc n) c) (all-passing (suc n) c))

  -- each is above those before it
  pub passing-above : (n c : ℕ) → All (λ y. n < y) (passing test (suc n) c)
  passing-above n c = all_map (λ y p. p.from) (passing test (suc n) c) (all-passing (suc n) c)

  distinct_keep : (b : Bool) (n : ℕ) (xs : List ℕ) → All (λ y. n < y) xs → Distinct xs → Distinct (cond b (n ∷ xs) xs)
  distinct_keep true n xs h d = (all_map (λ y l. ne_of_gt l) xs h, d)
  distinct_keep false n xs h d = d

  pub distinct_passing : (n c : ℕ) → Distinct (passing test n c)
  unfolding passing
  distinct_passing n zero = tt
  distinct_passing n (suc c) = distinct_keep (test n) n (passing test (suc n) c) (passing-above n c) (distinct_passing (suc n) c)
