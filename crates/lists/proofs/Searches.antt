-- Laws of tests and lists: whether some number passes, the search for the first one, and the numbers that stand in a list.
use mathlib.Core.Path.{◌≡◌, refl, sym, ap, ◌∙◌}
use mathlib.Core.Logic.{inl, inr}
use mathlib.Core.Bool.{Bool, true, false, ◌||◌, or-true, true≢false, cond}
use mathlib.Core.List.{List, [], ◌∷◌}
use Prim.Native.Nat.{ℕ, zero, suc, ◌+◌, ◌≤◌, ◌<◌}
use native.Mathlib.Nat.{le_refl, not-suc-le-zero}
use native.Mathlib.Decide.{ℕ_discrete}
use native.Mathlib.Omega.{arith}
use lib.Dec.{eqb}
use borrow.Author.Tests.{eqb-true, eq-eqb, ne_eqb}
use types.Run.{OneOf}
use Rattle.lists.specs.Lists.{All, any_below}
use Rattle.lists.specs.Searches.{first_from}
use Rattle.lists.specs.Members.{among}
use Rattle.lists.proofs.Truth.{or-neither}

-- ---- whether some number below n passes

pub any_false : (f : ℕ → Bool) (n d : ℕ) → any_below f n ≡ false → d < n → f d ≡ false
unfolding any_below
any_false f zero d e l = absurd (not-suc-le-zero l)
any_false f (suc n) d e l = go (ℕ_discrete d n) (λ m. any_false f n d (or-neither (f n) (any_below f n) e).1 m)
  where
    go : Dec (d ≡ n) → (d < n → f d ≡ false) → f d ≡ false
    go (yes q) h = rw q (or-neither (f n) (any_below f n) e).0
    go (no q) h = h (omega arith)

pub any_none : (f : ℕ → Bool) (n : ℕ) → ((d : ℕ) → d < n → f d ≡ false) → any_below f n ≡ false
unfolding any_below
any_none f zero h = refl
any_none f (suc n) h = rw (h n (le_refl (suc n))) (any_none f n (λ d l. h d (omega arith)))

-- ---- the first number that passes

skip : (b : Bool) (n m : ℕ) → (b ≡ true → ⊥) → cond b n m ≡ m
skip true n m h = absurd (h refl)
skip false n m h = refl

-- the search finds p, where p passes and nothing before it
pub first-is : (f : ℕ → Bool) (n c p : ℕ) → n ≤ p → p < n + c → f p ≡ true → ((q : ℕ) → n ≤ q → q < p → f q ≡ true → ⊥)
    → first_from f n c ≡ p
unfolding first_from
first-is f n zero p lo hi e none = absurd (omega arith)
first-is f n (suc c) p lo hi e none = go (ℕ_discrete n p) (λ m. first-is f (suc n) c p m (omega arith) e (λ q l s. none q (omega arith) s))
  where
    go : Dec (n ≡ p) → (suc n ≤ p → first_from f (suc n) c ≡ p) → cond (f n) n (first_from f (suc n) c) ≡ p
    go (yes d) rest = rw (ap f d ∙ e) d
    go (no d) rest = skip (f n) n (first_from f (suc n) c) (none n (le_refl n) (omega arith)) ∙ rest (omega arith)

-- nothing before what it finds passes
pub none_before : (f : ℕ → Bool) (n c q : ℕ) → n ≤ q → q < first_from f n c → f q ≡ false
unfolding first_from
none_before f n zero q l h = absurd (omega arith)
none_before f n (suc c) q l h = go (f n) refl h (ℕ_discrete n q) (none_before f (suc n) c q)
  where
    go : (b : Bool) → f n ≡ b → q < cond b n (first_from f (suc n) c) → Dec (n ≡ q) → (suc n ≤ q → q < first_from f (suc n) c → f q ≡ false)
        → f q ≡ false
    go true e h d rest = absurd (omega arith)
    go false e h (yes d) rest = ap f (sym d) ∙ e
    go false e h (no d) rest = rest (omega arith) h

-- ---- the numbers of a list

pub one-among : (ks : List ℕ) (n : ℕ) → OneOf ks n → true ≡ among n ks
unfolding among
one-among [] n h = absurd h
one-among (k ∷ []) n h = rw (eq-eqb n k h)
one-among (k ∷ m ∷ ks) n (inl h) = rw (eq-eqb n k h)
one-among (k ∷ m ∷ ks) n (inr h) = sym (or-true (eqb n k)) ∙ ap (λ (b : Bool). eqb n k || b) (one-among (m ∷ ks) n h)

pub none-among : (ks : List ℕ) (n : ℕ) → (OneOf ks n → ⊥) → false ≡ among n ks
unfolding among
none-among [] n h = refl
none-among (k ∷ []) n h = rw (ne_eqb n k h)
none-among (k ∷ m ∷ ks) n h = rw (ne_eqb n k (λ e. h (inl e))) (none-among (m ∷ ks) n (λ r. h (inr r)))

-- what holds of every entry holds of a number that stands in the list
pub all_among : (P : ℕ → Type 0) (ks : List ℕ) (n : ℕ) → All P ks → among n ks ≡ true → P n
unfolding among
all_among P [] n p e = absurd (true≢false (sym e))
all_among P (k ∷ ks) n p e = go (eqb n k) refl e (all_among P ks n p.1)
  where
    go : (b : Bool) → eqb n k ≡ b → (b || among n ks) ≡ true → (among n ks ≡ true → P n) → P n
    go true q e rest = rw (eqb-true n k q) p.0
    go false q e rest = rest e
