-- The numbers g 0, g 1, .., of which the first n are searched for one, or for two that are equal; the pigeonhole principle.
use mathlib.Core.Path.{◌≡◌}
use mathlib.Core.Logic.{◌≢◌, ◌⊎◌, inl, inr}
use Prim.Native.Nat.{ℕ, zero, suc, ◌-◌, ◌≤◌, ◌<◌, min}
use native.Mathlib.Nat.{le_refl, le_step, not-suc-le-zero}
use native.Mathlib.Decide.{ℕ_discrete, dec_lt}
use native.Mathlib.Omega.{arith}

-- two of the first n are equal
pub record Collision (n : ℕ) (g : ℕ → ℕ) : Type 0 where
  pub first : ℕ
  pub second : ℕ
  pub apart : first < second
  pub below : second < n
  pub same : g first ≡ g second

-- v stands among the first n
pub record Found (n v : ℕ) (g : ℕ → ℕ) : Type 0 where
  pub place : ℕ
  pub before : place < n
  pub is : g place ≡ v

pub find : (g : ℕ → ℕ) (v n : ℕ) → Found n v g ⊎ ((i : ℕ) → i < n → g i ≢ v)
find g v zero = inr (λ i l. absurd (not-suc-le-zero l))
find g v (suc n) = go (ℕ_discrete (g n) v) (find g v n)
  where
    go : Dec (g n ≡ v) → Found n v g ⊎ ((i : ℕ) → i < n → g i ≢ v) → Found (suc n) v g ⊎ ((i : ℕ) → i < suc n → g i ≢ v)
    go (yes e) r = inl (record { place = n; before = le_refl (suc n); is = e })
    go (no ne) (inl f) = inl (record { place = f.place; before = le_step f.before; is = f.is })
    go (no ne) (inr none) = inr (λ i l. pick i l (ℕ_discrete i n))
      where
        pick : (i : ℕ) → i < suc n → Dec (i ≡ n) → g i ≢ v
        pick i l (yes e) = rw e ne
        pick i l (no d) = none i (omega arith)

-- where it cannot be that it stands nowhere
pub stands : (g : ℕ → ℕ) (v n : ℕ) → (((i : ℕ) → i < n → g i ≢ v) → ⊥) → Found n v g
stands g v n some = go (find g v n)
  where
    go : Found n v g ⊎ ((i : ℕ) → i < n → g i ≢ v) → Found n v g
    go (inl f) = f
    go (inr none) = absurd (some none)

-- two of the first n are equal, or all are different
pub collide : (n : ℕ) (g : ℕ → ℕ) → Collision n g ⊎ ((i j : ℕ) → i < j → j < n → g i ≢ g j)
collide zero g = inr (λ i j l h. absurd (not-suc-le-zero h))
collide (suc n) g = go (find g (g n) n) (collide n g)
  where
    go : Found n (g n) g ⊎ ((i : ℕ) → i < n → g i ≢ g n) → Collision n g ⊎ ((i j : ℕ) → i < j → j < n → g i ≢ g j)
        → Collision (suc n) g ⊎ ((i j : ℕ) → i < j → j < suc n → g i ≢ g j)
    go (inl f) r = inl (record { first = f.place; second = n; apart = f.before; below = le_refl (suc n); same = f.is })
    go (inr none) (inl c) = inl (record { first = c.first; second = c.second; apart = c.apart; below = le_step c.below; same = c.same })
    go (inr none) (inr d) = inr (λ i j l h. pick i j l h (ℕ_discrete j n))
      where
        pick : (i j : ℕ) → i < j → j < suc n → Dec (j ≡ n) → g i ≢ g j
        pick i j l h (yes e) = rw e (none i (omega arith))
        pick i j l h (no ne) = d i j l (omega arith)

-- the numbers other than v, without the gap at v
squeeze : ℕ → ℕ → ℕ
squeeze v x = x - min 1 (x - v)

squeeze-lt : (v x n : ℕ) → x ≢ v → x < suc n → v < suc n → squeeze v x < n
unfolding squeeze
squeeze-lt v x n d l h = omega arith

squeeze-cases : (v x : ℕ) → x ≢ v → ((x < v) × (squeeze v x ≡ x)) ⊎ ((v < x) × (suc (squeeze v x) ≡ x))
unfolding squeeze
squeeze-cases v x d = go (dec_lt x v)
  where
    go : Dec (x < v) → ((x < v) × (x - min 1 (x - v) ≡ x)) ⊎ ((v < x) × (suc (x - min 1 (x - v)) ≡ x))
    go (yes l) = inl (l, omega arith)
    go (no n) = inr (omega arith, omega arith)

squeeze_inj : (v x y : ℕ) → x ≢ v → y ≢ v → squeeze v x ≡ squeeze v y → x ≡ y
squeeze_inj v x y dx dy e = go (squeeze-cases v x dx) (squeeze-cases v y dy)
  where
    go : ((x < v) × (squeeze v x ≡ x)) ⊎ ((v < x) × (suc (squeeze v x) ≡ x)) → ((y < v) × (squeeze v y ≡ y)) ⊎ ((v < y) × (suc (squeeze v y) ≡ y)) → x ≡ y
    go (inl a) (inl b) = omega arith
    go (inl a) (inr b) = omega arith
    go (inr a) (inl b) = omega arith
    go (inr a) (inr b) = omega arith

-- n + 1 numbers below n are not all different
pub pigeonhole : (n : ℕ) (g : ℕ → ℕ) → ((i : ℕ) → i ≤ n → g i < n) → Collision (suc n) g
pigeonhole zero g h = absurd (not-suc-le-zero (h 0 (le_refl 0)))
pigeonhole (suc n) g h =
    go (find g v (suc n))
    (λ none. pigeonhole n (λ i. squeeze v (g i)) (λ i l. squeeze-lt v (g i) n (none i (omega arith)) (h i (le_step l)) last))
  where
    v : ℕ
    v = g (suc n)

    last : v < suc n
    last = h (suc n) (le_refl (suc n))

    go : Found (suc n) v g ⊎ ((i : ℕ) → i < suc n → g i ≢ v)
        → (((i : ℕ) → i < suc n → g i ≢ v) → Collision (suc n) (λ i. squeeze v (g i))) → Collision (suc (suc n)) g
    go (inl f) rest = record { first = f.place; second = suc n; apart = f.before; below = le_refl (suc (suc n)); same = f.is }
    go (inr none) rest = let c = rest none in
        record {
          first = c.first;
          second = c.second;
          apart = c.apart;
          below = le_step c.below;
          same = squeeze_inj v (g c.first) (g c.second) (none c.first (omega (arith, c.apart, c.below))) (none c.second c.below) c.same;
        }
