-- Elimination keeps independence: with a 1 in column c of v, the rows v, r, s, .. are independent where r, s, .. are once v has cleared
-- column c of each.
use Rattle.std.proofs.Common.{◌≡◌, ℕ, zero, suc, ◌+◌, ◌-◌, ◌*◌, ◌/◌, ◌%◌, ◌^◌, ◌<◌, ◌⊎◌, ◌↔◌, List, [], ◌∷◌, ◌++◌, map, length, sym, refl, ap, ◌∙◌, ap₂, inl}
use Rattle.std.proofs.Common.{inr, add-zero, mod-lt, mod-eq_of_lt, add_comm, one-mul, pow-suc, mul-zero, zero-mul, div-one, add-one, one-add, arith}
use Rattle.std.proofs.Common.{length-append, pow_pos, pow-add, shr_lt}
use native.Mathlib.Nat.{pow-succ'}
use native.Mathlib.Nat.{zero-mod, mod-one, zero-div, div-div-eq-div-mul}
use lib.ListN.{length-map}
use lib.Pow.{pow-lt, split, high, low, recompose, mod-pow-add}
use lib.Bits.{bit_and, and_mask, and_high, and_zero_r, block_half, block_odd}
use lib.Count.{count_trailing_zeros, under}
use Rattle.gf2.specs.Polynomials.{◌⊕◌}
use Rattle.gf2.proofs.Sums.{⊕-zero, ⊕-left_comm, ⊕_self, ⊕_shr, ⊕-eq, ⊕_swap}
use Rattle.gf2.proofs.Products.{by_bit, bit-cases, mod_2, low-⊕}
use Rattle.gf2.proofs.Linear.{Additive, at-bit}
use Rattle.gf2.proofs.Degrees.{half_lt, half_pow}
use Rattle.gf2.proofs.Steps.{shifted_one}
use Rattle.basis.specs.Rows.{sum_of, Independent, clear}
use Rattle.basis.proofs.Sums.{sum-none, sum-map}

-- ---- clearing is linear

bit-zero : (c : ℕ) → 0 / 2 ^ c % 2 ≡ 0
bit-zero c = ap (λ (x : ℕ). x % 2) (zero-div (2 ^ c))

clear-⊕ : (c v a b : ℕ) → clear c v (a ⊕ b) ≡ clear c v a ⊕ clear c v b
unfolding clear
clear-⊕ c v a b =
    ap (λ (x : ℕ). x % 2 * v ⊕ (a ⊕ b)) (⊕_shr c a b)
    ∙ ap (λ (x : ℕ). x ⊕ (a ⊕ b)) (low-⊕ (a / 2 ^ c) (b / 2 ^ c) v)
    ∙ ⊕_swap (a / 2 ^ c % 2 * v) (b / 2 ^ c % 2 * v) a b

clearing : (c v : ℕ) → Additive (clear c v)
clearing c v = record { sum = clear-⊕ c v }

-- ---- one step

-- a row of zeros is a sum to 0 by itself
pub zero_row : (rows : List ℕ) → Independent (0 ∷ rows) → ⊥
unfolding sum_of
zero_row rows i = omega (arith, i 1 (rw pow-suc (omega (arith, pow_pos (length rows)))) (rw (sum-none rows, one-mul) (⊕-zero 0)))

pub no_rows : Independent []
no_rows h l e = omega arith

module _ (c v : ℕ) (rows : List ℕ) (one : v / 2 ^ c % 2 ≡ 1) where
  cleared_itself : clear c v v ≡ 0
  unfolding clear
  cleared_itself = rw (one, one-mul) (⊕_self v)

  there : Independent (v ∷ rows) → Independent (map (clear c v) rows)
  unfolding sum_of clear
  there i h l e = omega (arith, i (h * 2 + α) bound (rw (half, low) (sym (sum-map (clearing c v) h rows) ∙ e)))
    where
      α : ℕ
      α = sum_of h rows / 2 ^ c % 2

      half : (h * 2 + α) / 2 ≡ h
      half = omega (arith, mod_2 (sum_of h rows / 2 ^ c))

      low : (h * 2 + α) % 2 ≡ α
      low = omega (arith, mod_2 (sum_of h rows / 2 ^ c))

      bound : h * 2 + α < 2 ^ suc (length rows)
      bound = rw pow-suc (omega (arith, mod_2 (sum_of h rows / 2 ^ c), rw (length-map rows (clear c v)) at l))

  back : Independent (map (clear c v) rows) → Independent (v ∷ rows)
  unfolding sum_of
  back i h l e = go (bit-cases (h % 2) (mod_2 h))
    where
      rest : sum_of (h / 2) rows ≡ h % 2 * v
      rest = sym (⊕-eq (h % 2 * v) (sum_of (h / 2) rows) e)

      upper : h / 2 ≡ 0
      upper =
          i (h / 2) (rw (length-map rows (clear c v)) (half_lt h (length rows) l))
          (sum-map (clearing c v) (h / 2) rows ∙ ap (clear c v) rest ∙ at-bit (clearing c v) h v ∙ rw cleared_itself (mul-zero (h % 2)))

      go : (h % 2 ≡ 0) ⊎ (h % 2 ≡ 1) → h ≡ 0
      go (inl z) = omega (arith, upper)
      go (inr o) = absurd (omega (arith, one, bit-zero c, ap (λ (x : ℕ). x / 2 ^ c % 2) none))
        where
          none : v ≡ 0
          none = sym (one-mul v) ∙ rw (← o, ← rest, upper) (sum-none rows)

  pub eliminate : Independent (v ∷ rows) ↔ Independent (map (clear c v) rows)
  eliminate = (there, back)

-- ---- the last row may come first

sum-last : (h v : ℕ) (rows : List ℕ) → sum_of h (rows ++ (v ∷ [])) ≡ h / 2 ^ length rows % 2 * v ⊕ sum_of h rows
unfolding sum_of
sum-last h v [] = ap (λ (x : ℕ). x % 2 * v ⊕ 0) (sym (div-one h))
sum-last h v (r ∷ rows) =
    ap (λ (x : ℕ). h % 2 * r ⊕ x) (sum-last (h / 2) v rows ∙ ap (λ (x : ℕ). x % 2 * v ⊕ sum_of (h / 2) rows) (sym (half_pow h (length rows))))
    ∙ ⊕-left_comm (h % 2 * r) (h / 2 ^ suc (length rows) % 2 * v) (sum_of (h / 2) rows)

-- the bits past the rows choose none
sum_past : (a h : ℕ) (rows : List ℕ) → sum_of (a * 2 ^ length rows + h) rows ≡ sum_of h rows
unfolding sum_of
sum_past a h [] = refl
sum_past a h (r ∷ rows) = rw (block_odd a (length rows) h, block_half a (length rows) h) (ap (λ (x : ℕ). h % 2 * r ⊕ x) (sum_past a (h / 2) rows))

module _ (v : ℕ) (rows : List ℕ) where
  length_last : length (rows ++ (v ∷ [])) ≡ suc (length rows)
  length_last = length-append rows (v ∷ []) ∙ add-one (length rows)

  -- the choice h of all rows with v last, and the choice b * 2 + a with v first
  module _ (a b : ℕ) (bit : a < 2) (small : b < 2 ^ length rows) where
    both : sum_of (a * 2 ^ length rows + b) (rows ++ (v ∷ [])) ≡ sum_of (b * 2 + a) (v ∷ rows)
    unfolding sum_of
    both =
        sum-last (a * 2 ^ length rows + b) v rows
        ∙ ap₂ (λ (x y : ℕ). x ⊕ y)
        (ap (λ (x : ℕ). x * v) (ap (λ (x : ℕ). x % 2) (high a (length rows) small) ∙ e₁))
        (sum_past a b rows ∙ ap (λ (x : ℕ). sum_of x rows) e₂)
      where
        e₁ : a % 2 ≡ (b * 2 + a) % 2
        e₁ = omega arith

        e₂ : b ≡ (b * 2 + a) / 2
        e₂ = omega arith

  last-first : Independent (rows ++ (v ∷ [])) → Independent (v ∷ rows)
  last-first i h l e =
      let quotient = ap (λ (x : ℕ). x / 2 ^ length rows) none in
      let rest = ap (λ (x : ℕ). x % 2 ^ length rows) none in
      omega (arith, high (h % 2) (length rows) half, zero-div (2 ^ length rows), low (h % 2) (length rows) half, zero-mod (2 ^ length rows))
    where
      half : h / 2 < 2 ^ length rows
      half = half_lt h (length rows) l

      whole : h / 2 * 2 + h % 2 ≡ h
      whole = omega arith

      bound : h % 2 * 2 ^ length rows + h / 2 < 2 ^ length (rows ++ (v ∷ []))
      bound = rw (length_last, pow-suc) (by_bit (λ (c : ℕ). c * 2 ^ length rows + h / 2 < 2 ^ length rows * 2) (omega (arith, half)) (omega (arith, half)) h)

      none : h % 2 * 2 ^ length rows + h / 2 ≡ 0
      none = i (h % 2 * 2 ^ length rows + h / 2) bound (both (h % 2) (h / 2) (mod_2 h) half ∙ rw whole e)

  first-last : Independent (v ∷ rows) → Independent (rows ++ (v ∷ []))
  first-last i h l e = sym (split h (length rows)) ∙ rw (a-is, b-is, zero-mul)
    where
      top : h / 2 ^ length rows < 2
      top = shr_lt 1 (length rows) (rw (one-add, ← length_last) l)

      none : h % 2 ^ length rows * 2 + h / 2 ^ length rows ≡ 0
      none =
          i (h % 2 ^ length rows * 2 + h / 2 ^ length rows) (rw pow-suc (omega (arith, top, mod-lt h (pow_pos (length rows)))))
          (sym (both (h / 2 ^ length rows) (h % 2 ^ length rows) top (mod-lt h (pow_pos (length rows)))) ∙ rw split e)

      a-is : h / 2 ^ length rows ≡ 0
      a-is = omega (arith, none)

      b-is : h % 2 ^ length rows ≡ 0
      b-is = omega (arith, none)

  pub rotate : Independent (rows ++ (v ∷ [])) ↔ Independent (v ∷ rows)
  rotate = (last-first, first-last)

-- ---- the step in code: a mask of ones where a bit is 1

pub masked : (v x mask : ℕ) → v < 2 ^ 64 → mask < 2 ^ 64 → (mask + bit_and x 1) % 2 ^ 64 ≡ 0 → bit_and v mask ≡ x % 2 * v
masked v x mask lv lm e = go (bit-cases (x % 2) (mod_2 x))
  where
    bit : bit_and x 1 ≡ x % 2
    bit = and_mask x 1

    go : (x % 2 ≡ 0) ⊎ (x % 2 ≡ 1) → bit_and v mask ≡ x % 2 * v
    go (inl z) =
        let m : mask ≡ 0 = omega (arith, bit, mod-eq_of_lt lm) in
        rw (z, m, zero-mul) (and_zero_r v)
    go (inr o) =
        let m : mask ≡ 2 ^ 64 - 1 = omega (arith, bit, e) in
        rw (o, m, one-mul) (and_mask v 64 ∙ mod-eq_of_lt lv)

-- by the bit in column c of x: where v has no 1 below column c, that bit taken from 0 will do
pub masked-from : (c v x mask : ℕ) → c < 64 → v < 2 ^ 64 → v % 2 ^ c ≡ 0 → mask < 2 ^ 64 → (mask + bit_and x (1 * 2 ^ c % 2 ^ 64)) % 2 ^ 64 ≡ 0
    → bit_and v mask ≡ x / 2 ^ c % 2 * v
masked-from c v x mask lc lv z lm e = go (bit-cases (x / 2 ^ c % 2) (mod_2 (x / 2 ^ c)))
  where
    twice : 2 ^ (1 + c) - 2 ^ c ≡ 2 ^ c
    twice = rw (add_comm 1 c, pow-add) (omega arith)

    bit : bit_and x (1 * 2 ^ c % 2 ^ 64) ≡ x / 2 ^ c % 2 * 2 ^ c
    bit = ap (bit_and x) (shifted_one c lc ∙ sym twice) ∙ and_high x 1 c

    whole : 64 - c + c ≡ 64
    whole = omega arith

    exact : v / 2 ^ c % 2 ^ (64 - c) * 2 ^ c ≡ v
    exact = sym (add-zero (v / 2 ^ c % 2 ^ (64 - c) * 2 ^ c)) ∙ rw (← z) (recompose (64 - c) c (rw whole lv))

    go : (x / 2 ^ c % 2 ≡ 0) ⊎ (x / 2 ^ c % 2 ≡ 1) → bit_and v mask ≡ x / 2 ^ c % 2 * v
    go (inl o) =
        let m : mask ≡ 0 = sym (mod-eq_of_lt lm) ∙ rw (bit, o, zero-mul, add-zero) at e in
        rw (o, m, zero-mul) (and_zero_r v)
    go (inr o) =
        let m : mask ≡ 2 ^ (64 - c + c) - 2 ^ c = rw whole (omega (arith, pow-lt {i = c} lc, pow_pos c, rw (bit, o, one-mul) at e)) in
        rw (o, m, one-mul) (and_high v (64 - c) c ∙ exact)

-- ---- the lowest one of a row

pub lowest-one : (k n : ℕ) → 0 < n → n < 2 ^ k
    → (count_trailing_zeros k n < k) × (n % 2 ^ count_trailing_zeros k n ≡ 0) × (n / 2 ^ count_trailing_zeros k n % 2 ≡ 1)
unfolding count_trailing_zeros
lowest-one zero n p l = absurd (omega arith)
lowest-one (suc k) n p l = go (bit-cases (n % 2) (mod_2 n)) (λ q. lowest-one k (n / 2) q (half_lt n k l))
  where
    more : (t : ℕ) → n / 2 % 2 ^ t ≡ 0 → n % 2 ≡ 0 → n % 2 ^ suc t ≡ 0
    more t e z = ap (λ (m : ℕ). n % 2 ^ m) (sym (add-one t)) ∙ mod-pow-add n t 1 ∙ rw (e, z)

    go : (n % 2 ≡ 0) ⊎ (n % 2 ≡ 1)
        → (0 < n / 2 → (count_trailing_zeros k (n / 2) < k) × (n / 2 % 2 ^ count_trailing_zeros k (n / 2) ≡ 0) ×
        (n / 2 / 2 ^ count_trailing_zeros k (n / 2) % 2 ≡ 1))
        → (under (n % 2) (count_trailing_zeros k (n / 2)) < suc k)
        × (n % 2 ^ under (n % 2) (count_trailing_zeros k (n / 2)) ≡ 0)
        × (n / 2 ^ under (n % 2) (count_trailing_zeros k (n / 2)) % 2 ≡ 1)
    go (inl z) rest =
        let r = rest (omega arith) in
        rw z (omega (arith, r.0), more (count_trailing_zeros k (n / 2)) r.1 z, rw (pow-succ', ← div-div-eq-div-mul) r.2)
    go (inr o) rest = rw o (omega arith, mod-one n, ap (λ (x : ℕ). x % 2) (div-one n) ∙ o)
