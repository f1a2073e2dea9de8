-- Additive functions: two that agree at the powers of t below t^n agree at every polynomial of degree less than n. So of a function that
-- is made of masks, shifts and sums the check computes no more than its values at the powers.
use mathlib.Core.Path.{◌≡◌, refl, sym, ap, ap₂, ◌∙◌}
use mathlib.Core.Bool.{Bool, true, ◌&&◌}
use mathlib.Core.Logic.{◌⊎◌, inl, inr}
use Prim.Native.Nat.{ℕ, zero, suc, ◌*◌, ◌/◌, ◌%◌, ◌^◌, ◌<◌}
use native.Mathlib.Nat.{zero-mul, one-mul, mod-lt, mod-mod}
use native.Mathlib.Numerals.{one-add}
use native.Mathlib.Omega.{arith}
use lib.Arith.{bin_ind, lt-one}
use lib.Bits.{bit_and, and_shr, and_mod, and_mask, and_zero_r}
use lib.Dec.{T, eqb, eqb→eq}
use lib.Pow.{pow_pos, split, shr_lt}
use Rattle.gf2.specs.Polynomials.{◌⊕◌, ◌⊗◌}
use Rattle.gf2.proofs.Sums.{⊕_shr, ⊕-half, ⊕-low, ⊕_self, ⊕_swap, ⊕-append, bits-eq}
use Rattle.gf2.proofs.Products.{bit-cases, mod_2, by_bit, square-⊕}
use Rattle.lists.proofs.Truth.{and_left, and_right}

pub record Additive (f : ℕ → ℕ) : Type 0 where
  pub sum : (a b : ℕ) → f (a ⊕ b) ≡ f a ⊕ f b

pub at_zero : {f : ℕ → ℕ} → Additive f → f 0 ≡ 0
at_zero {f} h = ap f (sym (⊕_self 0)) ∙ h.sum 0 0 ∙ ⊕_self (f 0)

pub at-bit : {f : ℕ → ℕ} → Additive f → (x y : ℕ) → f (x % 2 * y) ≡ x % 2 * f y
at-bit {f} h x y = by_bit (λ (b : ℕ). f (b * y) ≡ b * f y) (rw (zero-mul, zero-mul) (at_zero h)) (rw (one-mul, one-mul)) x

-- ---- of what they are made

pub same : Additive (λ x. x)
same = record { sum = λ a b. refl }

pub none : Additive (λ x. 0)
none = record { sum = λ a b. sym (⊕_self 0) }

pub after : {f g : ℕ → ℕ} → Additive f → Additive g → Additive (λ x. f (g x))
after {f} {g} h i = record { sum = λ a b. ap f (i.sum a b) ∙ h.sum (g a) (g b) }

pub both : {f g : ℕ → ℕ} → Additive f → Additive g → Additive (λ x. f x ⊕ g x)
both {f} {g} h i = record { sum = λ a b. ap₂ (λ (x y : ℕ). x ⊕ y) (h.sum a b) (i.sum a b) ∙ ⊕_swap (f a) (f b) (g a) (g b) }

pub shifted : (k : ℕ) → Additive (λ x. x / 2 ^ k)
shifted k = record { sum = ⊕_shr k }

pub squared : Additive (λ x. x ⊗ x)
squared = record { sum = square-⊕ }

and-half : (a m : ℕ) → bit_and a m / 2 ≡ bit_and (a / 2) (m / 2)
and-half a m = and_shr a m 1

and-even : (a m : ℕ) → m % 2 ≡ 0 → bit_and a m % 2 ≡ 0
and-even a m z = and_mod a m 1 ∙ rw z (and_zero_r (a % 2))

and-odd : (a m : ℕ) → m % 2 ≡ 1 → bit_and a m % 2 ≡ a % 2
and-odd a m o = and_mod a m 1 ∙ rw o (and_mask (a % 2) 1 ∙ mod-mod a 2)

and-⊕ : (m a b : ℕ) → bit_and (a ⊕ b) m ≡ bit_and a m ⊕ bit_and b m
and-⊕ =
    bin_ind (λ (m : ℕ). (a b : ℕ) → bit_and (a ⊕ b) m ≡ bit_and a m ⊕ bit_and b m) (λ a b. simp (and_zero_r, ⊕_self))
    (λ m ih a b. bits-eq (simp (and-half, ⊕-half) (ih (a / 2) (b / 2))) (low m a b (bit-cases (m % 2) (mod_2 m))))
  where
    low : (m a b : ℕ) → (m % 2 ≡ 0) ⊎ (m % 2 ≡ 1) → bit_and (a ⊕ b) m % 2 ≡ (bit_and a m ⊕ bit_and b m) % 2
    low m a b (inl z) = omega (arith, ⊕-low (bit_and a m) (bit_and b m), and-even a m z, and-even b m z, and-even (a ⊕ b) m z)
    low m a b (inr o) = omega (arith, ⊕-low (bit_and a m) (bit_and b m), ⊕-low a b, and-odd a m o, and-odd b m o, and-odd (a ⊕ b) m o)

pub masked : (m : ℕ) → Additive (λ x. bit_and x m)
masked m = record { sum = and-⊕ m }

-- ---- two that agree

abbrev pub agree : (ℕ → ℕ) → (ℕ → ℕ) → ℕ → Bool
agree f g zero = true
agree f g (suc n) = eqb (f (2 ^ n)) (g (2 ^ n)) && agree f g n

pub equal : {f g : ℕ → ℕ} → Additive f → Additive g → (n : ℕ) → T (agree f g n) → (x : ℕ) → x < 2 ^ n → f x ≡ g x
equal {f} {g} h i zero t x l = ap f (lt-one l) ∙ at_zero h ∙ sym (at_zero i) ∙ ap g (sym (lt-one l))
equal {f} {g} h i (suc n) t x l =
    by_parts f h
    ∙ ap₂ (λ (x y : ℕ). x ⊕ y) (top (bit-cases (x / 2 ^ n) small))
    (equal h i n (and_right (eqb (f (2 ^ n)) (g (2 ^ n))) (agree f g n) t) (x % 2 ^ n) (mod-lt x (pow_pos n)))
    ∙ sym (by_parts g i)
  where
    small : x / 2 ^ n < 2
    small = shr_lt 1 n (rw one-add l)

    by_parts : (f : ℕ → ℕ) → Additive f → f x ≡ f (x / 2 ^ n * 2 ^ n) ⊕ f (x % 2 ^ n)
    by_parts f h = ap f (sym (⊕-append (x / 2 ^ n) n (x % 2 ^ n) (mod-lt x (pow_pos n)) ∙ split x n)) ∙ h.sum (x / 2 ^ n * 2 ^ n) (x % 2 ^ n)

    top : (x / 2 ^ n ≡ 0) ⊎ (x / 2 ^ n ≡ 1) → f (x / 2 ^ n * 2 ^ n) ≡ g (x / 2 ^ n * 2 ^ n)
    top (inl z) = rw (z, zero-mul) (at_zero h ∙ sym (at_zero i))
    top (inr o) = rw (o, one-mul) (eqb→eq (f (2 ^ n)) (g (2 ^ n)) (and_left (eqb (f (2 ^ n)) (g (2 ^ n))) (agree f g n) t))
