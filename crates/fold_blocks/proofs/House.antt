-- The house key's form, and the words that the code folds by.
use mathlib.Core.Path.{◌≡◌, refl, ap}
use mathlib.Core.List.{List}
use mathlib.Core.Logic.{inl, inr}
use Prim.Native.Nat.{ℕ, ◌+◌, ◌*◌, ◌^◌, ◌≤◌, ◌<◌}
use native.Mathlib.Omega.{arith}
use lib.ListN.{length, drop}
use Rattle.gf2.specs.Polynomials.{◌⊕◌, rem}
use Rattle.house.specs.House.{house_key}
use Rattle.fold_blocks.specs.Folds.{form, low_exponents, exponents, folded, Word}
use Rattle.fold_blocks.proofs.Folding.{Lower, folded-last}

house-form : form exponents 1 ≡ house_key
unfolding form ◌⊕◌
house-form = refl

pub house-pos : 0 < house_key
house-pos = omega arith

pub low-exponents : Lower 61 low_exponents
unfolding Lower
low-exponents = (omega arith, (omega arith, (omega arith, (omega arith, tt))))

pub all-exponents : Lower 62 exponents
unfolding Lower
all-exponents = (omega arith, (omega arith, (omega arith, (omega arith, (omega arith, tt)))))

-- ---- words

exponent : {s : ℕ} → Word s → ℕ
exponent (inl e) = 5
exponent (inr e) = 7

word_size : {s : ℕ} (w : Word s) → 8 * s ≡ 2 ^ exponent w
unfolding exponent
word_size (inl e) = ap (λ (x : ℕ). 8 * x) e
word_size (inr e) = ap (λ (x : ℕ). 8 * x) e

pub word_most : {s : ℕ} → Word s → s ≤ 16
word_most (inl e) = omega arith
word_most (inr e) = omega arith

-- only the last 61 words matter
pub house-last : (s : ℕ) → Word s → (q : List ℕ) (n : ℕ) → n + 61 * s ≤ length q
    → rem house_key (folded exponents s q n) ≡ rem house_key (folded exponents s (drop n q) 0)
house-last s w q n h =
    rw house-form at (folded-last 61 s q n h exponents all-exponents (rw house-form house-pos) (exponent w) (word_size w))
