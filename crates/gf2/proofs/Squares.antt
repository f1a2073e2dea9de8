-- Squares: every coefficient moves to twice its place. The code moves them by masks and shifts, all at a time.
use mathlib.Core.Path.{◌≡◌, sym, ap, ap₂, ◌∙◌}
use Prim.Native.Nat.{ℕ, ◌+◌, ◌*◌, ◌^◌, ◌<◌}
use native.Mathlib.Nat.{mul_assoc}
use lib.Bits.{bit_and}
use lib.Pow.{pow-add}
use Rattle.gf2.specs.Polynomials.{◌⊕◌, ◌⊗◌, long_product}
use Rattle.gf2.proofs.Sums.{⊕_shl, ⊕-append}
use Rattle.gf2.proofs.Products.{⊗_comm, ⊗_shl, square-⊕}
use Rattle.gf2.proofs.Linear.{Additive, same, after, both, masked, squared, equal}

-- ---- the masks of the code

-- each group of bits parted in two, the upper one moved up by s places
abbrev pub parted : ℕ → ℕ → ℕ → ℕ
parted s m x = bit_and (x ⊕ x * 2 ^ s) m

parted-additive : (s m : ℕ) → Additive (parted s m)
parted-additive s m = after (masked m) (both same (record { sum = ⊕_shl s }))

abbrev pub spread : ℕ → ℕ
spread x =
    parted 1 0x5555555555555555 (parted 2 0x3333333333333333 (parted 4 0xF0F0F0F0F0F0F0F (parted 8 0xFF00FF00FF00FF (parted 16 0xFFFF0000FFFF x))))

pub spread-square : (x : ℕ) → x < 2 ^ 32 → spread x ≡ x ⊗ x
unfolding ◌⊕◌ ◌⊗◌ long_product
spread-square =
    equal
    (after (parted-additive 1 0x5555555555555555)
    (after (parted-additive 2 0x3333333333333333)
    (after (parted-additive 4 0xF0F0F0F0F0F0F0F) (after (parted-additive 8 0xFF00FF00FF00FF) (parted-additive 16 0xFFFF0000FFFF)))))
    squared
    32
    tt

-- ---- a square by halves

pub square-append : (a w b : ℕ) → b < 2 ^ w → (a * 2 ^ w + b) ⊗ (a * 2 ^ w + b) ≡ a ⊗ a * 2 ^ (w + w) ⊕ b ⊗ b
square-append a w b h =
    ap₂ (λ (x y : ℕ). x ⊗ y) (sym (⊕-append a w b h)) (sym (⊕-append a w b h))
    ∙ square-⊕ (a * 2 ^ w) b
    ∙ ap (λ (x : ℕ). x ⊕ b ⊗ b) shifted
  where
    shifted : (a * 2 ^ w) ⊗ (a * 2 ^ w) ≡ a ⊗ a * 2 ^ (w + w)
    shifted =
        ⊗_shl w (a * 2 ^ w) a
        ∙ ap (λ (x : ℕ). x * 2 ^ w) (⊗_comm (a * 2 ^ w) a ∙ ⊗_shl w a a)
        ∙ mul_assoc (a ⊗ a) (2 ^ w) (2 ^ w)
        ∙ ap (λ (x : ℕ). a ⊗ a * x) (sym (pow-add 2 w w))
