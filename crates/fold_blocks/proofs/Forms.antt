-- A polynomial divides its form at t^w, for every w that is a power of two: the form is squared by doubling w.
use mathlib.Core.Path.{◌≡◌, sym, ap, ap₂, ◌∙◌}
use mathlib.Core.List.{List, [], ◌∷◌}
use Prim.Native.Nat.{ℕ, zero, suc, ◌+◌, ◌*◌, ◌^◌, ◌<◌}
use native.Mathlib.Nat.{mul_assoc, pow-suc}
use native.Mathlib.Omega.{arith}
use lib.Pow.{pow-add}
use Rattle.gf2.specs.Polynomials.{◌⊕◌, ◌⊗◌, rem, Divides}
use Rattle.gf2.proofs.Sums.{xor}
use Rattle.gf2.proofs.Products.{zero-⊗, ⊗-pow, ⊗-⊕, square-⊕}
use Rattle.gf2.proofs.Divisors.{dvd_by, dvd_refl, dvd-⊗}
use Rattle.gf2.proofs.Residues.{rem_cong}
use Rattle.fold_blocks.specs.Folds.{form}

pow-square : (a b : ℕ) → b ≡ a + a → 2 ^ a ⊗ 2 ^ a ≡ 2 ^ b
pow-square a b e = ⊗-pow a (2 ^ a) ∙ sym (pow-add 2 a a) ∙ ap (λ (x : ℕ). 2 ^ x) (sym e)

doubled : (e w : ℕ) → e * (w * 2) ≡ e * w + e * w
doubled e w = omega (arith, mul_assoc e w 2)

form-square : (es : List ℕ) (w : ℕ) → form es w ⊗ form es w ≡ form es (w * 2)
unfolding form
form-square [] w = zero-⊗ 0
form-square (e ∷ es) w =
    square-⊕ (2 ^ (e * w)) (form es w) ∙ ap₂ (λ (x y : ℕ). x ⊕ y) (pow-square (e * w) (e * (w * 2)) (doubled e w)) (form-square es w)

form-dvd : (es : List ℕ) (n : ℕ) → Divides (form es 1) (form es (2 ^ n))
form-dvd es zero = dvd_refl (form es 1)
form-dvd es (suc n) = dvd_by (dvd-⊗ (form es (2 ^ n)) (form-dvd es n)) (form-square es (2 ^ n) ∙ ap (form es) (sym (pow-suc 2 n)))

-- x at the first place and at the others
pub spread : (e : ℕ) (es : List ℕ) (w x : ℕ) → x ⊗ form (e ∷ es) w ≡ x * 2 ^ (e * w) ⊕ x ⊗ form es w
unfolding form
spread e es w x = ⊗-⊕ x (2 ^ (e * w)) (form es w) ∙ ap (λ (y : ℕ). y ⊕ x ⊗ form es w) (⊗-pow (e * w) x)

-- a multiple of the form may be left out
pub rem-spread : (es : List ℕ) → 0 < form es 1 → (n x y : ℕ) → rem (form es 1) (x ⊗ form es (2 ^ n) ⊕ y) ≡ rem (form es 1) y
rem-spread es pos n x y = rem_cong pos (x ⊗ form es (2 ^ n) ⊕ y) y (dvd_by (dvd-⊗ x (form-dvd es n)) (simp xor))
