-- Laws of divisibility.
use mathlib.Core.Path.{◌≡◌, refl, sym, ◌∙◌}
use Prim.Native.Nat.{ℕ, ◌+◌, ◌<◌, ◌^◌}
use native.Mathlib.Nat.{eq-zero-or-pos, le-add_left, not-le_of_lt, le_trans}
use mathlib.Core.Logic.{◌⊎◌, inl, inr}
use lib.Pow.{pow_mono}
use Rattle.gf2.specs.Polynomials.{◌⊕◌, ◌⊗◌, degree, Divides}
use Rattle.gf2.specs.Degrees.{Degree}
use Rattle.gf2.proofs.Products.{zero-⊗, one-⊗, ⊕-⊗, ⊗_assoc}
use Rattle.gf2.proofs.Degrees.{deg-⊗, deg-lo, degree-is}

-- the same, of an equal polynomial
pub dvd_by : {p a b : ℕ} → Divides p a → a ≡ b → Divides p b
dvd_by h e = record { quotient = h.quotient; product = h.product ∙ e }

pub dvd-left : (q p : ℕ) → Divides p (q ⊗ p)
dvd-left q p = record { quotient = q; product = refl }

pub dvd_refl : (p : ℕ) → Divides p p
dvd_refl p = dvd_by (dvd-left 1 p) (one-⊗ p)

pub dvd-zero : (p : ℕ) → Divides p 0
dvd-zero p = dvd_by (dvd-left 0 p) (zero-⊗ p)

pub dvd-⊕ : {p a b : ℕ} → Divides p a → Divides p b → Divides p (a ⊕ b)
dvd-⊕ {p} h k = dvd_by (dvd-left (h.quotient ⊕ k.quotient) p) (rw (⊕-⊗, h.product, k.product))

pub dvd-⊗ : {p a : ℕ} (c : ℕ) → Divides p a → Divides p (c ⊗ a)
dvd-⊗ {p} c h = dvd_by (dvd-left (c ⊗ h.quotient) p) (rw (⊗_assoc, h.product))

pub dvd_trans : {p a b : ℕ} → Divides p a → Divides a b → Divides p b
dvd_trans h k = dvd_by (dvd-⊗ k.quotient h) k.product

-- a multiple of lower degree is zero
pub dvd-small : (d : ℕ) {p a : ℕ} → Degree p d → Divides p a → a < 2 ^ d → a ≡ 0
dvd-small d {p} {a} hp h l = go (eq-zero-or-pos q)
  where
    q : ℕ
    q = h.quotient

    go : (q ≡ 0) ⊎ (0 < q) → a ≡ 0
    go (inl e) = sym h.product ∙ rw e (zero-⊗ p)
    go (inr pos) =
        absurd (not-le_of_lt l
        (le_trans (pow_mono (le-add_left d (degree q)))
        (rw h.product at (deg-lo (q ⊗ p) (degree q + d) (deg-⊗ q p (degree q) d (degree-is q pos) hp)))))
