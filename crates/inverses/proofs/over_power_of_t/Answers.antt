-- The inverse of the power's residue is the power's.
use mathlib.Core.Path.{◌≡◌, ap, ◌∙◌}
use mathlib.Core.Logic.{⊎_elim}
use Prim.Native.Nat.{ℕ, ◌^◌, ◌≤◌, ◌<◌}
use native.Mathlib.Nat.{eq-zero-or-pos, lt_of_lt_of_le, le_of_eq}
use lib.Pow.{pow_mono}
use Rattle.gf2.specs.Polynomials.{◌⊗◌, degree, rem, Divides, Irreducible}
use Rattle.gf2.specs.Moduli.{polynomial, Proper}
use Rattle.gf2.specs.declared.Modulus.{Modulus}
use Rattle.gf2.specs.Inverses.{inverse}
use Rattle.gf2.proofs.Residues.{dvd_of_rem-zero}
use Rattle.gf2.proofs.Monics.{monic-pos, monic-degree}
use Rattle.gf2.proofs.Steps.{residue-lt}
use Rattle.gf2.proofs.Inverses.{inverse-residue, inverse-lt, power-not}
use Rattle.inverses.proofs.over_power_of_t.Goals as goal

module _ (p : Modulus) (h : Proper p) (two : 2 ≤ p.degree) (irr : Irreducible (polynomial p)) (n : ℕ) where
  same-degree : degree (polynomial p) ≡ p.degree
  same-degree = monic-degree p.degree p.low h.2

  no_divisor : Divides (polynomial p) (2 ^ n) → ⊥
  no_divisor = power-not (polynomial p) irr (rw same-degree two) n

  power_pos : 0 < rem (polynomial p) (2 ^ n)
  power_pos =
      ⊎_elim (λ e. absurd (no_divisor (dvd_of_rem-zero (monic-pos p.degree p.low h.2) (2 ^ n) e))) (λ l. l) (eq-zero-or-pos (rem (polynomial p) (2 ^ n)))

  below : inverse (polynomial p) (2 ^ n) < 2 ^ p.degree
  below = lt_of_lt_of_le (inverse-lt (polynomial p) irr (2 ^ n) no_divisor) (pow_mono (le_of_eq same-degree))

  -- x is the inverse of the power's residue y
  inverted : (x y : ℕ) → x ≡ inverse (polynomial p) y → y ≡ rem (polynomial p) (2 ^ n) → x ≡ inverse (polynomial p) (2 ^ n)
  inverted x y ex ey = ex ∙ ap (inverse (polynomial p)) ey ∙ inverse-residue (polynomial p) irr (2 ^ n) no_divisor

pub inverse-inverted-requires : goal.inverse-inverted-requires
inverse-inverted-requires c =
    let p = c.args.p in
    let h = c.requires in
    let e = c.power_of_t-power.ensures in
    (h.0, h.1, h.2, rw e (power_pos p h.0 h.1 h.2 c.args.n), rw e (residue-lt p.degree p.low h.0.2 (2 ^ c.args.n)))

pub product-requires : goal.product-requires
product-requires c =
    let p = c.args.p in
    let h = c.requires in
    let e = inverted p h.0 h.1 h.2 c.args.n c.inverse-inverted.result c.power_of_t-power.result c.inverse-inverted.ensures c.power_of_t-power.ensures in
    (h.0, h.3, rw e (below p h.0 h.1 h.2 c.args.n))

pub returns : goal.returns
returns c =
    let p = c.args.p in
    let h = c.requires in
    let e = inverted p h.0 h.1 h.2 c.args.n c.inverse-inverted.result c.power_of_t-power.result c.inverse-inverted.ensures c.power_of_t-power.ensures in
    c.product.ensures ∙ ap (λ (x : ℕ). rem (polynomial p) (c.args.f ⊗ x)) e
