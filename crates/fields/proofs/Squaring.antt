-- Squaring polynomials over GF(2) j times, x to the power 2^j: linear, and through every polynomial. If modulo f it gives t back
-- after k times, it gives every residue back.
use mathlib.Core.Path.{◌≡◌, refl, sym, ap, ap₂, ◌∙◌}
use mathlib.Core.Logic.{⊎_elim}
use Prim.Native.Nat.{ℕ, zero, suc, ◌+◌, ◌-◌, ◌^◌, ◌<◌}
use native.Mathlib.Nat.{zero-add, suc-add}
use native.Mathlib.Omega.{arith}
use Rattle.gf2.specs.Polynomials.{◌⊕◌, ◌⊗◌, degree, Divides, rem, Irreducible}
use Rattle.gf2.proofs.Sums.{⊕_comm}
use Rattle.gf2.proofs.Products.{square-⊕}
use Rattle.gf2.proofs.Divisors.{dvd_by, dvd-⊗}
use Rattle.gf2.proofs.Residues.{rem-⊗, rem-small}
use Rattle.gf2.proofs.Irreducibles.{euclid_lemma}
use Rattle.fields.specs.Fields.{compose}
use Rattle.fields.proofs.Values.{compose_id, compose-⊗, compose-square, compose_cong}

unfoldable pub power : ℕ → ℕ → ℕ
power zero x = x
power (suc j) x = power j x ⊗ power j x

pub power_zero : (x : ℕ) → power 0 x ≡ x
unfolding power
power_zero x = refl

pub power-suc : (j x : ℕ) → power (suc j) x ≡ power j x ⊗ power j x
unfolding power
power-suc j x = refl

pub power-⊕ : (j x y : ℕ) → power j (x ⊕ y) ≡ power j x ⊕ power j y
unfolding power
power-⊕ zero x y = refl
power-⊕ (suc j) x y = ap (λ (z : ℕ). z ⊗ z) (power-⊕ j x y) ∙ square-⊕ (power j x) (power j y)

pub power-power : (i j x : ℕ) → power i (power j x) ≡ power (i + j) x
unfolding power
power-power zero j x = rw zero-add refl
power-power (suc i) j x = rw suc-add (ap (λ (z : ℕ). z ⊗ z) (power-power i j x))

pub compose-power : (p j e : ℕ) → compose p (power j e) ≡ power j (compose p e)
unfolding power
compose-power p zero e = refl
compose-power p (suc j) e = compose-square p (power j e) ∙ ap (λ (z : ℕ). z ⊗ z) (compose-power p j e)

pub power-compose : (p j e : ℕ) → compose (power j p) e ≡ power j (compose p e)
unfolding power
power-compose p zero e = refl
power-compose p (suc j) e = compose-⊗ (power j p) (power j p) e ∙ ap (λ (z : ℕ). z ⊗ z) (power-compose p j e)

-- ---- modulo f

pub dvd-power : (f j x : ℕ) → Divides f x → Divides f (power j x)
unfolding power
dvd-power f zero x h = h
dvd-power f (suc j) x h = dvd-⊗ (power j x) (dvd-power f j x h)

dvd_of_power : (f j x : ℕ) → Irreducible f → Divides f (power j x) → Divides f x
unfolding power
dvd_of_power f zero x i h = h
dvd_of_power f (suc j) x i h = dvd_of_power f j x i (⊎_elim (λ l. l) (λ r. r) (euclid_lemma f (power j x) (power j x) i h))

pub power_cong : (f j a b : ℕ) → Divides f (a ⊕ b) → Divides f (power j a ⊕ power j b)
power_cong f j a b h = dvd_by (dvd-power f j (a ⊕ b) h) (power-⊕ j a b)

power-cancel : (f j a b : ℕ) → Irreducible f → Divides f (power j a ⊕ power j b) → Divides f (a ⊕ b)
power-cancel f j a b i h = dvd_of_power f j (a ⊕ b) i (dvd_by h (sym (power-⊕ j a b)))

-- where squaring i times and j times gives the same, squaring j - i times gives x back
pub same_power : (f i j x : ℕ) → Irreducible f → i < j → Divides f (power i x ⊕ power j x) → Divides f (power (j - i) x ⊕ x)
same_power f i j x irr l h =
    dvd_by (power-cancel f i x (power (j - i) x) irr (dvd_by h (ap (λ (y : ℕ). power i x ⊕ y) (sym back)))) (⊕_comm x (power (j - i) x))
  where
    back : power i (power (j - i) x) ≡ power j x
    back = power-power i (j - i) x ∙ ap (λ (n : ℕ). power n x) (omega arith)

-- t, squared k times, is t: so is every polynomial, since it is its own value at t
pub all_fixed : (f k x : ℕ) → Divides f (power k 2 ⊕ 2) → Divides f (power k x ⊕ x)
all_fixed f k x h =
    dvd_by (compose_cong f x (power k 2) 2 h)
    (ap₂ (λ (a b : ℕ). a ⊕ b) (compose-power x k 2 ∙ ap (power k) (compose_id x)) (compose_id x))

-- ---- the same among residues: each square reduced

unfoldable pub squares : ℕ → ℕ → ℕ → ℕ
squares f zero x = x
squares f (suc j) x = rem f (squares f j x ⊗ squares f j x)

module _ {f : ℕ} (pos : 0 < f) where
  pub squares-power : (j x : ℕ) → x < 2 ^ degree f → squares f j x ≡ rem f (power j x)
  unfolding squares power
  squares-power zero x h = sym (rem-small pos x h)
  squares-power (suc j) x h = ap (λ (z : ℕ). rem f (z ⊗ z)) (squares-power j x h) ∙ sym (rem-⊗ pos (power j x) (power j x))
