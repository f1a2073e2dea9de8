-- The conjugates of a residue modulo f: e, e^2, e^4, .. up to e^(2^(k-1)). If k is prime and e is not 0 or 1, no two are equal:
-- the least period of squaring divides k.
use mathlib.Core.Path.{◌≡◌, sym, ap, ◌∙◌}
use Prim.Native.Nat.{ℕ, zero, suc, ◌+◌, ◌*◌, ◌-◌, ◌/◌, ◌%◌, ◌^◌, ◌≤◌, ◌<◌}
use native.Mathlib.Nat.{le_refl, suc-mul, zero-mul, mod-lt, mod-add-div'}
use native.Mathlib.Decide.{ℕ_discrete}
use native.Mathlib.Omega.{arith}
use lib.Pow.{pow_mono}
use Rattle.gf2.specs.Polynomials.{◌⊕◌, ◌⊗◌, degree, Divides, rem}
use Rattle.gf2.proofs.Sums.{⊕_self, xor}
use Rattle.gf2.proofs.Degrees.{degree-eq}
use Rattle.gf2.proofs.Divisors.{dvd_by, dvd-zero, dvd-⊕}
use Rattle.gf2.proofs.Residues.{rem_cong, rem-small}
use Rattle.gf2.proofs.Criterion.{irreducible_rigid}
use Rattle.fields.proofs.Squaring.{power, power_zero, power-suc, power-power, power_cong, same_power}
use Rattle.fields.proofs.Fermat.{fermat-all}
use Rattle.fields.specs.Primes.{Field}

-- the modulus of a field is not 0 and has its degree, which is at least 2
module _ (f k : ℕ) (h : Field f k) where
  pub field-pos : 0 < f
  field-pos = omega (arith, h.irreducible.proper)

  pub field-degree : degree f ≡ k
  field-degree = degree-eq f k h.of_degree

  pub field-four : 4 ≤ 2 ^ k
  field-four = pow_mono {i = 2} {j = k} h.prime.proper

-- squaring j times gives e back
abbrev Period : ℕ → ℕ → ℕ → Type 0
Period f e j = Divides f (power j e ⊕ e)

drop-middle : (a b c : ℕ) → (a ⊕ b) ⊕ (b ⊕ c) ≡ a ⊕ c
drop-middle a b c = simp xor

period-zero : (f e : ℕ) → Period f e 0
period-zero f e = dvd_by (dvd-zero f) (sym (ap (λ (x : ℕ). x ⊕ e) (power_zero e) ∙ ⊕_self e))

period-add : (f e i j : ℕ) → Period f e i → Period f e j → Period f e (i + j)
period-add f e i j h l =
    dvd_by (dvd-⊕ (power_cong f i (power j e) e l) h) (drop-middle (power i (power j e)) (power i e) e ∙ ap (λ (x : ℕ). x ⊕ e) (power-power i j e))

period-mul : (f e n d : ℕ) → Period f e d → Period f e (n * d)
period-mul f e zero d h = rw zero-mul (period-zero f e)
period-mul f e (suc n) d h = rw suc-mul (period-add f e (n * d) d (period-mul f e n d h) h)

-- what is left when a period is taken away
period-rest : (f e i j : ℕ) → Period f e (i + j) → Period f e j → Period f e i
period-rest f e i j h l =
    dvd_by (dvd-⊕ (power_cong f i e (power j e) (dvd_by l (simp xor))) h)
    (ap (λ (x : ℕ). (power i e ⊕ x) ⊕ (power (i + j) e ⊕ e)) (power-power i j e) ∙ drop-middle (power i e) (power (i + j) e) e)

module _ (f k e : ℕ) (h : Field f k) where
  whole : Period f e k
  whole = fermat-all f k h.irreducible h.of_degree e

  remainder : (d : ℕ) → Period f e d → Period f e (k % d)
  remainder d p = period-rest f e (k % d) (k / d * d) (rw (mod-add-div' k d) whole) (period-mul f e (k / d) d p)

  -- a period below k leads to a smaller one, as k is no multiple of it
  descend : (n d : ℕ) → d ≤ n → 0 < d → d < k → Period f e d → Period f e 1
  descend zero d l pos s p = absurd (omega arith)
  descend (suc n) d l pos s p = go (ℕ_discrete d 1) (λ ge. descend n (k % d) (less ge) (above ge) (lower ge) (remainder d p))
    where
      rest_lt : k % d < d
      rest_lt = mod-lt k pos

      less : 1 < d → k % d ≤ n
      less ge = omega (arith, rest_lt)

      above : 1 < d → 0 < k % d
      above ge = omega (arith, h.prime.no_divisor d ge s)

      lower : 1 < d → k % d < k
      lower ge = omega (arith, rest_lt)

      go : Dec (d ≡ 1) → (1 < d → Period f e 1) → Period f e 1
      go (yes o) rest = rw o at p
      go (no ne) rest = rest (omega arith)

  module _ (low : 1 < e) (high : e < 2 ^ k) where
    no_period : (d : ℕ) → 0 < d → d < k → Period f e d → ⊥
    no_period d pos s p = (irreducible_rigid f h.irreducible).no_idempotent e low residue fixed_by_squaring
      where
        pos-f : 0 < f
        pos-f = field-pos f k h

        residue : e < 2 ^ degree f
        residue = rw (field-degree f k h) high

        fixed_by_squaring : rem f (e ⊗ e) ≡ e
        fixed_by_squaring =
            rem_cong pos-f (e ⊗ e) e
            (dvd_by (descend d d (le_refl d) pos s p) (ap (λ (x : ℕ). x ⊕ e) (power-suc 0 e ∙ ap (λ (x : ℕ). x ⊗ x) (power_zero e))))
            ∙ rem-small pos-f e residue

    pub conjugates_differ : (i j : ℕ) → i < j → j < k → Divides f (power i e ⊕ power j e) → ⊥
    conjugates_differ i j l s p = no_period (j - i) (omega arith) (omega arith) (same_power f i j e h.irreducible l p)
