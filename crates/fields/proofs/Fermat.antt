-- Fermat's theorem for polynomials over GF(2): modulo an irreducible p of degree k, squaring k times gives every residue back. Two of
-- the k + 1 first conjugates of t are equal, since p has them for roots; so squaring has a period of at most k. A period m gives
-- 2^k roots to t^(2^m) - t, so it is not below k.
use mathlib.Core.Path.{◌≡◌, refl, sym, ap, ap₂, ◌∙◌}
use mathlib.Core.Logic.{◌≢◌, ◌⊎◌, inl, inr}
use Prim.Native.Nat.{ℕ, zero, suc, ◌-◌, ◌^◌, ◌<◌}
use native.Mathlib.Nat.{lt_of_lt_of_le, two-pow-succ}
use native.Mathlib.Decide.{dec_lt}
use native.Mathlib.Omega.{arith}
use lib.Pow.{pow-lt, pow_mono}
use Rattle.gf2.specs.Polynomials.{◌⊕◌, Divides, rem, Irreducible}
use Rattle.gf2.specs.Degrees.{Degree}
use Rattle.gf2.proofs.Sums.{⊕-eq, ⊕-lt}
use Rattle.gf2.proofs.Degrees.{deg_hi, deg-pos, deg-⊗, deg-⊕}
use Rattle.gf2.proofs.Divisors.{dvd_by, dvd_refl, dvd-small}
use Rattle.gf2.proofs.Residues.{rem_cong, dvd_of_rem}
use Rattle.fields.specs.Fields.{compose}
use Rattle.fields.proofs.Values.{compose-⊕, compose-two, compose_id}
use Rattle.fields.proofs.Squaring.{power, power-compose, compose-power, dvd-power, same_power, all_fixed}
use Rattle.fields.proofs.Roots.{Different, few_roots}
use Rattle.fields.proofs.Pigeonhole.{Collision, collide}

-- ---- the polynomial t^(2^m) - t

power-degree : (m : ℕ) → Degree (power m 2) (2 ^ m)
unfolding power
power-degree zero = refl
power-degree (suc m) = rw (two-pow-succ m) (deg-⊗ (power m 2) (power m 2) (2 ^ m) (2 ^ m) (power-degree m) (power-degree m))

pub frobenius_degree : (m : ℕ) → 0 < m → Degree (power m 2 ⊕ 2) (2 ^ m)
frobenius_degree m h = deg-⊕ (power m 2) 2 (2 ^ m) (power-degree m) (pow-lt {i = 1} {j = 2 ^ m} (pow-lt {i = 0} {j = m} h))

pub frobenius_at : (m x : ℕ) → compose (power m 2 ⊕ 2) x ≡ power m x ⊕ x
frobenius_at m x =
    compose-⊕ (power m 2) 2 x ∙ ap₂ (λ (a b : ℕ). a ⊕ b) (power-compose 2 m x ∙ ap (power m) (compose-two x)) (compose-two x)

module _ (p k : ℕ) (irr : Irreducible p) (of_degree : Degree p k) where
  pub positive : 0 < k
  positive = go (dec_lt 0 k)
    where
      go : Dec (0 < k) → 0 < k
      go (yes l) = l
      go (no n) = absurd (omega (arith, irr.proper, deg_hi p k of_degree, pow_mono {i = suc k} {j = 1} (omega arith)))

  pub one-lt : 1 < 2 ^ k
  one-lt = pow-lt {i = 0} {j = k} positive

  -- residues that differ as numbers differ modulo p
  pub residues-differ : Different p (2 ^ k) (λ x. x)
  residues-differ i j l h d = omega (arith, ⊕-eq i j (dvd-small k of_degree d (⊕-lt k i j (omega arith) h)))

  -- ---- no period is below k

  no_period : (m : ℕ) → 0 < m → m < k → Divides p (power m 2 ⊕ 2) → ⊥
  no_period m n l h =
      omega (
        arith,
        deg-pos (power m 2 ⊕ 2) (2 ^ m) (frobenius_degree m n),
        few_roots p k of_degree one-lt irr (2 ^ k) (power m 2 ⊕ 2) (λ x. x)
            (lt_of_lt_of_le (deg_hi (power m 2 ⊕ 2) (2 ^ m) (frobenius_degree m n)) (pow_mono (pow-lt l)))
            residues-differ (λ x b. dvd_by (all_fixed p m x h) (sym (frobenius_at m x))),
      )

  -- ---- one is at most k

  pos : 0 < p
  pos = omega (arith, irr.proper)

  conjugate : ℕ → ℕ
  conjugate j = rem p (power j 2)

  conjugate-root : (j : ℕ) → Divides p (compose p (power j 2))
  conjugate-root j = dvd_by (dvd-power p j p (dvd_refl p)) (sym (compose-power p j 2 ∙ ap (power j) (compose_id p)))

  all-differ : ((i j : ℕ) → i < j → j < suc k → conjugate i ≢ conjugate j) → ⊥
  unfolding conjugate
  all-differ d =
      omega (
        arith,
        deg-pos p k of_degree,
        few_roots p k of_degree one-lt irr (suc k) p (λ j. power j 2) (deg_hi p k of_degree)
            (λ i j l h e. d i j l h (rem_cong pos (power i 2) (power j 2) e)) (λ j l. conjugate-root j),
      )

  -- from a collision of conjugates, a period
  period : (i j : ℕ) → i < j → conjugate i ≡ conjugate j → Divides p (power (j - i) 2 ⊕ 2)
  unfolding conjugate
  period i j l e = same_power p i j 2 irr l (dvd_of_rem pos (power i 2) (power j 2) e)

  pub fermat : Divides p (power k 2 ⊕ 2)
  fermat = go (collide (suc k) conjugate)
    where
      go : Collision (suc k) conjugate ⊎ ((i j : ℕ) → i < j → j < suc k → conjugate i ≢ conjugate j) → Divides p (power k 2 ⊕ 2)
      go (inr d) = absurd (all-differ d)
      go (inl c) = settle (dec_lt m k) (period c.first c.second c.apart c.same)
        where
          m : ℕ
          m = c.second - c.first

          settle : Dec (m < k) → Divides p (power m 2 ⊕ 2) → Divides p (power k 2 ⊕ 2)
          settle (yes l) h = absurd (no_period m (omega (arith, c.apart)) l h)
          settle (no n) h = rw exact at h
            where
              exact : m ≡ k
              exact = omega (arith, c.below)

  -- squaring k times gives every polynomial back, modulo p
  pub fermat-all : (x : ℕ) → Divides p (power k x ⊕ x)
  fermat-all x = all_fixed p k x fermat
