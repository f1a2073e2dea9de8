-- For inner functions: the state of the algorithm that finds an inverse, and one turn of it.
use Rattle.std.specs.Prelude.{◌≡◌, Bool, cond, ◌&&◌, ℕ, ◌+◌, ◌*◌, ◌/◌, ◌%◌, ◌^◌, ◌<◌, eqb, ltb}
use Rattle.gf2.specs.Polynomials.{◌⊕◌, ◌⊗◌, degree, rem, Divides}
use Rattle.inverses.specs.declared.Pairs.{Pairs}

-- f divided by t modulo p, h being the inverse of t: p without its lowest coefficient, divided by t
unfoldable pub over_t : ℕ → ℕ → ℕ
over_t h f = f / 2 ⊕ h * (f % 2)

-- the smaller one of r and 2s + 1 where r is odd: r / 2 takes the place of s
abbrev pub smaller : Pairs → Bool
smaller x = eqb (x.r % 2) 1 && ltb (x.r / 2) x.s

-- one turn: r, and the sum of r and 2s + 1 where r is odd, is divided by t
unfoldable pub next : ℕ → Pairs → Pairs
next h x =
    record {
      r = x.r / 2 ⊕ x.s * (x.r % 2);
      u = over_t h (x.u ⊕ x.v * (x.r % 2));
      s = cond (smaller x) (x.r / 2) x.s;
      v = cond (smaller x) x.u x.v;
    }

-- u·a = r and v·a = 2s + 1 modulo p; r and 2s + 1 have no divisor in common
pub record Related (p a : ℕ) (x : Pairs) : Type 0 where
  pub r-lt : x.r < 2 ^ degree p
  pub u-lt : x.u < 2 ^ degree p
  pub s-lt : x.s < 2 ^ degree p
  pub v-lt : x.v < 2 ^ degree p
  pub first : rem p (x.u ⊗ a) ≡ x.r
  pub second : rem p (x.v ⊗ a) ≡ rem p (x.s * 2 + 1)
  pub coprime : (d : ℕ) → Divides d x.r → Divides d (x.s * 2 + 1) → d ≡ 1
