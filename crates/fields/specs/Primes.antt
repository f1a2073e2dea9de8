-- For inner functions: a reader of the promises need not read this page. The fields that keys are drawn in: modulo an irreducible f of a prime
-- degree k the 2^k residues are a field.
use Rattle.std.specs.Prelude.{◌≢◌, ℕ, ◌%◌, ◌<◌}
use Rattle.gf2.specs.Polynomials.{Irreducible}
use Rattle.gf2.specs.Degrees.{Degree}

pub record Prime (k : ℕ) : Type 0 where
  pub proper : 1 < k
  pub no_divisor : (d : ℕ) → 1 < d → d < k → k % d ≢ 0

-- f is irreducible of a prime degree k
pub record Field (f k : ℕ) : Type 0 where
  pub irreducible : Irreducible f
  pub of_degree : Degree f k
  pub prime : Prime k
