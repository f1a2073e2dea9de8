-- For inner functions: the modulus as the code holds it, a degree from 1 to 64 and the coefficients below t^degree, so that degree 64 fits 64 bits.
use Rattle.std.specs.Prelude.{ℕ, ◌^◌, ◌≤◌, ◌<◌}
use Rattle.gf2.specs.Polynomials.{monic}
use Rattle.gf2.specs.declared.Modulus.{Modulus}

abbrev pub polynomial : Modulus → ℕ
polynomial p = monic p.degree p.low

abbrev pub Proper : Modulus → Type 0
Proper p = (0 < p.degree) × (p.degree ≤ 64) × (p.low < 2 ^ p.degree)
