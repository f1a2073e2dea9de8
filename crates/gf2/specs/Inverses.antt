-- For inner functions: the inverse of a polynomial modulo p.
use Rattle.std.specs.Prelude.{ℕ, ◌^◌, eqb}
use Rattle.lists.specs.Searches.{first_from}
use Rattle.gf2.specs.Polynomials.{◌⊗◌, degree, rem}

-- the first residue x with x·a = 1; 2^k where there is none
unfoldable pub inverse : ℕ → ℕ → ℕ
inverse p a = first_from (λ x. eqb (rem p (x ⊗ a)) 1) 0 (2 ^ degree p)
