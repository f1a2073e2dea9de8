-- For inner functions: a reader of the promises need not read this page.
use Rattle.std.specs.Prelude.{◌≡◌, true, false}
use Rattle.gf2.specs.declared.Modulus.{Modulus}
use Rattle.acceptance.specs.declared.Key.{Key}
use Rattle.acceptance.specs.Keys.{accepted, polynomial_of, as_modulus, outside}

-- an opened key: number 1 does not apply to it, its polynomial is accepted, and p is its degree with the coefficients below
pub record Opened (x : Key) (p : Modulus) : Type 0 where
  pub in_range : outside x ≡ false
  pub is-accepted : accepted (polynomial_of x) ≡ true
  pub parts : p ≡ as_modulus x
