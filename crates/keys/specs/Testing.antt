-- The test of a key (document 01, "Polynomials and keys"; the key as a pair: document 02, wish 8): numbers 1 and 2.
use Rattle.gf2.specs.declared.Modulus.{Modulus}
use Rattle.refusals.specs.Refusals.{Answer, first_of}
use Rattle.acceptance.specs.declared.Key.{Key}
use Rattle.acceptance.specs.Keys.{as_modulus, key_tests}

-- the opened key: its degree and the coefficients below
unfoldable pub test_key : Key → Answer Unit Modulus
test_key x = first_of (key_tests x) tt (as_modulus x)
