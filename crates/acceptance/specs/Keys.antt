-- Accepted keys (document 01, "Polynomials and keys"; degree 64, and a key as a degree and a word: document 02, wish 8), by trial division:
-- plainly right, and run by nobody.
use Rattle.std.specs.Prelude.{Bool, ◌&&◌, ◌||◌, not, List, [], ◌∷◌, ℕ, ◌%◌, ◌^◌, leb, ltb, eqb}
use Rattle.lists.specs.Lists.{any_below}
use Rattle.gf2.specs.Polynomials.{degree, monic, rem}
use Rattle.gf2.specs.declared.Modulus.{Modulus}
use Rattle.refusals.specs.declared.Refusal.TheVariants.{KeyRange, KeyReducible}
use Rattle.refusals.specs.Refusals.{Test, ◌⇒◌}
use Rattle.acceptance.specs.declared.Key.{Key}

-- some polynomial of degree 1 to k - 1 divides p, k being its degree: these are the numbers from 2 to 2^k - 1
unfoldable pub reducible : ℕ → Bool
reducible p = any_below (λ d. leb 2 d && eqb (rem d p) 0) (2 ^ degree p)

unfoldable pub accepted : ℕ → Bool
accepted p = leb 8 (degree p) && leb (degree p) 64 && not (reducible p)

-- ---- a key as it is handed in: its degree k, and the word of its coefficients below t^k

-- its polynomial
abbrev pub polynomial_of : Key → ℕ
polynomial_of x = monic x.degree x.word

-- the key that a polynomial is handed in as
abbrev pub key_of : ℕ → Key
key_of p = record { degree = degree p; word = p % 2 ^ degree p }

-- the key as the code computes with it, once it is tested
abbrev pub as_modulus : Key → Modulus
as_modulus x = record { degree = x.degree; low = x.word }

-- number 1: a degree outside 8 to 64, or a word with a bit at or above t^k
abbrev pub outside : Key → Bool
outside x = ltb x.degree 8 || ltb 64 x.degree || leb (2 ^ x.degree) x.word

-- numbers 1 and 2, of a key handed in
abbrev pub key_tests : Key → List Test
key_tests x = outside x ⇒ KeyRange ∷ reducible (polynomial_of x) ⇒ KeyReducible ∷ []
