-- For inner functions: a reader of the promises need not read this page, as every call's value is the residue. Folding: over the field of two
-- elements p(t)^w = p(t^w) where w is a power of two, so a polynomial with few terms divides a string of bytes by additions of whole words.
use Rattle.std.specs.Prelude.{◌≡◌, ◌⊎◌, List, [], ◌∷◌, ℕ, ◌+◌, ◌*◌, ◌^◌, get_or, take}
use Rattle.gf2.specs.Polynomials.{◌⊕◌}
use Rattle.files.specs.Files.{bits, value_from}

-- the polynomial with the given exponents, at t^w
unfoldable pub form : List ℕ → ℕ → ℕ
form [] w = 0
form (e ∷ es) w = 2 ^ (e * w) ⊕ form es w

-- the house key's: t^61 + t^5 + t^2 + t + 1
abbrev pub low_exponents : List ℕ
low_exponents = 5 ∷ 2 ∷ 1 ∷ 0 ∷ []

abbrev pub exponents : List ℕ
exponents = 61 ∷ low_exponents

-- the polynomial of the first n bytes
unfoldable pub front : List ℕ → ℕ → ℕ
front q n = value_from 0 (bits (take n q))

-- what the bytes q, those before place i + e·s for the highest exponent e, are the quotient of: their product with the form for words of s
-- bytes, without what stands below
unfoldable pub folded : List ℕ → ℕ → List ℕ → ℕ → ℕ
folded [] s q i = 0
folded (e ∷ es) s q i = front q (i + e * s) ⊕ folded es s q i

-- the bytes at those places, added up
unfoldable pub added : List ℕ → ℕ → List ℕ → ℕ → ℕ
added [] s q i = 0
added (e ∷ es) s q i = get_or q (i + e * s) 0 ⊕ added es s q i

-- the words that the code folds by, of 4 and of 16 bytes: in bits both are powers of two
abbrev pub Word : ℕ → Type 0
Word s = (s ≡ 4) ⊎ (s ≡ 16)
