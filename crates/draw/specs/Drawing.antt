-- Drawing a key by Rabin's method (document 01, "Polynomials and keys"; 000, section 2).
use Rattle.std.specs.Prelude.{◌≡◌, Bool, ◌||◌, not, List, [], ◌∷◌, ℕ, ◌-◌, ◌^◌, leb, ltb, eqb}
use Rattle.gf2.specs.Degrees.{Degree}
use Rattle.fields.specs.Fields.{at}
use Rattle.refusals.specs.declared.Refusal.TheVariants.{DegreeNotListed, ElementOutOfRange}
use Rattle.refusals.specs.Refusals.{Answer, Test, ◌⇒◌, first_of}
use Rattle.lists.specs.Searches.{first_from}
use Rattle.lists.specs.Members.{among}
use Rattle.lists.specs.Counts.{count_from}
use Rattle.acceptance.specs.declared.Key.{Key}
use Rattle.acceptance.specs.Keys.{key_of}
use Rattle.stock.specs.Stock.{stock_key}

-- the degrees that keys are drawn of
abbrev pub degrees : List ℕ
degrees = 11 ∷ 13 ∷ 17 ∷ 19 ∷ 23 ∷ 29 ∷ 31 ∷ 37 ∷ 41 ∷ 43 ∷ 47 ∷ 53 ∷ 59 ∷ 61 ∷ []

-- the first polynomial p of degree k with p(e) = 0 modulo f, in the order of the numbers. It is the only one (`draw_unique`).
unfoldable pub drawn : ℕ → ℕ → ℕ → ℕ
drawn f k e = first_from (λ p. eqb (at f p e) 0) (2 ^ k) (2 ^ k)

-- the key of degree k that e draws
abbrev pub drawn_key : ℕ → ℕ → ℕ
drawn_key k e = drawn (stock_key k) k e

-- how many elements pass a test: the numbers from 2 to 2^k - 1
abbrev pub elements : ℕ → (ℕ → Bool) → ℕ
elements k test = count_from test 2 (2 ^ k - 2)

-- number 3, and number 4 of an element handed in
abbrev pub draw_tests : ℕ → ℕ → List Test
draw_tests k e = not (among k degrees) ⇒ DegreeNotListed ∷ (ltb e 2 || leb (2 ^ k) e) ⇒ ElementOutOfRange ∷ []

-- the key is answered as its degree and its word
unfoldable pub draw : ℕ → ℕ → Answer Unit Key
draw k e = first_of (draw_tests k e) tt (key_of (drawn_key k e))

-- what it is to be drawn by e, without the search: of degree k, with e for a root modulo f
pub record Draws (f k e p : ℕ) : Type 0 where
  pub of_degree : Degree p k
  pub root : at f p e ≡ 0
