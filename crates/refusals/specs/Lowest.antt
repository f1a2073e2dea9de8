-- "The lowest number that applies" (document 01, "Who can cause a refusal"), as it is claimed of each call: specs/Calls.antt of a level
-- has a line for each of its calls.
use Rattle.std.specs.Prelude.{◌≡◌, true, false, List, [], ◌∷◌, ℕ, min}
use Rattle.refusals.specs.Refusals.{number, Answer, number_of, Test, ◌⇒◌}

-- the numbers of all tests, and of those that hold
abbrev pub numbers : List Test → List ℕ
numbers [] = []
numbers (b ⇒ r ∷ ts) = number r ∷ numbers ts

abbrev pub applying : List Test → List ℕ
applying [] = []
applying (true ⇒ r ∷ ts) = number r ∷ applying ts
applying (false ⇒ r ∷ ts) = applying ts

-- the lowest of a list, and its first; 0 where it has none
abbrev pub least : ℕ → List ℕ → ℕ
least n [] = n
least n (m ∷ ns) = least (min n m) ns

abbrev pub lowest : List ℕ → ℕ
lowest [] = 0
lowest (n ∷ ns) = least n ns

abbrev pub foremost : List ℕ → ℕ
foremost [] = 0
foremost (n ∷ ns) = n

-- a call's tests have the numbers ns, in this order, and it gives the lowest of those that apply, 0 where none does
pub record GivesLowest {S A : Type 0} (ns : List ℕ) (tests : List Test) (answer : Answer S A) : Type 0 where
  pub numbered : numbers tests ≡ ns
  pub given : number_of answer ≡ lowest (applying tests)

-- the same with the first of those that apply: for a sheet, whose tests stand in document 01's own order
pub record GivesFirst {S A : Type 0} (ns : List ℕ) (tests : List Test) (answer : Answer S A) : Type 0 where
  pub numbered : numbers tests ≡ ns
  pub given : number_of answer ≡ foremost (applying tests)
