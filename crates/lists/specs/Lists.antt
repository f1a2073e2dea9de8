-- Lists of numbers: the values of a function, the numbers that pass a test and whether there is one, whether two lists are the same, numbers
-- written to a lent list, what holds of every entry, and that no entry stands twice.
use Rattle.std.specs.Prelude.{◌≢◌, Bool, true, false, ◌&&◌, ◌||◌, cond, List, [], ◌∷◌, ◌++◌, ℕ, zero, suc, eqb, length, take, drop}

-- f i, f (i + 1), ..: n of them
unfoldable pub list_from : (ℕ → ℕ) → ℕ → ℕ → List ℕ
list_from f i zero = []
list_from f i (suc n) = f i ∷ list_from f (suc i) n

-- of the c numbers from n on those that pass the test, rising
unfoldable pub passing : (ℕ → Bool) → ℕ → ℕ → List ℕ
passing test n zero = []
passing test n (suc c) = cond (test n) (n ∷ passing test (suc n) c) (passing test (suc n) c)

-- some number below n passes the test
unfoldable pub any_below : (ℕ → Bool) → ℕ → Bool
any_below f zero = false
any_below f (suc n) = f n || any_below f n

-- the same numbers in the same order
unfoldable pub same : List ℕ → List ℕ → Bool
same [] [] = true
same [] (y ∷ ys) = false
same (x ∷ xs) [] = false
same (x ∷ xs) (y ∷ ys) = eqb x y && same xs ys

-- numbers written to a lent list: the first ones, as far as it reaches; its further entries keep their value
unfoldable pub overlay : List ℕ → List ℕ → List ℕ
overlay ns lent = take (length lent) ns ++ drop (length ns) lent

abbrev pub All : (ℕ → Type 0) → List ℕ → Type 0
All P [] = Unit {0}
All P (x ∷ xs) = P x × All P xs

-- no entry stands in the list twice
abbrev pub Distinct : List ℕ → Type 0
Distinct [] = Unit {0}
Distinct (x ∷ xs) = All (λ y. y ≢ x) xs × Distinct xs
