-- The rule of a table (document 01, "Tables"; 003, section 4, for every degree), for groups of w bits: document 01 has w = 8 and four groups.
use Rattle.std.specs.Prelude.{Bool, false, ◌||◌, not, List, [], ◌∷◌, ℕ, suc, ◌+◌, ◌*◌, ◌/◌, ◌%◌, ◌^◌, eqb}
use Rattle.lists.specs.Lists.{list_from}
use Rattle.gf2.specs.Polynomials.{degree, rem}

-- word 2^w·j + i is the residue of i·t^(k + w·j)
unfoldable pub word : ℕ → ℕ → ℕ → ℕ
word w key n = rem key (n % 2 ^ w * 2 ^ (degree key + w * (n / 2 ^ w)))

-- a word differs from the rule, the first of the list standing at place n
unfoldable pub differs : (ℕ → ℕ) → ℕ → List ℕ → Bool
differs rule n [] = false
differs rule n (x ∷ xs) = not (eqb x (rule n)) || differs rule (suc n) xs

-- the key's table
abbrev pub table : ℕ → List ℕ
table key = list_from (word 8 key) 0 1024
