-- For inner functions: a reader of the promises need not read this page. What they promise of a part of the words.
use Rattle.std.specs.Prelude.{◌≡◌, List, ℕ, ◌+◌, ◌*◌, ◌^◌, ◌≤◌, ◌<◌, get_or}
use Rattle.gf2.specs.Polynomials.{◌⊕◌, ◌⊗◌, rem}

-- a row: word a + i is the residue of i·x, for each i below n
abbrev pub Multiples : ℕ → ℕ → ℕ → ℕ → List ℕ → Type 0
Multiples key x a n words = (i : ℕ) → i < n → get_or words (a + i) 0 ≡ rem key (i ⊗ x)

-- c rows of 2^w words, one behind the other: row j has the multiples of x·t^(w·j)
abbrev pub Rows : ℕ → ℕ → ℕ → ℕ → List ℕ → Type 0
Rows w key x c words = (j : ℕ) → j < c → Multiples key (rem key (x * 2 ^ (w * j))) (j * 2 ^ w) (2 ^ w) words

-- the n words from place b on are those from place a on with y added, the ones of another list
abbrev pub Shifted : ℕ → ℕ → ℕ → ℕ → List ℕ → List ℕ → Type 0
Shifted a b n y from words = (i : ℕ) → i < n → get_or words (b + i) 0 ≡ get_or from (a + i) 0 ⊕ y

-- the words before place n are those of another list
abbrev pub SameBefore : ℕ → List ℕ → List ℕ → Type 0
SameBefore n from words = (i : ℕ) → i < n → get_or words i 0 ≡ get_or from i 0

-- the words from place n on are
abbrev pub SameFrom : ℕ → List ℕ → List ℕ → Type 0
SameFrom n from words = (i : ℕ) → n ≤ i → get_or words i 0 ≡ get_or from i 0
