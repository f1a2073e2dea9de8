-- For inner functions: a reader of the promises need not read this page, as every call's value is the residue. Reduction by rows of words,
-- for groups of w bits (003, section 4).
use Rattle.std.specs.Prelude.{◌≡◌, List, ℕ, zero, suc, ◌+◌, ◌*◌, ◌/◌, ◌%◌, ◌^◌, ◌≤◌, length, get_or}
use Rattle.gf2.specs.Polynomials.{◌⊕◌, rem}
use Rattle.gf2.specs.Moduli.{polynomial, Proper}
use Rattle.gf2.specs.declared.Modulus.{Modulus}
use Rattle.multiples.specs.Rows.{Rows}
use Rattle.lookups.specs.Rule.{table}

-- the words of n groups of w bits in h, the lowest group looked up in row j, added up
unfoldable pub looked : ℕ → List ℕ → ℕ → ℕ → ℕ → ℕ
looked w words zero j h = 0
looked w words (suc n) j h = get_or words (j * 2 ^ w + h % 2 ^ w) 0 ⊕ looked w words n (suc j) (h / 2 ^ w)

-- the first 256 words reduce one byte modulo a polynomial of degree at least 8
abbrev pub ReducesByte : Modulus → List ℕ → Type 0
ReducesByte p words = Proper p × (8 ≤ p.degree) × (256 ≤ length words) × Rows 8 (polynomial p) (2 ^ p.degree) 1 words

-- the words are the key's table
abbrev pub Table : ℕ → List ℕ → Type 0
Table key words = words ≡ table key

-- the same of a modulus, of degree at least 8
abbrev pub TableOf : Modulus → List ℕ → Type 0
TableOf p words = Proper p × (8 ≤ p.degree) × Table (polynomial p) words

-- r is a residue with v behind it, where x is one: of x and r the coefficients below t^k count alone
abbrev pub Appended : Modulus → ℕ → ℕ → ℕ → Type 0
Appended p x v r = r % 2 ^ p.degree ≡ rem (polynomial p) (x % 2 ^ p.degree * 2 ^ 32 + v)
