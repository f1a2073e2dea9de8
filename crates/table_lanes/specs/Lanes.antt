-- For inner functions: a reader of the promises need not read this page, as every call's value is the residue. Lanes of a part, fed by a table
-- and joined.
use Rattle.std.specs.Prelude.{◌≡◌, List, ℕ, ◌<◌, length, get_or, take, drop}
use Rattle.gf2.specs.Polynomials.{◌⊕◌, ◌⊗◌, rem}
use Rattle.gf2.specs.Moduli.{polynomial}
use Rattle.gf2.specs.declared.Modulus.{Modulus}
use Rattle.files.specs.Files.{bits, value_from}
use Rattle.multiples.specs.Rows.{Rows}
use Rattle.lookups.specs.Groups.{Appended}

-- a fact of each of four lanes
abbrev pub EachLane : (ℕ → Type 0) → Type 0
EachLane P = (j : ℕ) → j < 4 → P j

-- r is a residue with the four bytes of a part from place i on behind it, where x is one
abbrev pub FourMore : Modulus → List ℕ → ℕ → ℕ → ℕ → Type 0
FourMore p part i x r = Appended p x (value_from 0 (bits (take 4 (drop i part)))) r

-- r is the residue of the n bytes of a part from place a on, behind f
abbrev pub FedLane : Modulus → ℕ → List ℕ → ℕ → ℕ → ℕ → Type 0
FedLane p f part a n r = r ≡ rem (polynomial p) (value_from f (bits (take n (drop a part))))

-- two rows for four bits each, of the multiples of their word 1
abbrev pub TwoRows : Modulus → List ℕ → Type 0
TwoRows p rows = (length rows ≡ 32) × Rows 4 (polynomial p) (get_or rows 1 0) 2 rows

-- y behind x, where t is the power of t by the bits of y
abbrev pub behind : Modulus → ℕ → ℕ → ℕ → ℕ
behind p t x y = rem (polynomial p) (x ⊗ t) ⊕ y

-- four lanes one behind the other
abbrev pub all_behind : Modulus → ℕ → List ℕ → ℕ
all_behind p t x = behind p t (behind p t (behind p t (get_or x 0 0) (get_or x 1 0)) (get_or x 2 0)) (get_or x 3 0)
