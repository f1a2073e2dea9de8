-- For inner functions: a reader of the promises need not read this page, as every call's value is the residue. Multiplication of residues
-- by one power of t, by a table.
use Rattle.std.specs.Prelude.{◌≡◌, List, ℕ, ◌^◌, length}
use Rattle.gf2.specs.Polynomials.{rem}
use Rattle.gf2.specs.Moduli.{polynomial, Proper}
use Rattle.gf2.specs.declared.Modulus.{Modulus}
use Rattle.files.specs.Files.{bits, value_from}
use Rattle.multiples.specs.Rows.{Rows}

-- row j has the multiples of t^(e + 8j) by a byte, for each of the eight bytes of a word
pub record Shifts (key e : ℕ) (words : List ℕ) : Type 0 where
  pub long : length words ≡ 2048
  pub rows : Rows 8 key (2 ^ e) 8 words

-- x is congruent to a part behind a leading 1, modulo each polynomial by which the words shift eight bytes. Which of the congruent numbers
-- it is, is left free.
abbrev pub FedEights : List ℕ → List ℕ → ℕ → Type 0
FedEights words part x =
    (p : Modulus) → Proper p → Shifts (polynomial p) 64 words → rem (polynomial p) x ≡ rem (polynomial p) (value_from 1 (bits part))
