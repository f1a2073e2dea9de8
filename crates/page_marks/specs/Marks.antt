-- For inner functions: a reader of the promises need not read this page. What they promise of the numbers of pages.
use Rattle.std.specs.Prelude.{◌≡◌, List, ℕ, ◌*◌, ◌<◌, get_or, take, drop}
use Rattle.gf2.specs.Polynomials.{rem}
use Rattle.gf2.specs.Moduli.{polynomial, Proper}
use Rattle.gf2.specs.declared.Modulus.{Modulus}
use Rattle.files.specs.Files.{bits, value_from, fingerprint}
use Rattle.shifts.specs.Shifts.{Shifts}

-- the first w bytes of page i, of pages of s bytes
abbrev pub page_front : ℕ → ℕ → List ℕ → ℕ → List ℕ
page_front s w pages i = take w (drop (i * s) pages)

-- of n pages of s bytes: the number at place i is congruent to the first w bytes of page i behind a leading 1. Which of the congruent
-- numbers it is, is left free.
abbrev pub Begun : ℕ → ℕ → ℕ → ℕ → List ℕ → List ℕ → Type 0
Begun key s w n pages marks = (i : ℕ) → i < n → rem key (get_or marks i 0) ≡ rem key (value_from 1 (bits (page_front s w pages i)))

-- the same modulo each polynomial by which the words shift eight bytes
abbrev pub BegunBy : List ℕ → ℕ → ℕ → ℕ → List ℕ → List ℕ → Type 0
BegunBy eights s w n pages marks = (p : Modulus) → Proper p → Shifts (polynomial p) 64 eights → Begun (polynomial p) s w n pages marks

-- the first n numbers are the residues of those before
abbrev pub Reduced : ℕ → ℕ → List ℕ → List ℕ → Type 0
Reduced key n before marks = (i : ℕ) → i < n → get_or marks i 0 ≡ rem key (get_or before i 0)

-- it is the fingerprint of page i
abbrev pub Finished : ℕ → ℕ → ℕ → List ℕ → List ℕ → Type 0
Finished key s n pages marks = (i : ℕ) → i < n → get_or marks i 0 ≡ fingerprint key (bits (page_front s s pages i))
