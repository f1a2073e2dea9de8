-- Numbers as bytes, the high byte first (document 01, "Page sheets": "Layout, high byte first").
use mathlib.Core.List.{List, [], ◌∷◌, ◌++◌, zip_with, flatten}
use Rattle.std.specs.Prelude.{ℕ, zero, suc, ◌+◌, ◌*◌, ◌/◌, ◌%◌, ◌^◌, take, drop}
use Rattle.files.specs.Files.{bits, value_from}

-- the w low bytes of a number
unfoldable pub bytes_of : ℕ → ℕ → List ℕ
bytes_of zero x = []
bytes_of (suc w) x = x / 2 ^ (8 * w) % 256 ∷ bytes_of w x

-- each number of a list in w bytes
unfoldable pub fields_of : ℕ → List ℕ → List ℕ
fields_of w [] = []
fields_of w (x ∷ xs) = bytes_of w x ++ fields_of w xs

-- the number in w bytes at a place
unfoldable pub number_at : ℕ → ℕ → List ℕ → ℕ
number_at place w l = value_from 0 (bits (take w (drop place l)))

-- the c numbers, of w bytes each, from a place on
unfoldable pub numbers_at : ℕ → ℕ → ℕ → List ℕ → List ℕ
numbers_at place w zero l = []
numbers_at place w (suc c) l = number_at place w l ∷ numbers_at (place + w) w c l

-- numbers one behind the other, each in its width
unfoldable pub bytes_in : List ℕ → List ℕ → List ℕ
bytes_in ws xs = flatten (zip_with bytes_of ws xs)
