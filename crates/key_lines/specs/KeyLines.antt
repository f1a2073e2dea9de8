-- The key's line of the printing program (document 01; 17 digits: document 02, wish 8), on lists of bytes: 1 to 17 lowercase hexadecimal digits
-- before the first newline.
use Rattle.std.specs.Prelude.{Bool, true, cond, ◌&&◌, List, [], ◌∷◌, ℕ, ◌+◌, ◌-◌, ◌*◌, ◌^◌, suc, eqb, leb, ltb, length, take, Result, Ok, Err}
use Rattle.acceptance.specs.declared.Key.{Key}
use Rattle.acceptance.specs.Keys.{key_of}
use Rattle.key_lines.specs.declared.LineError.{LineError}
use Rattle.key_lines.specs.declared.LineError.TheVariants.{NoKey, TooLarge}

-- the value of a digit; 16 of a byte that is none
unfoldable pub digit : ℕ → ℕ
digit b = cond (leb 48 b && leb b 57) (b - 48) (cond (leb 97 b && leb b 102) (b - 87) 16)

unfoldable pub all_digits : List ℕ → Bool
all_digits [] = true
all_digits (b ∷ bs) = ltb (digit b) 16 && all_digits bs

-- the number that digits write behind the number s
unfoldable pub hex_from : ℕ → List ℕ → ℕ
hex_from s [] = s
hex_from s (b ∷ bs) = hex_from (s * 16 + digit b) bs

-- digits that write v, with the file from a place on: the key and the place, or a number of degree above 64
unfoldable pub line_of : ℕ → ℕ → Result (Key × ℕ) LineError
line_of v at = cond (ltb v (2 ^ 65)) (Ok (key_of v, at)) (Err TooLarge)

-- of an input with its first newline at place n, or of n bytes where it has none
unfoldable pub key_before : ℕ → List ℕ → Result (Key × ℕ) LineError
key_before n input =
    cond (ltb n (length input) && (leb 1 n && leb n 17) && all_digits (take n input)) (line_of (hex_from 0 (take n input)) (n + 1)) (Err NoKey)

-- the place of the first byte b, the length where there is none
unfoldable pub index_of : ℕ → List ℕ → ℕ
index_of b [] = 0
index_of b (x ∷ xs) = cond (eqb x b) 0 (suc (index_of b xs))

unfoldable pub key_line : List ℕ → Result (Key × ℕ) LineError
key_line input = key_before (index_of 10 input) input
