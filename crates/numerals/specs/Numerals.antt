-- Numbers in digits, as the printing program prints them (document 01).
use Rattle.std.specs.Prelude.{cond, List, [], ◌∷◌, ◌++◌, ℕ, zero, suc, ◌/◌, ◌%◌, ltb}
use Rattle.io.specs.Digits.{hex_digit_ascii}

-- the digits of n in base b, the highest first, without zeros in front; 0 is the digit 0. At most s + 1 digits.
unfoldable pub digits_of : ℕ → ℕ → ℕ → List ℕ
digits_of zero b n = hex_digit_ascii (n % b) ∷ []
digits_of (suc s) b n = cond (ltb n b) (hex_digit_ascii n ∷ []) (digits_of s b (n / b) ++ (hex_digit_ascii (n % b) ∷ []))

unfoldable pub numeral : ℕ → ℕ → List ℕ
numeral b n = digits_of n b n
