-- For inner functions: a reader of the promises need not read this page.
-- The rows that decide whether a polynomial p of degree k is irreducible, after Berlekamp: squaring modulo p is linear. With h half of
-- k, rounded up, the squares of 1, t, .. t^(h - 1) are those without the modulus; what is left to test are the squares of t^h and of the
-- powers behind it up to two thirds of k, modulo all squares, and the squares of t^h, .. t^(k - 1), each less its power of t, modulo all
-- l² ⊕ l (proofs/Decision).
use Rattle.std.specs.Prelude.{List, ℕ, zero, suc, ◌+◌, ◌*◌, ◌/◌, ◌%◌, ◌^◌}
use Rattle.std.specs.Int.Bits.{bit_and}
use Rattle.gf2.specs.Polynomials.{◌⊕◌, rem}
use Rattle.lists.specs.Lists.{list_from}

-- the square of t^i modulo p
unfoldable pub square : ℕ → ℕ → ℕ
square p i = rem p (2 ^ (2 * i))

-- the coefficients at the even places below 2 n, closed up: a polynomial whose square has them at their places
unfoldable pub even_root : ℕ → ℕ → ℕ
even_root zero x = 0
even_root (suc n) x = even_root n (x / 4) * 2 + x % 2

-- the coefficients at the odd places, of a word
unfoldable pub odd_part : ℕ → ℕ
odd_part x = bit_and x 0xAAAAAAAAAAAAAAAA

-- coefficients at even places moved to half their place, n times over: for a word and n = 6 to an odd place, or 0
unfoldable pub folded : ℕ → ℕ → ℕ
folded zero x = x
folded (suc n) x = odd_part x ⊕ folded n (even_root 32 x)

-- the rows of the squares, of n powers of t from t^h on
unfoldable pub square_rows : ℕ → ℕ → ℕ → List ℕ
square_rows p h n = list_from (λ i. odd_part (square p i)) h n

-- the rows of the squares, each less its power of t
unfoldable pub difference_rows : ℕ → ℕ → ℕ → List ℕ
difference_rows p h n = list_from (λ i. folded 6 (square p i ⊕ 2 ^ i)) h n
