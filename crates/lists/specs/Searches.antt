-- The first number that passes a test: for the stock list and for drawing.
use Rattle.std.specs.Prelude.{Bool, cond, ℕ, zero, suc}

-- the first number from n on that passes the test, c numbers being tried; n + c where none does
unfoldable pub first_from : (ℕ → Bool) → ℕ → ℕ → ℕ
first_from test n zero = n
first_from test n (suc c) = cond (test n) n (first_from test (suc n) c)
