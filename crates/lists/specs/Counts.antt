-- How many numbers pass a test.
use Rattle.std.specs.Prelude.{Bool, cond, ℕ, zero, suc, ◌+◌}

-- of the n numbers from x on
unfoldable pub count_from : (ℕ → Bool) → ℕ → ℕ → ℕ
count_from f x zero = 0
count_from f x (suc n) = (cond (f x) 1 0) + count_from f (suc x) n
