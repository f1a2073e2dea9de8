-- A prime number, by a test that the checker computes: its first divisor from 2 on is itself.
use mathlib.Core.Path.{sym, ◌∙◌}
use mathlib.Core.Bool.{true≢false}
use Prim.Native.Nat.{ℕ, ◌%◌, ◌<◌}
use native.Mathlib.Omega.{arith}
use lib.Dec.{T, eqb, eqb→eq}
use borrow.Author.Tests.{eq-eqb}
use Rattle.lists.specs.Searches.{first_from}
use Rattle.lists.proofs.Searches.{none_before}
use Rattle.fields.specs.Primes.{Prime}

unfoldable pub first_divisor : ℕ → ℕ
first_divisor k = first_from (λ d. eqb (k % d) 0) 2 k

pub prime_by_test : (k : ℕ) → 1 < k → T (eqb (first_divisor k) k) → Prime k
unfolding first_divisor
prime_by_test k l t =
    record {
      proper = l;
      no_divisor =
          λ d lo hi e. true≢false (sym (eq-eqb (k % d) 0 e) ∙ none_before (λ x. eqb (k % x) 0) 2 k d lo (omega (arith, eqb→eq (first_divisor k) k t)));
    }
