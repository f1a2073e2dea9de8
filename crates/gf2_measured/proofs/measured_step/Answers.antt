-- The step's contract, at the high bits of both words.
use mathlib.Core.Path.{◌≡◌}
use Prim.Native.Nat.{ℕ, ◌+◌, ◌-◌, ◌/◌, ◌%◌, ◌^◌, ◌<◌}
use native.Mathlib.Omega.{arith}
use lib.Pow.{shr_lt}
use Rattle.gf2_measured.proofs.measured_step.Goals as goal

-- the highest bits of a word, as many as the degree, are below 2 ^ degree
high_lt : (d x : ℕ) → x < 2 ^ 64 → x / 2 ^ (63 - d % 64) < 2 ^ (1 + d % 64)
high_lt d x h = shr_lt (1 + d % 64) (63 - d % 64) (rw whole h)
  where
    whole : 1 + d % 64 + (63 - d % 64) ≡ 64
    whole = omega arith

pub step-requires : goal.step-requires
step-requires c =
    let a = c.args in
    let fits = c.ranges in
    ((omega arith, omega arith, high_lt a.d a.low fits.low.fits), high_lt a.d a.f fits.f.fits, omega arith)
