-- `block` meets its contract: 64 where so many pages are left, else the quotient.
use Prim.Native.Nat.{◌/◌, ◌≤◌, ◌<◌}
use native.Mathlib.Nat.{le-div_iff_mul-le, div-lt_iff_lt-mul}
use native.Mathlib.Omega.{arith}
use Rattle.sheet_pages.proofs.block.Goals as goal

pub returns-then-size-left : goal.returns-then-size-left
returns-then-size-left c =
    let many : 64 ≤ c.args.left / c.args.size = (le-div_iff_mul-le c.requires.0).1 (omega (arith, c.if-size-left.true)) in
    omega (arith, many)

pub returns : goal.returns
returns c =
    let few : c.args.left / c.args.size < 64 = (div-lt_iff_lt-mul c.requires.0).1 (omega (arith, c.if-size-left.false)) in
    omega (arith, few)
