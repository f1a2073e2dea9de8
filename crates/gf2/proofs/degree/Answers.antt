-- `gf2::degree` meets its contract, by the law of the leading zeros.
use mathlib.Core.Path.{◌≡◌, sym, ◌∙◌}
use Prim.Native.Nat.{ℕ, ◌-◌, ◌<◌, ◌^◌}
use native.Mathlib.Omega.{arith}
use lib.Count.{count_leading_zeros, leading_top}
use Rattle.gf2.specs.Polynomials.{degree}
use Rattle.gf2.proofs.Degrees.{degree-eq, deg_intro}
use Rattle.gf2.proofs.degree.Goals as goal

by-zeros : (p : ℕ) → 0 < p → p < 2 ^ 64 → 63 - count_leading_zeros 64 p ≡ degree p
by-zeros p h f =
    let t = leading_top 64 p h f in
    let e : t.0 ≡ 63 - count_leading_zeros 64 p = let q = t.1 in omega arith in
    sym e ∙ sym (degree-eq p t.0 (deg_intro p t.0 t.2 t.3))

pub overflow_sub-result : goal.overflow_sub-result
overflow_sub-result c = let t = leading_top 64 c.args.p c.requires c.ranges.p.fits in let q = t.1 in omega arith

pub returns : goal.returns
returns c = by-zeros c.args.p c.requires c.ranges.p.fits
