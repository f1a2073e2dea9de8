-- `is_house` meets its contract: the house key by its degree and the coefficients below.
use mathlib.Core.Path.{◌≡◌}
use mathlib.Core.Bool.{false≢true}
use Prim.Native.Nat.{ℕ}
use native.Mathlib.Omega.{arith}
use borrow.Author.Tests.{eqb-true}
use Rattle.gf2.specs.Polynomials.{monic}
use Rattle.house.specs.House.{house_key}
use Rattle.house.proofs.is_house.Goals as goal

whole : (degree low : ℕ) → degree ≡ 61 → low ≡ 0x27 → monic degree low ≡ house_key
unfolding monic
whole degree low d l = rw (d, l)

pub returns-then-p-ne-DEGREE : goal.returns-then-p-ne-DEGREE
returns-then-p-ne-DEGREE c e = absurd (false≢true e)

pub returns : goal.returns
returns c e =
    let p = c.args.p in
    let d : p.degree ≡ 61 = omega arith in
    let l = eqb-true p.low 0x27 e in
    (d, l, whole p.degree p.low d l)
