use mathlib.Core.Bool.{true, false}
use Prim.Native.Nat.{◌/◌, ◌%◌}
use native.Mathlib.Omega.{arith}
use borrow.Author.Tests.{ne_eqb, lt-ltb, le-ltb}
use Rattle.gf2.specs.Polynomials.{◌⊕◌}
use Rattle.inverses.proofs.Euclid.{next-is}
use Rattle.inverses.proofs.next.Goals as goal
use Rattle.inverses.proofs.next.Goals.{else-bit-eq1-via-then-bit-eq1+else-half-x, else-bit-eq1-via-else-bit-eq1}

pub returns-then-half-x : goal.returns-then-half-x
unfolding ◌⊕◌
returns-then-half-x c =
    let a = c.args in
    next-is a.h a.x true c.over_t-u.result (rw (c.if-bit-eq1.true, lt-ltb (a.x.r / 2) a.x.s c.if-half-x.true)) c.over_t-u.ensures

pub returns : goal.returns
unfolding ◌⊕◌
returns c =
    let a = c.args in
    elim c.else-bit-eq1.branch [
      | else-bit-eq1-via-then-bit-eq1+else-half-x w ↦ next-is a.h a.x false c.over_t-u.result
          (rw (w.if-bit-eq1.true, le-ltb (a.x.r / 2) a.x.s (omega (arith, w.if-half-x.false)))) c.over_t-u.ensures
      | else-bit-eq1-via-else-bit-eq1 w ↦ next-is a.h a.x false c.over_t-u.result (rw (ne_eqb (a.x.r % 2) 1 w.if-bit-eq1.false)) c.over_t-u.ensures
    ]
