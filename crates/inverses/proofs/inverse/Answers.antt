-- The modulus is 2h + 1. The measure is r + s.
use mathlib.Core.Path.{◌≡◌}
use Prim.Native.Nat.{ℕ, ◌+◌, ◌*◌, ◌/◌, ◌^◌, ◌≤◌, ◌<◌}
use native.Mathlib.Omega.{arith}
use Rattle.gf2.specs.Polynomials.{degree, Irreducible}
use Rattle.gf2.specs.Moduli.{polynomial, Proper}
use Rattle.gf2.specs.declared.Modulus.{Modulus}
use Rattle.gf2.proofs.Monics.{monic-degree}
use Rattle.inverses.proofs.Euclid.{odd-modulus, next-keeps, next-less, last-inverse, first-related, no_divisor}
use Rattle.inverses.proofs.inverse.Goals as goal

two : (p : Modulus) → Proper p → 2 ≤ p.degree → 2 ≤ degree (polynomial p)
two p h d = rw (monic-degree p.degree p.low h.2) d

small : (p : Modulus) → Proper p → (a : ℕ) → a < 2 ^ p.degree → a < 2 ^ degree (polynomial p)
small p h a l = rw (monic-degree p.degree p.low h.2) l

whole : (q h : ℕ) → Irreducible q → 2 ≤ degree q → h ≡ q / 2 → h * 2 + 1 ≡ q
whole q h irr d e = omega (arith, odd-modulus q irr d, e)

pub loop-x-init : goal.loop-x-init
loop-x-init c =
    let a = c.args in
    let p = c.requires in
    let q = polynomial a.p in
    let d = two a.p p.0 p.1 in
    let h = c.inverse_of_t-h in
    rw (whole q h.result p.2 d h.ensures) (first-related q p.2 d a.a h.result h.ensures p.3 (small a.p p.0 a.a p.4))

pub loop-x-smaller : goal.loop-x-smaller
loop-x-smaller c =
    let a = c.args in
    let p = c.requires in
    let q = polynomial a.p in
    let d = two a.p p.0 p.1 in
    let h = c.inverse_of_t-h in
    let related = rw (whole q h.result p.2 d h.ensures) at c.loop-x.invariant in
    rw c.next-x.ensures (next-less q p.2 d a.a h.result h.ensures c.loop-x.x related c.loop-x-test.true)

pub loop-x-preserved : goal.loop-x-preserved
loop-x-preserved c =
    let a = c.args in
    let p = c.requires in
    let q = polynomial a.p in
    let d = two a.p p.0 p.1 in
    let h = c.inverse_of_t-h in
    let related = rw (whole q h.result p.2 d h.ensures) at c.loop-x.invariant in
    rw (whole q h.result p.2 d h.ensures, c.next-x.ensures) (next-keeps q p.2 d a.a h.result h.ensures c.loop-x.x related)

pub returns : goal.returns
returns c =
    let a = c.args in
    let p = c.requires in
    let q = polynomial a.p in
    let d = two a.p p.0 p.1 in
    let h = c.inverse_of_t-h in
    let related = rw (whole q h.result p.2 d h.ensures) at c.loop-x.invariant in
    last-inverse q p.2 d a.a h.result h.ensures c.loop-x.x related (no_divisor q p.2 d a.a h.result h.ensures p.3 (small a.p p.0 a.a p.4)) (omega arith)
