-- `power` meets its contract. The loop's invariant: x is the power of t^32 by the bits of n from place i on. The measure is i.
use mathlib.Core.Path.{◌≡◌, sym, ap, ◌∙◌}
use Prim.Native.Nat.{ℕ, ◌+◌, ◌*◌, ◌/◌, ◌^◌, ◌<◌}
use native.Mathlib.Nat.{add-zero, div-one}
use native.Mathlib.Omega.{arith}
use lib.Pow.{pow-lt}
use Rattle.gf2.specs.Polynomials.{◌⊗◌, degree, rem}
use Rattle.gf2.specs.Powers.{◌⊗^◌}
use Rattle.gf2.specs.Moduli.{polynomial}
use Rattle.gf2.proofs.Products.{⊗-pow}
use Rattle.gf2.proofs.Powers.{pow-word}
use Rattle.gf2.proofs.Degrees.{degree-is, deg-le}
use Rattle.gf2.proofs.Monics.{monic-pos}
use Rattle.gf2.proofs.Steps.{residue-below, square-next, times_next}
use Rattle.table_lanes.proofs.power.Goals as goal
use Rattle.table_lanes.proofs.power.Goals.{Start}

four-zeros : (x : ℕ) → x * 2 ^ 32 + 0 ≡ x ⊗ 2 ^ 32
four-zeros x = add-zero (x * 2 ^ 32) ∙ sym (⊗-pow 32 x)

pos : (s : Start) → 0 < polynomial s.args.table.p
pos s = monic-pos s.args.table.p.degree s.args.table.p.low s.args.table.holds.0.2

-- ---- the needs

pub feed_four-x-requires : goal.feed_four-x-requires
feed_four-x-requires c =
    (pow-lt {i = 0} {j = c.args.table.p.degree} c.args.table.holds.0.0, omega arith)

pub loop-i-init : goal.loop-i-init
loop-i-init c =
    let n = c.args.n in
    let d = c.degree-i in
    let is = degree-is n c.requires in
    let one : n / 2 ^ d.result ≡ 1 = ap (λ (m : ℕ). n / 2 ^ m) d.ensures ∙ is in (
      omega (arith, d.ensures, deg-le n (degree n) 64 is c.ranges.n.fits),
      c.feed_four-x.ensures ∙ ap (rem (polynomial c.args.table.p)) (sym (ap (λ (m : ℕ). (2 ^ 32) ⊗^ m) one ∙ pow-word 32 1)),
    )

pub square-x-requires : goal.square-x-requires
square-x-requires c =
    let l = c.loop-i in
    residue-below c.args.table.p c.args.table.holds.0 l.x _ l.invariant.1

pub feed_four-x-requires-then-n-i-eq1 : goal.feed_four-x-requires-then-n-i-eq1
feed_four-x-requires-then-n-i-eq1 c =
    let y = c.square-x in
    (residue-below c.args.table.p c.args.table.holds.0 y.result _ y.ensures, omega arith)

pub loop-i-preserved-then-n-i-eq1 : goal.loop-i-preserved-then-n-i-eq1
loop-i-preserved-then-n-i-eq1 c =
    let l = c.loop-i in
    let four = c.feed_four-x-then-n-i-eq1.ensures ∙ ap (rem (polynomial c.args.table.p)) (four-zeros c.square-x.result) in
    let is = times_next (pos (goal.at.loop-i-preserved-then-n-i-eq1 c).Start) (2 ^ 32) c.args.n l.i l.x c.square-x.result (omega arith) l.invariant.1
    c.square-x.ensures in
    (omega arith, is _ four c.if-n-i-eq1.true)

pub loop-i-preserved : goal.loop-i-preserved
loop-i-preserved c =
    let l = c.loop-i in (
      omega arith,
      square-next (pos (goal.at.loop-i-preserved c).Start) (2 ^ 32) c.args.n l.i l.x _ (omega arith) l.invariant.1 c.square-x.ensures
          c.if-n-i-eq1.false,
    )

pub returns : goal.returns
returns c =
    let a = c.args in
    let key = polynomial a.table.p in
    let l = c.loop-i in
    let e : l.i ≡ 0 = omega arith in
    l.invariant.1
    ∙ ap (λ (i : ℕ). rem key ((2 ^ 32) ⊗^ (a.n / 2 ^ i))) e
    ∙ ap (λ (m : ℕ). rem key ((2 ^ 32) ⊗^ m)) (div-one a.n)
    ∙ ap (rem key) (pow-word 32 a.n)
