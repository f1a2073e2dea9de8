-- x is the power by the bits of n from place i on.
use mathlib.Core.Path.{◌≡◌, sym, ap, ◌∙◌}
use Prim.Native.Nat.{ℕ, ◌+◌, ◌*◌, ◌/◌, ◌^◌}
use native.Mathlib.Nat.{add-zero, div-one}
use native.Mathlib.Omega.{arith}
use lib.Pow.{pow-lt}
use Rattle.gf2.specs.Polynomials.{◌⊗◌, rem}
use Rattle.gf2.specs.Powers.{◌⊗^◌}
use Rattle.gf2.specs.Moduli.{polynomial}
use Rattle.gf2.proofs.Products.{⊗-pow}
use Rattle.gf2.proofs.Powers.{pow-t}
use Rattle.gf2.proofs.Monics.{monic-pos}
use Rattle.gf2.proofs.Steps.{residue-lt, residue-small, square-next, times_next}
use Rattle.gf2.proofs.power_of_t.Goals as goal

double : (x : ℕ) → x * 2 + 0 ≡ x ⊗ 2
double x = add-zero (x * 2) ∙ sym (⊗-pow 1 x)

pub loop-i-init : goal.loop-i-init
loop-i-init c =
    let e = c.low_places-places.ensures in
    c.first_power-x.ensures ∙ sym (ap (rem (polynomial c.args.p)) (pow-t (c.args.n / 2 ^ c.low_places-places.result))
    ∙ residue-small c.args.p.degree c.args.p.low c.requires.2 (2 ^ (c.args.n / 2 ^ c.low_places-places.result)) (pow-lt e.1))

pub product-x-requires : goal.product-x-requires
product-x-requires c =
    let l = c.loop-i in
    let h = rw (← l.invariant) at (residue-lt c.args.p.degree c.args.p.low c.requires.2 (2 ⊗^ (c.args.n / 2 ^ l.i))) in
    (c.requires, h, h)

pub step-x-requires : goal.step-x-requires
step-x-requires c =
    let x = c.loop-i.x in
    (c.requires, rw c.product-x.ensures (residue-lt c.args.p.degree c.args.p.low c.requires.2 (x ⊗ x)), omega arith)

pub loop-i-preserved-then-n-i-eq1 : goal.loop-i-preserved-then-n-i-eq1
loop-i-preserved-then-n-i-eq1 c =
    let a = c.args in
    let l = c.loop-i in
    let y = c.product-x in
    let pos = monic-pos a.p.degree a.p.low c.requires.2 in
    let twice = c.step-x.ensures ∙ ap (rem (polynomial a.p)) (double y.result) in
    times_next pos 2 a.n l.i l.x y.result (omega arith) l.invariant y.ensures _ twice c.if-n-i-eq1.true

pub loop-i-preserved : goal.loop-i-preserved
loop-i-preserved c =
    let a = c.args in
    let l = c.loop-i in
    let pos = monic-pos a.p.degree a.p.low c.requires.2 in
    square-next pos 2 a.n l.i l.x _ (omega arith) l.invariant c.product-x.ensures c.if-n-i-eq1.false

pub returns : goal.returns
returns c =
    let a = c.args in
    let p = polynomial a.p in
    let l = c.loop-i in
    let e : l.i ≡ 0 = omega arith in
    l.invariant
    ∙ ap (λ (i : ℕ). rem p (2 ⊗^ (a.n / 2 ^ i))) e
    ∙ ap (λ (m : ℕ). rem p (2 ⊗^ m)) (div-one a.n)
    ∙ ap (rem p) (pow-t a.n)
