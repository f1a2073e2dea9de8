-- The sum is the product with the i low bits of b, and a is shifted by i places.
use mathlib.Core.Path.{◌≡◌, sym, ap, ◌∙◌}
use Prim.Native.Nat.{ℕ, ◌+◌, ◌*◌, ◌%◌, ◌^◌}
use native.Mathlib.Nat.{mul-one, mod-one, mod-eq_of_lt}
use native.Mathlib.Numerals.{add-one}
use native.Mathlib.Omega.{arith}
use Rattle.gf2.specs.Polynomials.{◌⊕◌, ◌⊗◌, rem}
use Rattle.gf2.specs.Moduli.{polynomial}
use Rattle.gf2.proofs.Products.{⊗-zero}
use Rattle.gf2.proofs.Residues.{rem-zero}
use Rattle.gf2.proofs.Monics.{monic-pos}
use Rattle.gf2.proofs.Steps.{residue-lt, residue-small, sum-next, shift-next}
use Rattle.gf2.proofs.product.Goals as goal

pub loop-i-init : goal.loop-i-init
loop-i-init c =
    let a = c.args in
    let p = c.requires in (
      sym (ap (rem (polynomial a.p)) (mul-one a.a) ∙ residue-small a.p.degree a.p.low p.0.2 a.a p.1),
      sym (ap (λ (x : ℕ). rem (polynomial a.p) (a.a ⊗ x)) (mod-one a.b) ∙ rw ⊗-zero (rem-zero (polynomial a.p))),
    )

pub step-shifted-requires : goal.step-shifted-requires
step-shifted-requires c =
    let l = c.loop-i in
    (c.requires.0, rw l.invariant.0 (residue-lt c.args.p.degree c.args.p.low c.requires.0.2 (c.args.a * 2 ^ l.i)), omega arith)

pub loop-i-preserved : goal.loop-i-preserved
unfolding ◌⊕◌
loop-i-preserved c =
    let a = c.args in
    let l = c.loop-i in
    let pos = monic-pos a.p.degree a.p.low c.requires.0.2 in (
      rw add-one (c.step-shifted.ensures ∙ ap (λ (x : ℕ). rem (polynomial a.p) (x * 2 + 0)) l.invariant.0 ∙ shift-next pos a.a l.i),
      sum-next pos a.a a.b l.i l.sum l.shifted l.invariant.0 l.invariant.1,
    )

pub returns : goal.returns
returns c =
    let a = c.args in
    let l = c.loop-i in
    let e : l.i ≡ a.p.degree = omega arith in
    let p = polynomial a.p in
    l.invariant.1 ∙ ap (λ (n : ℕ). rem p (a.a ⊗ (a.b % 2 ^ n))) e ∙ ap (λ (x : ℕ). rem p (a.a ⊗ x)) (mod-eq_of_lt c.requires.2)
