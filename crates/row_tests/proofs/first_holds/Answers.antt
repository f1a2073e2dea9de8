-- The sum is 0 where the first 2^b words are the row.
use mathlib.Core.Path.{refl, ap, ◌∙◌}
use Prim.Native.Nat.{ℕ, ◌+◌, ◌*◌}
use native.Mathlib.Omega.{arith}
use native.Mathlib.Nat.{pow-suc}
use native.Mathlib.Numerals.{add-one}
use Rattle.gf2.specs.Polynomials.{◌⊗◌, rem}
use Rattle.gf2.specs.Moduli.{polynomial}
use Rattle.gf2.proofs.Monics.{monic-pos, monic-degree}
use Rattle.multiples.specs.Rows.{Shifted}
use Rattle.multiples.proofs.Doubling.{or_iff, iff_trans, row_iff_one, row_iff, double-le, multiple-one, multiple-next}
use Rattle.gf2.proofs.Steps.{residue-below}
use Rattle.row_tests.proofs.first_holds.Goals as goal

pub loop-init : goal.loop-init
loop-init c =
    let a = c.args in
    let p = c.requires in
    let pos = monic-pos a.p.degree a.p.low p.0.2 in
    (refl, multiple-one pos a.x (rw (monic-degree a.p.degree a.p.low p.0.2) p.1), row_iff_one pos a.x a.at a.words.now)

pub differences-sum-requires : goal.differences-sum-requires
differences-sum-requires c = omega (arith, c.loop.invariant.0, c.requires.2, double-le c.loop-test.true)

pub step-y-requires : goal.step-y-requires
step-y-requires c =
    let a = c.args in
    let l = c.loop in
    (c.requires.0, residue-below a.p c.requires.0 l.y (l.n ⊗ a.x) l.invariant.1, omega arith)

pub overflow_mul-n : goal.overflow_mul-n
overflow_mul-n c = omega (arith, c.loop.invariant.0, c.requires.2, double-le c.loop-test.true)

pub loop-preserved : goal.loop-preserved
loop-preserved c =
    let a = c.args in
    let l = c.loop in
    let v = l.invariant in
    let d = c.differences-sum in
    let pos = monic-pos a.p.degree a.p.low c.requires.0.2 in (
      rw (add-one, pow-suc, v.0),
      c.step-y.ensures ∙ ap (λ (y : ℕ). rem (polynomial a.p) (y * 2 + 0)) v.1 ∙ multiple-next pos a.x l.n,
      iff_trans (or_iff l.sum d.result {Q = Shifted a.at (a.at + l.n) l.n l.y a.words.now a.words.now} v.2 d.ensures)
          (row_iff pos a.x a.at a.words.now l.counter l.n l.y v.0 v.1),
    )
