-- After b turns the row has 2^b words, and y is the multiple by 2^b.
use mathlib.Core.Path.{refl, ap, ◌∙◌}
use Prim.Native.Nat.{ℕ, ◌+◌, ◌*◌, ◌<◌}
use native.Mathlib.Nat.{pow-suc}
use native.Mathlib.Numerals.{add-one}
use native.Mathlib.Omega.{arith}
use lib.ListN.{length, length-set}
use lib.Pow.{pow_pos}
use Rattle.gf2.specs.Polynomials.{◌⊗◌, rem}
use Rattle.gf2.specs.Moduli.{polynomial}
use Rattle.gf2.proofs.Monics.{monic-pos, monic-degree}
use Rattle.gf2.proofs.Steps.{residue-below}
use Rattle.multiples.proofs.Doubling.{row_more, row_one, row_kept, shifted-kept, double-le, multiple-one, multiple-next}
use Rattle.multiples.proofs.fill_row.Goals as goal

pub loop-init : goal.loop-init
loop-init c =
    let a = c.args in
    let p = c.requires in
    let m = p.0.2 in
    let pos = monic-pos a.p.degree a.p.low m in
    let l : a.at < length a.words.now = omega (arith, pow_pos a.width) in
    (refl, multiple-one pos a.x (rw (monic-degree a.p.degree a.p.low m) p.1), row_one pos a.x a.at a.words.now l, λ i h. refl, λ i h. refl)

pub double-requires : goal.double-requires
double-requires c =
    let e = simp length-set at c.loop.auto.words in
    omega (arith, double-le c.loop-test.true)

pub step-y-requires : goal.step-y-requires
step-y-requires c =
    let a = c.args in
    let l = c.loop in
    (c.requires.0, residue-below a.p c.requires.0 l.y (l.n ⊗ a.x) l.invariant.1, omega arith)

pub overflow_mul-n : goal.overflow_mul-n
overflow_mul-n c = omega (arith, double-le c.loop-test.true)

pub loop-preserved : goal.loop-preserved
loop-preserved c =
    let a = c.args in
    let l = c.loop in
    let v = l.invariant in
    let d = c.double in
    let pos = monic-pos a.p.degree a.p.low c.requires.0.2 in
    let same = d.ensures.1 in
    let room = double-le c.loop-test.true in (
      rw (add-one, pow-suc, v.0),
      c.step-y.ensures ∙ ap (λ (y : ℕ). rem (polynomial a.p) (y * 2 + 0)) v.1 ∙ multiple-next pos a.x l.n,
      row_more pos a.x a.at l.counter l.n l.y d.new.words v.0 v.1
          (row_kept (polynomial a.p) a.x a.at l.n l.words d.new.words same v.2)
          (shifted-kept a.at l.n l.y l.words d.new.words same d.ensures.0),
      λ i h. same i (omega arith) ∙ v.3 i h,
      λ i h. d.ensures.2 i (omega (arith, room, v.0, h)) ∙ v.4 i h,
    )
