use mathlib.Core.Path.{◌≡◌, refl, sym, ap, ◌∙◌}
use Prim.Native.Nat.{◌+◌, ◌-◌, ◌*◌, ◌/◌, ◌^◌}
use native.Mathlib.Omega.{arith}
use lib.Pow.{pow-lt}
use Rattle.gf2.specs.Moduli.{polynomial}
use Rattle.lists.specs.Lists.{list_from}
use Rattle.gf2.proofs.Monics.{monic-pos}
use Rattle.gf2.proofs.Steps.{residue-lt, residue-small, shifted_one}
use Rattle.irreducibility.specs.Squares.{square}
use Rattle.irreducibility.proofs.Filling.{fill, next-square}
use Rattle.irreducibility.proofs.square_rows.Goals as goal

pub loop-row-init : goal.loop-row-init
unfolding square list_from
loop-row-init c =
    let p = c.args.p in
    let h = p.degree - p.degree / 2 in
    let e : 2 * (h - 1 + 0) ≡ 2 * h - 2 = omega arith in
    (shifted_one (2 * h - 2) (omega arith) ∙ rw e (sym (residue-small p.degree p.low c.requires.0.2 (2 ^ (2 * h - 2)) (pow-lt (omega arith)))), refl)

pub step-requires : goal.step-requires
unfolding square
step-requires c =
    let a = c.args in
    let m = c.requires.0 in
    (m, rw c.loop-row.invariant.0 (residue-lt a.p.degree a.p.low m.2 _), omega arith)

pub step-w-requires : goal.step-w-requires
step-w-requires c =
    let a = c.args in
    let m = c.requires.0 in
    (m, rw c.step.ensures (residue-lt a.p.degree a.p.low m.2 (c.loop-row.w * 2 + 0)), omega arith)

pub loop-row-preserved : goal.loop-row-preserved
loop-row-preserved c =
    let a = c.args in
    let m = c.requires.0 in
    let l = c.loop-row in
    let i = l.row-index in
    let p = polynomial a.p in
    let h = a.p.degree - a.p.degree / 2 in
    let next : c.step-w.result ≡ square p (h - 1 + i + 1) =
    next-square p (monic-pos a.p.degree a.p.low m.2) (h - 1 + i) l.w _ _ l.invariant.0 c.step.ensures c.step-w.ensures in
    let e₁ : h - 1 + i + 1 ≡ h - 1 + (i + 1) = omega arith in
    let e₂ : h - 1 + i + 1 ≡ h + i = omega arith in
    (next ∙ ap (square p) e₁, rw l.invariant.1 (fill (square p) h i a.rows.now c.step-w.result (omega arith) (next ∙ ap (square p) e₂)))
