-- `draw::multiples` meets its contract. The loop's invariant: the rows before j are in, and x is row j. The measure is the number of rows that are left.
use mathlib.Core.Path.{sym, ap, ◌∙◌}
use Prim.Native.Nat.{◌^◌}
use native.Mathlib.Omega.{arith}
use borrow.Author.Rules.{rules}
use lib.ListN.{length-set}
use Rattle.gf2.specs.Polynomials.{◌⊗◌, rem}
use Rattle.gf2.specs.Moduli.{polynomial}
use Rattle.gf2.proofs.Products.{one-⊗}
use Rattle.gf2.proofs.Steps.{residue-lt, residue-small}
use Rattle.basis.proofs.Matrices.{filling-next, filling_matrix}
use Rattle.draw.proofs.Evaluation.{positive, times_additive, times_next}
use Rattle.draw.proofs.multiples.Goals as goal

pub loop-j-init : goal.loop-j-init
loop-j-init c =
    let a = c.args in (
      omega arith,
      search rules,
      (
        sym (ap (rem (polynomial a.p)) (one-⊗ a.a) ∙ residue-small a.p.degree a.p.low c.requires.0.2 a.a c.requires.1),
        λ i l. absurd (omega arith),
      ),
    )

pub step-x-requires : goal.step-x-requires
step-x-requires c =
    let l = c.loop-j in
    (c.requires.0, rw l.invariant.2.0 (residue-lt c.args.p.degree c.args.p.low c.requires.0.2 (2 ^ l.j ⊗ c.args.a)), omega arith)

pub loop-j-preserved : goal.loop-j-preserved
loop-j-preserved c =
    let pos = positive c.args.p c.requires.0 in
    let l = c.loop-j in
    let next = times_next pos c.args.a l.j l.x l.invariant.2.0 in (
      omega arith,
      length-set l.rows l.j l.x ∙ l.invariant.1,
      filling-next (times_additive pos c.args.a) l.rows l.x l.j (omega arith) l.invariant.2 _ (c.step-x.ensures ∙ next),
    )

pub returns : goal.returns
returns c =
    let l = c.loop-j in
    let add = times_additive (positive c.args.p c.requires.0) c.args.a in
    filling_matrix add l.rows l.x l.j l.invariant.1 (omega arith) l.invariant.2
