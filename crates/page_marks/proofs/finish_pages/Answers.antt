-- `finish_pages` meets its contract: the numbers before place i are fingerprints, the others as they were.
use mathlib.Core.Path.{ap, ◌∙◌}
use native.Mathlib.Omega.{arith}
use lib.ListN.{length-set}
use lib.Seq.{get_or-set_other}
use Rattle.gf2.specs.Polynomials.{rem}
use Rattle.gf2.specs.Moduli.{polynomial}
use Rattle.gf2.proofs.Monics.{monic-pos}
use Rattle.page_marks.proofs.Marks.{finished_more, page_finished}
use Rattle.page_marks.proofs.finish_pages.Goals as goal

pub loop-i-preserved : goal.loop-i-preserved
loop-i-preserved c =
    let l = c.loop-i in
    let a = c.args in
    let x = c.finished in
    let key = polynomial a.table.p in
    let begun = ap (rem key) (l.invariant.2 l.i (omega arith)) ∙ c.requires.2 l.i (omega arith) in (
      simp length-set l.invariant.0,
      finished_more key a.size a.whole a.pages.now l.marks l.i x.result (omega arith) l.invariant.1
          (page_finished (monic-pos a.table.p.degree a.table.p.low a.table.holds.0.2) a.size a.whole l.i a.pages.now _ x.result c.requires.0 begun x.ensures),
      λ j b. get_or-set_other l.marks l.i j x.result 0 (λ e. omega (arith, e, b)) ∙ l.invariant.2 j (omega (arith, b)),
    )
