-- `fold` meets its contract: what the words in front stand for, with the rest of the part behind it, has the residue of the whole.
use mathlib.Core.Path.{sym, ◌∙◌}
use Rattle.house.specs.House.{house_key}
use Rattle.fold_blocks.specs.Folds.{exponents, folded}
use Rattle.fold_blocks.proofs.Folding.{block_before, nothing_behind}
use Rattle.fold_blocks.proofs.House.{house-pos}
use Rattle.fold_blocks.proofs.fold.Goals as goal

pub loop-block-preserved : goal.loop-block-preserved
loop-block-preserved c =
    let a = c.args in
    let l = c.loop-block in
    let t = c.turn in
    let e = c.in-Some.ensures.steps in (
      e.0 ∙ l.invariant.0,
      t.auto.q ∙ l.invariant.1,
      block_before house-pos l.block-iterator.rest.now c.in-Some.block.now c.next.new.self.rest.now (folded exponents a.s l.q 0)
          (folded exponents a.s t.new.q 0)
          e.1.0
          t.ensures
          ∙ l.invariant.2,
    )

pub returns : goal.returns
returns c =
    let a = c.args in
    let l = c.loop-block in
    sym (nothing_behind house_key (folded exponents a.s l.q 0) l.block-iterator.rest.now c.in-None.ensures.steps.1.0) ∙ l.invariant.2
