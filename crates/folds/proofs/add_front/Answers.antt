-- `add_front` meets its contract: i bytes are added, and neither those before place `at` nor those behind have changed.
use mathlib.Core.Path.{◌≡◌, refl, sym, ap, ◌∙◌}
use Prim.Native.Nat.{ℕ, ◌+◌}
use native.Mathlib.Omega.{arith}
use lib.ListN.{length-set}
use Rattle.gf2.specs.Polynomials.{◌⊕◌}
use Rattle.gf2.proofs.Sums.{⊕-zero}
use Rattle.fold_blocks.specs.Folds.{front}
use Rattle.fold_blocks.proofs.Folding.{Bytes, front-zero}
use Rattle.folds.proofs.Remainders.{added-before, added-behind, added_next}
use Rattle.folds.proofs.add_front.Goals as goal

pub loop-i-init : goal.loop-i-init
loop-i-init c =
    let a = c.args in
    (refl, refl, refl, sym (ap (λ (x : ℕ). front a.q.now (a.at + 0) ⊕ x) (front-zero a.q.now) ∙ ⊕-zero (front a.q.now (a.at + 0))))

pub loop-i-preserved : goal.loop-i-preserved
unfolding ◌⊕◌
loop-i-preserved c =
    let a = c.args in
    let l = c.loop-i in
    let i = l.invariant in
    let bytes : Bytes l.q = λ j. (c.slice_known-in-loop-i-1.given j).fits in (
      simp length-set i.0,
      added-before a.q.now l.q bytes a.at a.n l.i c.requires.0 (omega arith) i.0 c.requires.1 i.1 i.2,
      added-behind a.q.now l.q bytes a.at a.n l.i c.requires.0 (omega arith) i.0 c.requires.1 i.1 i.2,
      added_next a.q.now l.q bytes a.at a.n l.i c.requires.0 (omega arith) i.0 c.requires.1 i.1 i.2 i.3,
    )

pub returns : goal.returns
returns c =
    let a = c.args in
    let l = c.loop-i in
    let e : l.i ≡ a.n = omega arith in
    (ap (λ (j : ℕ). front l.q (a.at + j)) (sym e) ∙ l.invariant.3 ∙ ap (λ (j : ℕ). front a.q.now (a.at + j) ⊕ front a.q.now j) e, l.invariant.1)
