-- `draw::powers` meets its contract. The loop's invariant: the powers before the i-th are in, and the i-th is at hand, modulo whatever
-- `times_e` is multiplication by e. The measure is the number of powers that are left.
use mathlib.Core.Path.{◌≡◌, sym, ◌∙◌}
use Prim.Native.Nat.{◌+◌, ◌^◌}
use native.Mathlib.Omega.{arith}
use borrow.Author.Rules.{rules}
use lib.ListN.{length-set}
use Rattle.gf2.specs.Moduli.{polynomial}
use Rattle.gf2.specs.declared.Modulus.{Modulus}
use Rattle.fields.specs.Fields.{at}
use Rattle.basis.proofs.Matrices.{filling-next, filling_matrix}
use Rattle.draw.proofs.Evaluation.{Times, value-additive, first-power, next_power, value-word}
use Rattle.draw.proofs.powers.Goals as goal
use Rattle.draw.proofs.powers.Goals.{After-sum_of-power}

-- the next power
turned : (c : After-sum_of-power) (p : Modulus)
    → Times p c.args.e c.multiples.result
    → c.sum_of-power.result ≡ at (polynomial p) (2 ^ (c.loop-i.i + 1)) c.args.e
turned c p t =
    let e = c.args.e in
    let l = c.loop-i in
    let h = (l.invariant.2 p t).0 in
    let word = rw (← h) at (value-word p t.0 e (2 ^ l.i)) in
    c.sum_of-power.ensures ∙ t.2 l.power word ∙ next_power p t.0 e t.1 l.i l.power h

pub multiples-requires : goal.multiples-requires
multiples-requires c = c.requires

pub loop-i-init : goal.loop-i-init
loop-i-init c = (omega arith, search rules, λ p t. (sym (first-power p t.0 c.args.e), λ j l. absurd (omega arith)))

pub loop-i-preserved : goal.loop-i-preserved
loop-i-preserved c =
    let l = c.loop-i in (
      omega arith,
      length-set l.rows l.i l.power ∙ l.invariant.1,
      λ p t. filling-next (value-additive p t.0 c.args.e) l.rows l.power l.i (omega arith) (l.invariant.2 p t) _
          (turned (goal.at.loop-i-preserved c).After-sum_of-power p t),
    )

pub returns : goal.returns
returns c =
    let p = c.args.p in
    let l = c.loop-i in
    filling_matrix (value-additive p c.requires.0 c.args.e) l.rows l.power l.i l.invariant.1 (omega arith)
    (l.invariant.2 p (c.requires.0, c.requires.1, c.multiples.ensures))
