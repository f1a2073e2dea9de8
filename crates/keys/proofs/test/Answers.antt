-- `test` meets its contract.
use mathlib.Core.Path.{◌≡◌, sym, ap, ◌∙◌}
use mathlib.Core.Bool.{false}
use native.Mathlib.Omega.{arith}
use Rattle.gf2.specs.Polynomials.{monic}
use Rattle.refusals.specs.Refusals.{Done}
use Rattle.refusals.proofs.Laws.{holds, fails}
use Rattle.acceptance.specs.declared.Key.{Key}
use Rattle.acceptance.specs.Keys.{reducible, accepted, polynomial_of, as_modulus, outside}
use Rattle.acceptance.proofs.Laws.{in_range, range-key, key_iff}
use Rattle.stock.specs.Stock.{stock_word}
use Rattle.stock.proofs.Table.{stock_smallest, stock_whole}
use Rattle.keys.specs.Testing.{test_key}
use Rattle.keys.proofs.test.Goals as goal
use Rattle.keys.proofs.test.Goals.{Else-out_of_range}

-- number 1 does not apply
inside : (c : Else-out_of_range) → outside c.args.key ≡ false
inside c = sym c.out_of_range.ensures ∙ c.if-out_of_range.false

-- the stock key of a degree is accepted
stock-clear : (x : Key) → outside x ≡ false → x.word ≡ stock_word x.degree → reducible (polynomial_of x) ≡ false
stock-clear x e w =
    let r = in_range x e in
    let a = (stock_smallest x.degree r.0 r.1).is-accepted in
    ((key_iff x).1 (ap accepted (ap (monic x.degree) w ∙ stock_whole x.degree r.0 r.1) ∙ a, range-key x e)).1

-- where no test of the key holds, the answer is the key opened
accepted-is : (x : Key) → outside x ≡ false → reducible (polynomial_of x) ≡ false → Done (as_modulus x) ≡ test_key x
unfolding test_key
accepted-is x a b = sym (rw (a, b))

pub returns-then-out_of_range : goal.returns-then-out_of_range
unfolding test_key
returns-then-out_of_range c = let x = c.args.key in sym (rw (sym c.out_of_range.ensures ∙ c.if-out_of_range.true))

pub returns-then-is_stock : goal.returns-then-is_stock
returns-then-is_stock c =
    let x = c.args.key in
    accepted-is x (inside (goal.at.returns-then-is_stock c).Else-out_of_range)
    (stock-clear x (inside (goal.at.returns-then-is_stock c).Else-out_of_range) (c.is_stock.ensures c.if-is_stock.true))

pub irreducible-requires : goal.irreducible-requires
irreducible-requires c =
    let r = in_range c.args.key (inside (goal.at.irreducible-requires c).Else-out_of_range) in
    (omega (arith, r.0), r.1, r.2)

pub returns-then-not-irreducible : goal.returns-then-not-irreducible
unfolding test_key
returns-then-not-irreducible c =
    let x = c.args.key in
    let i = c.irreducible in
    rw (inside (goal.at.returns-then-not-irreducible c).Else-out_of_range, holds i.result (reducible (polynomial_of x)) i.ensures c.if-not-irreducible.true-raw)

pub returns : goal.returns
returns c =
    let x = c.args.key in
    let i = c.irreducible in
    accepted-is x (inside (goal.at.returns c).Else-out_of_range) (fails i.result (reducible (polynomial_of x)) i.ensures c.if-not-irreducible.false-raw)
