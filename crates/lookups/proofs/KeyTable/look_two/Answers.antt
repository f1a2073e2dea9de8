-- `look_two` meets its contract.
use native.Mathlib.Omega.{arith}
use Rattle.gf2.specs.Polynomials.{◌⊕◌}
use Rattle.lookups.proofs.Rule.{table-long}
use Rattle.lookups.proofs.Cut.{look_two}
use Rattle.lookups.proofs.KeyTable.look_two.Goals as goal

pub bounds-self-at : goal.bounds-self-at
bounds-self-at c =
    let t = c.args.self in
    omega (arith, c.requires, table-long t.p t.words.now t.holds)

pub bounds-self-at-2 : goal.bounds-self-at-2
bounds-self-at-2 c =
    let t = c.args.self in
    omega (arith, c.requires, table-long t.p t.words.now t.holds)

pub returns : goal.returns
unfolding ◌⊕◌
returns c = let a = c.args in look_two a.self.words.now a.row a.h
