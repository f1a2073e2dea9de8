-- `draw::minimal_polynomial` meets its contract: the relation among the powers is the polynomial that e draws.
use Rattle.gf2.specs.Moduli.{polynomial}
use Rattle.draw.proofs.Evaluation.{none-smaller, one-there, relation_drawn}
use Rattle.draw.proofs.minimal_polynomial.Goals as goal

pub powers-rows-requires : goal.powers-rows-requires
powers-rows-requires c = (c.requires.0, c.requires.4)

pub relation_by-requires : goal.relation_by-requires
relation_by-requires c =
    let a = c.args in
    let p = c.requires in
    let n = c.powers-rows in (
      p.1,
      none-smaller (polynomial a.p) a.p.degree p.2 a.e p.3 p.4 p.1 n.result n.ensures,
      one-there (polynomial a.p) a.p.degree p.2 a.e p.3 p.4 p.1 n.result n.ensures,
    )

pub returns : goal.returns
returns c =
    let a = c.args in
    let p = c.requires in
    let n = c.powers-rows in
    let r = c.relation_by in
    relation_drawn (polynomial a.p) a.p.degree p.2 a.e p.3 p.4 p.1 n.result n.ensures r.result r.ensures.0 r.ensures.1
