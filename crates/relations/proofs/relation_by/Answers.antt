use Rattle.std.proofs.Common.{◌≡◌, ◌*◌, ◌%◌, ◌^◌, arith, rules}
use Rattle.gf2.specs.Polynomials.{◌⊕◌}
use Rattle.gf2.proofs.Steps.{shifted_one}
use Rattle.relations.proofs.Relations.{kept-start, pivot, kept-turn, relation_found}
use Rattle.relations.proofs.relation_by.Goals as goal

pub loop-i-init : goal.loop-i-init
loop-i-init c = kept-start c.args.rows c.args.k c.requires.0 (search rules) c.requires.2

pub lowest_one-c-requires : goal.lowest_one-c-requires
lowest_one-c-requires c =
    let l = c.loop-i in
    pivot c.args.rows c.args.k c.requires.0 l.i l.work l.sums l.invariant c.loop-i-test.true c.requires.1

pub loop-i-preserved : goal.loop-i-preserved
unfolding ◌⊕◌
loop-i-preserved c =
    let clear = c.clear_with_sums in
    let one = c.lowest_one-c in
    let l = c.loop-i in
    let below = c.requires.0 in
    let taken = c.loop-i-test.true in
    kept-turn c.args.rows c.args.k below l.i l.work l.sums l.invariant taken one.result one.ensures.2
    clear.new.rows clear.new.sums clear.ensures.0 (rw (shifted_one l.i (omega arith)) at clear.ensures.1)

pub returns : goal.returns
unfolding ◌⊕◌
returns c =
    let l = c.loop-i in
    let reached = l.invariant.reached in
    let left = c.loop-i-test.false in
    let e : l.i ≡ c.args.k = omega arith in
    relation_found c.args.rows c.args.k c.requires.0 l.work l.sums (rw e at l.invariant) (1 * 2 ^ c.args.k % 2 ^ 64)
    (shifted_one c.args.k c.requires.0)
