-- `input_feeding::feed_rest` meets its contract: the mark grows up to the limit, the buffer keeps its length, and the parts that the reads gave are fed.
use mathlib.Core.Path.{◌≡◌, subst}
use native.Mathlib.Omega.{arith}
use borrow.Author.Rules.{rules}
use Rattle.std.proofs.Common.{Some, Ok, Err}
use Rattle.input_calls.specs.declared.Got.{Got}
use Rattle.input_feeding.specs.Turns.{Turned}
use Rattle.input_feeding.proofs.Feeds.{Step, at_first, Turn, turn_of}
use Rattle.input_feeding.proofs.feed_rest.Goals as goal
use Rattle.input_feeding.proofs.feed_rest.Goals.{After-turn}

-- what the turn left of the read before it
facts : (c : After-turn) → Turn c.args.start c.args.words.now c.args.input c.loop-next.m c.read_some-input.result c.turn.result
facts c =
    let r = c.read_some-input in
    turn_of c.args.start c.args.words.now c.args.input c.loop-next.m c.loop-next.input c.loop-next.invariant.1 r.result r.new.buffer r.ensures.read
    c.turn.result (subst (λ (g : Got). Turned g c.loop-next.m c.args.words.now r.new.buffer c.turn.result) c.last.ensures c.turn.ensures) r.ensures.fact

pub loop-next-init : goal.loop-next-init
loop-next-init c = (search rules, at_first c.args.start c.args.words.now c.args.input)

pub loop-next-smaller : goal.loop-next-smaller
loop-next-smaller c =
    let e : ◌≡◌ {A = Step} c.turn.result (Ok (Some c.in-Ok-Some.next)) = cc in
    omega (arith, ((facts (goal.at.loop-next-smaller c).After-turn).goes_on _ e).1)

pub loop-next-preserved : goal.loop-next-preserved
loop-next-preserved c =
    let e : ◌≡◌ {A = Step} c.turn.result (Ok (Some c.in-Ok-Some.next)) = cc in
    (search rules, ((facts (goal.at.loop-next-preserved c).After-turn).goes_on _ e).0)

pub returns-in-Err : goal.returns-in-Err
returns-in-Err c =
    let e : ◌≡◌ {A = Step} c.turn.result (Err c.in-Err.unfed) = cc in
    rw c.into.ensures ((facts (goal.at.returns-in-Err c).After-turn).stops _ e)
