-- `within` meets its contract.
use borrow.Author.Tests.{lt-ltb, le-ltb}
use Rattle.refusals.proofs.Lengths.{one-within}
use Rattle.refusals.proofs.within.Goals as goal

pub returns-then-x-gt-LONGEST : goal.returns-then-x-gt-LONGEST
returns-then-x-gt-LONGEST c = rw (lt-ltb _ _ c.if-x-gt-LONGEST.true)

pub returns-then-y-gt-LONGEST : goal.returns-then-y-gt-LONGEST
returns-then-y-gt-LONGEST c = rw (le-ltb _ _ c.if-x-gt-LONGEST.false, lt-ltb _ _ c.if-y-gt-LONGEST.true)

pub returns : goal.returns
returns c = rw (le-ltb _ _ c.if-x-gt-LONGEST.false, le-ltb _ _ c.if-y-gt-LONGEST.false) (one-within c.args.z)
