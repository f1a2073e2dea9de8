-- `fits` meets its contract.
use native.Mathlib.Omega.{arith}
use Rattle.refusals.proofs.Lengths.{sum-passes, room}
use Rattle.refusals.proofs.fits.Goals as goal

pub returns-then-a-gt-LONGEST : goal.returns-then-a-gt-LONGEST
returns-then-a-gt-LONGEST c = let a = c.args in rw (sum-passes a.a a.b (omega arith))

pub returns : goal.returns
returns c = room c.args.a c.args.b (omega arith)
