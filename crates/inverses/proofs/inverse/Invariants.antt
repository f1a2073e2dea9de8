-- `inverse` meets its contract. The modulus is 2h + 1. The measure is r + s.
use Prim.Native.Nat.{◌+◌, ◌*◌}
use Rattle.inverses.specs.Euclid.{Related}
use Rattle.inverses.proofs.inverse.Given as goal

abbrev pub invariant-loop-x : goal.invariant-loop-x
invariant-loop-x l = Related (l.h * 2 + 1) l.a l.x

abbrev pub decreases-loop-x : goal.decreases-loop-x
decreases-loop-x l = l.x.r + l.x.s
