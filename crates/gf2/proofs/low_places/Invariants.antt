-- The bits of n from place i on are a number below k.
use Prim.Native.Nat.{◌/◌, ◌^◌, ◌<◌}
use Rattle.gf2.proofs.low_places.Given as goal

abbrev pub invariant-loop-i : goal.invariant-loop-i
invariant-loop-i l = l.n / 2 ^ l.i < l.k
