use Prim.Native.Nat.{◌<◌}
use Rattle.gf2_vectors.proofs.fed.Given as goal

abbrev pub invariant-loop-i : goal.invariant-loop-i
invariant-loop-i l = l.x < 256
