-- `step` is a residue below 2 ^ 8.
use native.Mathlib.Omega.{arith}
use Rattle.gf2.proofs.Steps.{residue-lt}
use Rattle.gf2_vectors.proofs.step.Goals as goal

pub returns : goal.returns
returns c = rw c.step.ensures (residue-lt 8 27 (omega arith) _)
