-- `word` is a residue below 2 ^ 8.
use borrow.Author.Rules.{rules}
use native.Mathlib.Omega.{arith}
use Rattle.gf2.proofs.Steps.{residue-lt}
use Rattle.gf2_vectors.proofs.word.Goals as goal

pub product-requires : goal.product-requires
product-requires c = (search rules, search rules, rw c.power_of_t-power.ensures (residue-lt 8 27 (omega arith) _))

pub returns : goal.returns
returns c = rw c.product.ensures (residue-lt 8 27 (omega arith) _)
