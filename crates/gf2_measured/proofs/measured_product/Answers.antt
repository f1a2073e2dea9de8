-- The product's contract, at the low bits of both numbers.
use Rattle.gf2_measured.proofs.measured_product.Goals as goal

pub returns : goal.returns
returns c = simp (c.product.ensures, c.low_bits-2.ensures, c.low_bits.ensures)
