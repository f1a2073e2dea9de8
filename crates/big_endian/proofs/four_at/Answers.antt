use mathlib.Core.Path.{◌∙◌}
use Rattle.big_endian.proofs.Pieces.{value-four}
use Rattle.big_endian.proofs.four_at.Goals as goal

pub returns : goal.returns
returns c = c.from_be_bytes.ensures ∙ value-four c.args.part.now c.args.i c.requires (λ j. (c.type_inv.part j).fits)
