use mathlib.Core.Path.{◌∙◌}
use Rattle.big_endian.proofs.Pieces.{value-one}
use Rattle.big_endian.proofs.byte_at.Goals as goal

pub returns : goal.returns
returns c = c.from.ensures ∙ value-one c.args.part.now c.args.i c.requires (c.type_inv.part c.args.i).fits
