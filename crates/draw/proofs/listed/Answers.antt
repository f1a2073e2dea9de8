-- `draw::listed` meets its contract: the match names the degrees of the list.
use Rattle.lists.proofs.Searches.{one-among, none-among}
use Rattle.draw.specs.Drawing.{degrees}
use Rattle.draw.proofs.listed.Goals as goal

pub returns-in-11 : goal.returns-in-11
returns-in-11 c = one-among degrees c.args.degree c.in-11.is

pub returns-in_default : goal.returns-in_default
returns-in_default c = none-among degrees c.args.degree c.in_default.in_default-own.rest.1
