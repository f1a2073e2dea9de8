-- `newest` meets its contract.
use Rattle.std.proofs.Common.{rules}
use Rattle.sheets.specs.Layout.{layout_among}
use Rattle.sheet_layout.proofs.newest.Goals as goal

pub returns : goal.returns
unfolding layout_among
returns c = search rules
