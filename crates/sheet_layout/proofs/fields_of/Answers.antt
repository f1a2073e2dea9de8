-- `fields_of` meets its contract.
use mathlib.Core.Path.{◌≡◌, sym, subst, ◌∙◌}
use native.Mathlib.Omega.{arith}
use Rattle.std.proofs.Common.{rules}
use Rattle.sheets.specs.Layout.{Layout, layout_among}
use Rattle.sheets.proofs.Versions.{newest-is, other-is}
use Rattle.sheet_layout.specs.Laid.{LaidOut}
use Rattle.sheet_layout.proofs.fields_of.Goals as goal

pub returns-in-1 : goal.returns-in-1
unfolding layout_among
returns-in-1 c = rw c.in-1.is (search rules)

pub returns-in-2 : goal.returns-in-2
unfolding layout_among
returns-in-2 c = rw c.in-2.is (search rules)

pub returns-in-3 : goal.returns-in-3
unfolding layout_among
returns-in-3 c = rw c.in-3.is (search rules)

pub returns-in_default : goal.returns-in_default
returns-in_default c =
    let n = c.args.version in
    subst (λ (v : Layout). LaidOut v c.newest.result) (newest-is ∙ sym (other-is n (λ e. omega arith) (λ e. omega arith) (λ e. omega arith))) c.newest.ensures
