-- `page_by_table` meets its contract: under the house key the table is not needed.
use mathlib.Core.Path.{sym, ap, ◌∙◌}
use Prim.Native.Nat.{ℕ}
use lib.Pow.{pow-lt}
use Rattle.gf2.specs.Polynomials.{rem}
use Rattle.files.specs.Files.{bits, value_from}
use Rattle.feeding.proofs.page_by_table.Goals as goal

pub returns-then-is_house : goal.returns-then-is_house
returns-then-is_house c =
    let page = c.args.page.now in
    c.fed_page.ensures ∙ ap (λ (p : ℕ). rem p (value_from 1 (bits page))) (sym (c.is_house.ensures c.if-is_house.true).2)

-- the leading 1 is a residue
pub fed-requires : goal.fed-requires
fed-requires c = pow-lt {i = 0} {j = c.args.table.p.degree} c.args.table.holds.0.0
