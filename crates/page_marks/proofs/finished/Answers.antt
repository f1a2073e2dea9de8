-- `finished` meets its contract: a residue stands for the number.
use mathlib.Core.Path.{◌≡◌, sym, ap, ◌∙◌}
use mathlib.Core.List.{List}
use Prim.Native.Nat.{ℕ, ◌<◌}
use native.Mathlib.Omega.{arith}
use lib.ListN.{length}
use lib.Seq.{take_all}
use borrow.Author.Tests.{eqb-true}
use Rattle.gf2.specs.Polynomials.{rem}
use Rattle.gf2.specs.Moduli.{polynomial}
use Rattle.gf2.proofs.Monics.{monic-pos}
use Rattle.gf2.proofs.Steps.{residue-lt}
use Rattle.files.specs.Files.{bits, value_from}
use Rattle.files.proofs.Values.{rem-from}
use Rattle.page_marks.proofs.finished.Goals as goal
use Rattle.page_marks.proofs.finished.Goals.{Start}

abbrev key : Start → ℕ
key s = polynomial s.args.table.p

pub returns-then-is_empty : goal.returns-then-is_empty
unfolding value_from bits
returns-then-is_empty c =
    c.residue-f.ensures
    ∙ ap (λ (q : List ℕ). rem (key (goal.at.returns-then-is_empty c).Start) (value_from c.args.x (bits q)))
    (take_all 0 c.args.rest.now (omega (arith, eqb-true (length c.args.rest.now) 0 (sym c.is_empty.ensures ∙ c.if-is_empty.true))))

pub fed-requires : goal.fed-requires
fed-requires c =
    below c.residue-f.ensures (residue-lt c.args.table.p.degree c.args.table.p.low c.args.table.holds.0.2 c.args.x)
  where
    below : {x y b : ℕ} → x ≡ y → y < b → x < b
    below e h = rw e h

pub returns : goal.returns
returns c =
    c.fed.ensures
    ∙ ap (λ (y : ℕ). rem (key (goal.at.returns c).Start) (value_from y (bits c.args.rest.now))) c.residue-f.ensures
    ∙ rem-from (monic-pos c.args.table.p.degree c.args.table.p.low c.args.table.holds.0.2) c.args.x (bits c.args.rest.now)
