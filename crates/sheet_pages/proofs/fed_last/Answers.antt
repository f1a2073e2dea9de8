-- `fed_last` meets its contract: the whole bytes, and the used bits behind them.
use mathlib.Core.Path.{◌≡◌, sym, ap, ◌∙◌}
use Prim.Native.Nat.{ℕ}
use lib.ListN.{take}
use Rattle.gf2.specs.Polynomials.{rem}
use Rattle.gf2.specs.Moduli.{polynomial}
use Rattle.gf2.specs.declared.Modulus.{Modulus}
use Rattle.gf2.proofs.Monics.{monic-pos}
use Rattle.gf2.proofs.Steps.{residue-below}
use Rattle.files.specs.Files.{bits, value_from, as_part, fingerprint_from}
use Rattle.files.proofs.Computing.{part-behind}
use Rattle.sheet_pages.proofs.fed_last.Goals as goal
use Rattle.sheet_pages.proofs.fed_last.Goals.{in-None, in-Some, Joined-tables}

-- the whole bytes behind the leading 1, by either way
front-is : (c : Joined-tables)
    → c.match-tables.front ≡ rem (polynomial c.args.x.p) (value_from 1 (bits (take c.whole_bytes-whole.result c.args.page.now)))
front-is c =
    elim c.match-tables.branch [
      | in-None w ↦
          w.front-is ∙ w.fed_page-front.ensures
          ∙ ap (λ (k : ℕ). rem k (value_from 1 (bits (take c.whole_bytes-whole.result c.args.page.now)))) (sym (rw w.in-None.is at c.requires.0.way))
      | in-Some w ↦
          w.front-is ∙ w.page_by_table-front.ensures
          ∙ ap (λ (p : Modulus). rem (polynomial p) (value_from 1 (bits (take c.whole_bytes-whole.result c.args.page.now))))
          (rw w.in-Some.is at c.requires.0.way)
    ]

pub feed_end-requires : goal.feed_end-requires
feed_end-requires c =
    (c.requires.0.proper, residue-below c.args.x.p c.requires.0.proper _ _ (front-is (goal.at.feed_end-requires c).Joined-tables), c.requires.1)

pub returns : goal.returns
unfolding fingerprint_from
returns c =
    let a = c.args in
    c.feed_end.ensures
    ∙ part-behind (monic-pos a.x.p.degree a.x.p.low c.requires.0.proper.2) 1 (as_part a.page.now a.x.used) _ _ c.whole_bytes-whole.ensures.0
    (front-is (goal.at.returns c).Joined-tables)
