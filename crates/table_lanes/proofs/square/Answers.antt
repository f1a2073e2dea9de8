-- `square` meets its contract.
use mathlib.Core.Path.{ap, ◌∙◌}
use Prim.Native.Nat.{ℕ, ◌+◌, ◌*◌, ◌/◌, ◌%◌, ◌^◌}
use native.Mathlib.Omega.{arith}
use Rattle.gf2.specs.Polynomials.{rem}
use Rattle.gf2.specs.Moduli.{polynomial}
use Rattle.gf2.proofs.Monics.{monic-pos}
use Rattle.gf2.proofs.Steps.{residue-below}
use Rattle.table_lanes.proofs.Powers.{high-below, square-halves}
use Rattle.table_lanes.proofs.square.Goals as goal

pub feed_four-f-requires : goal.feed_four-f-requires
feed_four-f-requires c =
    (rw c.square-high.ensures (high-below c.args.table.p.degree c.args.x c.args.table.holds.0.1 c.requires), omega arith)

pub feed_four-requires : goal.feed_four-requires
feed_four-requires c =
    (residue-below c.args.table.p c.args.table.holds.0 c.feed_four-f.result _ c.feed_four-f.ensures, omega arith)

pub returns : goal.returns
returns c =
    let key = polynomial c.args.table.p in
    c.feed_four.ensures
    ∙ ap (λ (f : ℕ). rem key (f * 2 ^ 32 + c.square-low.result % 4294967296))
    (c.feed_four-f.ensures ∙ ap (λ (h : ℕ). rem key (h * 2 ^ 32 + c.square-low.result / 4294967296)) c.square-high.ensures)
    ∙ square-halves (monic-pos c.args.table.p.degree c.args.table.p.low c.args.table.holds.0.2) c.args.x c.square-low.result c.square-low.ensures
