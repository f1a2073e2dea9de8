-- `fill` meets its contract.
use mathlib.Core.Path.{ap, ◌∙◌}
use Prim.Native.Nat.{◌*◌, ◌^◌}
use native.Mathlib.Omega.{arith}
use Rattle.gf2.specs.Polynomials.{rem}
use Rattle.gf2.specs.Moduli.{polynomial}
use Rattle.gf2.proofs.Powers.{rem-rem}
use Rattle.gf2.proofs.Monics.{monic-pos}
use Rattle.gf2.proofs.Steps.{residue-below}
use Rattle.multiples.proofs.Following.{rows_same}
use Rattle.shifts.proofs.fill.Goals as goal

pub power_of_t-x-requires : goal.power_of_t-x-requires
power_of_t-x-requires c = c.requires.0

pub fill_rows-requires : goal.fill_rows-requires
fill_rows-requires c =
    let x = c.power_of_t-x in
    (c.requires.0, residue-below c.args.p c.requires.0 x.result _ x.ensures, omega arith, omega arith, omega (arith, c.requires.2))

pub shape_of-words : goal.shape_of-words
shape_of-words c = c.fill_rows.auto.words

pub returns : goal.returns
returns c =
    let x = c.power_of_t-x in
    let r = c.fill_rows in
    let key = polynomial c.args.p in
    let pos = monic-pos c.args.p.degree c.args.p.low c.requires.0.2 in
    let n = 2 ^ (8 * c.args.n) in
    record { long = r.auto.words ∙ c.requires.2; rows = rows_same pos 8 x.result n 8 r.new.words (ap (rem key) x.ensures ∙ rem-rem pos n) r.ensures.0 }
