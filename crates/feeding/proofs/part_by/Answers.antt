-- `part_by` meets its contract: the whole bytes, and the used bits behind them.
use mathlib.Core.Path.{◌∙◌}
use lib.ListN.{take}
use Rattle.std.proofs.Common.{rules}
use Rattle.gf2.specs.Moduli.{polynomial}
use Rattle.gf2.proofs.Monics.{monic-pos}
use Rattle.gf2.proofs.Steps.{residue-lt}
use Rattle.files.specs.Files.{as_part}
use Rattle.files.proofs.Computing.{whole-behind, part-behind}
use Rattle.feeding.proofs.part_by.Goals as goal

-- whole bytes
pub returns-then-used-eq8 : goal.returns-then-used-eq8
returns-then-used-eq8 g c =
    let a = c.args in
    c.requires.feeds a.part.now c.bytes.result (search rules) ∙ whole-behind (polynomial a.p) a.f a.part.now a.used c.if-used-eq8.true

pub feed_end-requires : goal.feed_end-requires
feed_end-requires g c =
    let p = c.args.p in
    let given = c.requires.given in
    let fed = c.requires.feeds (take c.whole_bytes-whole.result c.args.part.now) c.bytes-x.result (search rules) in
    (given.0, rw fed (residue-lt p.degree p.low given.0.2 _), given.2)

pub returns : goal.returns
returns g c =
    let a = c.args in
    let fed = c.requires.feeds (take c.whole_bytes-whole.result a.part.now) c.bytes-x.result (search rules) in
    c.feed_end.ensures
    ∙ part-behind (monic-pos a.p.degree a.p.low c.requires.given.0.2) a.f (as_part a.part.now a.used) _ _ c.whole_bytes-whole.ensures.0 fed
