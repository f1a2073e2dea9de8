-- What is left of the part, fed to x, gives what the whole part gives behind f.
use mathlib.Core.Path.{sym, ◌∙◌}
use native.Mathlib.Omega.{arith}
use lib.ListN.{drop_of_length-le}
use Rattle.gf2.proofs.Monics.{monic-pos}
use Rattle.gf2.proofs.Steps.{residue-lt, residue-small}
use Rattle.files.specs.Files.{bits, value_from}
use Rattle.files.proofs.Computing.{next-byte}
use Rattle.files.proofs.feed_bytes.Goals as goal

pub loop-b-preserved : goal.loop-b-preserved
loop-b-preserved c =
    let a = c.args in
    let m = c.requires.0 in
    let l = c.loop-b in
    let next = next-byte (monic-pos a.p.degree a.p.low m.2) l.x l.b-index a.part.now (omega arith) (c.type_inv.part l.b-index).fits in
    (rw c.feed_byte-x.ensures (residue-lt a.p.degree a.p.low m.2 _), rw c.feed_byte-x.ensures (next ∙ l.invariant.1))

pub returns : goal.returns
unfolding value_from bits
returns c =
    let a = c.args in
    let m = c.requires.0 in
    let l = c.loop-b in
    let end = drop_of_length-le a.part.now {i = l.b-index} (omega arith) in
    sym (residue-small a.p.degree a.p.low m.2 l.x l.invariant.0) ∙ (rw end at l.invariant.1)
