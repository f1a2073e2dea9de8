-- What is left of both pages, the old one behind x, gives what the whole pages give.
use mathlib.Core.Path.{sym, ap, ◌∙◌}
use Prim.Native.Nat.{◌<◌}
use native.Mathlib.Omega.{arith}
use Rattle.std.proofs.Common.{rules}
use lib.ListN.{length, get_or, drop_of_length-le}
use Rattle.std.proofs.lemmas.List.{length_push}
use Rattle.std.proofs.lemmas.Slice.Zip.{zip_turn, zip_end}
use Rattle.gf2.specs.Polynomials.{◌⊕◌, rem}
use Rattle.gf2.specs.Moduli.{polynomial}
use Rattle.gf2.proofs.Sums.{⊕-zero}
use Rattle.gf2.proofs.Monics.{monic-pos}
use Rattle.gf2.proofs.Steps.{residue-lt, residue-small}
use Rattle.files.specs.Files.{bits, value_from}
use Rattle.files.proofs.Computing.{pages-next}
use Rattle.files.proofs.difference.Goals as goal

pub loop-a-preserved : goal.loop-a-preserved
unfolding ◌⊕◌
loop-a-preserved c =
    let a = c.args in
    let m = c.requires.0 in
    let l = c.loop-a in
    let at = zip_turn a.old.now a.new.now l.yielded c.into_iter-a-iterator.result l.a-iterator c.next.new.self c.next.result (search rules) (search rules)
    l.yielded_by
    (c.in-Some.a, c.in-Some.b) c.in-Some.is c.next.ensures.steps in
    let n = length l.yielded in
    let byte-old : get_or a.old.now n 0 < 256 = (c.type_inv.old n).fits in
    let byte-new : get_or a.new.now n 0 < 256 = (c.type_inv.new n).fits in
    let next = pages-next (monic-pos a.p.degree a.p.low m.2) a.old.now a.new.now c.requires.1 l.x n at.0 byte-old byte-new in
    let fed = rw (at.2 0, at.3 0) at c.feed_byte-x.ensures in
    (rw fed (residue-lt a.p.degree a.p.low m.2 _), rw (length_push, fed) (next ∙ l.invariant.1))

pub returns : goal.returns
unfolding value_from bits
returns c =
    let a = c.args in
    let m = c.requires.0 in
    let l = c.loop-a in
    let p = polynomial a.p in
    let n = length l.yielded in
    let end = zip_end a.old.now a.new.now l.yielded c.into_iter-a-iterator.result l.a-iterator c.next.new.self c.next.result (search rules) (search rules)
    l.yielded_by c.in-None.is c.next.ensures.steps in
    let old-end = drop_of_length-le a.old.now {i = n} (omega (arith, end, c.requires.1)) in
    let new-end = drop_of_length-le a.new.now {i = n} (omega (arith, end, c.requires.1)) in
    sym (residue-small a.p.degree a.p.low m.2 l.x l.invariant.0) ∙ sym (ap (rem p) (⊕-zero l.x)) ∙ (rw (old-end, new-end) at l.invariant.1)
