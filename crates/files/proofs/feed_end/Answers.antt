-- `files::feed_end` meets its contract: no bits, or the high bits of the final byte.
use mathlib.Core.Path.{sym, ap, ◌∙◌}
use native.Mathlib.Omega.{arith}
use Rattle.gf2.specs.Polynomials.{rem}
use Rattle.gf2.specs.Moduli.{polynomial}
use Rattle.gf2.proofs.Steps.{residue-small}
use Rattle.files.specs.Files.{value_from, as_part, Part}
use Rattle.files.proofs.Parts.{WellUsed, well-used, some_bytes, end_none, end_low}
use Rattle.files.proofs.feed_end.Goals as goal
use Rattle.files.proofs.feed_end.Goals.{Start}

-- ---- the part, at the start and behind the first test

abbrev part_at : Start → Part
part_at s = as_part s.args.part.now s.args.used

well : (s : Start) → WellUsed (part_at s)
well s = well-used (part_at s) s.requires.2

pub returns-then-used-eq8 : goal.returns-then-used-eq8
unfolding value_from
returns-then-used-eq8 c =
    let a = c.args in
    sym (residue-small a.p.degree a.p.low c.requires.0.2 a.f c.requires.1)
    ∙ sym (ap (λ l. rem (polynomial a.p) (value_from a.f l)) (end_none (part_at (goal.at.returns-then-used-eq8 c).Start) c.if-used-eq8.true))

pub overflow_sub-last : goal.overflow_sub-last
overflow_sub-last c = some_bytes (part_at (goal.at.overflow_sub-last c).Start) (well (goal.at.overflow_sub-last c).Start) c.if-used-eq8.false

pub bounds-part-part : goal.bounds-part-part
bounds-part-part c = omega (arith, some_bytes (part_at (goal.at.bounds-part-part c).Start) (well (goal.at.bounds-part-part c).Start) c.if-used-eq8.false)

pub overflow_sub-used : goal.overflow_sub-used
overflow_sub-used c = (well (goal.at.overflow_sub-used c).Start).to

pub overflow_shr-last : goal.overflow_shr-last
overflow_shr-last c = omega (arith, (well (goal.at.overflow_shr-last c).Start).from)

pub feed_low-requires : goal.feed_low-requires
feed_low-requires c = (c.requires.0, c.requires.1, (well (goal.at.feed_low-requires c).Start).to)

pub returns : goal.returns
returns c =
    let a = c.args in
    c.feed_low.ensures ∙ sym (ap (λ l. rem (polynomial a.p) (value_from a.f l))
    (end_low (part_at (goal.at.returns c).Start) (well (goal.at.returns c).Start) c.if-used-eq8.false))
