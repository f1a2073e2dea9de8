-- `files::difference_end` meets its contract: the difference of the used bits behind that of the whole bytes.
use mathlib.Core.Path.{ap₂, ◌∙◌}
use Prim.Native.Nat.{ℕ, ◌-◌, ◌/◌, ◌^◌, ◌<◌}
use native.Mathlib.Omega.{arith}
use lib.ListN.{length, get_or}
use Rattle.gf2.specs.Polynomials.{◌⊕◌, rem}
use Rattle.gf2.specs.Moduli.{polynomial}
use Rattle.gf2.proofs.Monics.{monic-pos}
use Rattle.gf2.proofs.Steps.{residue-below}
use Rattle.files.specs.Files.{low_bits, value_from, as_part, Part}
use Rattle.files.specs.Ends.{whole_bytes}
use Rattle.files.proofs.Parts.{WellUsed, well-used, some_bytes, whole-front}
use Rattle.files.proofs.Computing.{pages-whole, pages-rest}
use Rattle.files.proofs.difference_end.Goals as goal
use Rattle.files.proofs.difference_end.Goals.{After-whole_bytes-w, Start}

-- ---- the two pages, at the start

abbrev oldAt : Start → Part
oldAt s = as_part s.args.old.now s.args.used

abbrev newAt : Start → Part
newAt s = as_part s.args.new.now s.args.used

old-used : (s : Start) → WellUsed (oldAt s)
old-used s = well-used (oldAt s) s.requires.2

new-used : (s : Start) → WellUsed (newAt s)
new-used s = well-used (newAt s) s.requires.3

-- the final byte is behind the whole bytes
final : (c : After-whole_bytes-w) → c.whole_bytes-w.result < length c.args.old.now
final c =
    let n = c.if-used-eq8.false in
    omega (
      arith,
      c.whole_bytes-w.ensures.0,
      whole-front (oldAt c.before.before.before.before.before) n,
      some_bytes
          (oldAt c.before.before.before.before.before) (old-used c.before.before.before.before.before) n,
    )

pub returns-then-used-eq8 : goal.returns-then-used-eq8
returns-then-used-eq8 c =
    let a = c.args in
    c.requires.4 ∙ pages-whole (monic-pos a.p.degree a.p.low c.requires.0.2) a.old.now a.new.now a.used c.requires.1 c.if-used-eq8.true

pub bounds-old-w : goal.bounds-old-w
bounds-old-w c = final (goal.at.bounds-old-w c).After-whole_bytes-w

pub bounds-new-w : goal.bounds-new-w
bounds-new-w c = omega (arith, c.requires.1, final (goal.at.bounds-new-w c).After-whole_bytes-w)

pub overflow_sub-used : goal.overflow_sub-used
overflow_sub-used c = (old-used (goal.at.overflow_sub-used c).Start).to

pub overflow_shr-old : goal.overflow_shr-old
overflow_shr-old c = omega (arith, (old-used (goal.at.overflow_shr-old c).Start).from)

pub feed_low-requires : goal.feed_low-requires
feed_low-requires c =
    (c.requires.0, residue-below c.args.p c.requires.0 c.args.x _ c.requires.4, (old-used (goal.at.feed_low-requires c).Start).to)

pub returns : goal.returns
unfolding ◌⊕◌
returns c =
    let a = c.args in
    let pos = monic-pos a.p.degree a.p.low c.requires.0.2 in
    let f = whole_bytes (oldAt (goal.at.returns c).Start) in
    let byte-old : get_or a.old.now f 0 < 256 = omega (arith, c.shared_slice_known-3-1.given f) in
    let byte-new : get_or a.new.now f 0 < 256 = omega (arith, c.shared_slice_known-4-1.given f) in
    c.feed_low.ensures
    ∙ ap₂ (λ (x n : ℕ). rem (polynomial a.p) (value_from x (low_bits a.used ((get_or a.old.now n 0 ⊕ get_or a.new.now n 0) / 2 ^ (8 - a.used)))))
    c.requires.4 c.whole_bytes-w.ensures.0
    ∙ pages-rest pos a.old.now a.new.now a.used c.requires.1 (old-used (goal.at.returns c).Start) (new-used (goal.at.returns c).Start) c.if-used-eq8.false
    byte-old byte-new
