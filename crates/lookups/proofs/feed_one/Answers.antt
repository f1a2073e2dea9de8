-- `feed_one` meets its contract: the cut with one group of eight bits.
use mathlib.Core.Path.{ap, ◌∙◌}
use Prim.Native.Nat.{ℕ, ◌+◌, ◌-◌, ◌*◌, ◌/◌, ◌^◌}
use native.Mathlib.Omega.{arith}
use lib.ListN.{get_or}
use Rattle.gf2.specs.Polynomials.{◌⊕◌}
use Rattle.lookups.proofs.Cut.{below-fits, top_lt, cut_high, look_one}
use Rattle.lookups.proofs.feed_one.Goals as goal

pub overflow_mul-result : goal.overflow_mul-result
overflow_mul-result c =
    let e = c.low_bits-rest.ensures in
    omega (arith, below-fits c.args.f 0 8 (c.args.p.degree - 8) (omega arith) (omega arith))

pub overflow_add-result : goal.overflow_add-result
overflow_add-result c =
    let e = c.low_bits-rest.ensures in
    omega (arith, c.from.ensures, below-fits c.args.f c.args.b 8 (c.args.p.degree - 8) c.ranges.b.fits (omega arith))

pub offset_bounds-words-top : goal.offset_bounds-words-top
offset_bounds-words-top c =
    omega (arith, top_lt c.args.f 8 c.args.p.degree c.requires.0.1 c.requires.1, c.requires.0.2)

pub bounds-words-top : goal.bounds-words-top
bounds-words-top c =
    omega (arith, top_lt c.args.f 8 c.args.p.degree c.requires.0.1 c.requires.1, c.requires.0.2)

pub returns : goal.returns
unfolding ◌⊕◌
returns c =
    let a = c.args in
    let p = c.requires in
    let ws = a.words.now in
    let cut = a.p.degree - 8 in
    let rest = c.low_bits-rest in
    ap (λ (b : ℕ). (rest.result * 256 + b) ⊕ get_or ws (a.f / 2 ^ cut) 0) c.from.ensures
    ∙ look_one ws (rest.result * 256 + a.b) (a.f / 2 ^ cut) (top_lt a.f 8 a.p.degree p.0.1 p.1)
    ∙ cut_high 8 a.p p.0.0 ws 1 p.0.3 1 a.f a.b (omega arith) p.1 c.ranges.b.fits cut rest.result (omega arith) rest.ensures
