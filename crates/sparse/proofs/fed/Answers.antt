-- `fed` meets its contract: x, with the rest behind it, stands for f and the part.
use mathlib.Core.Path.{◌≡◌}
use Prim.Native.Nat.{◌-◌, ◌*◌, ◌/◌, ◌^◌}
use native.Mathlib.Omega.{arith}
use lib.ListN.{take}
use Rattle.files.specs.Files.{bits, value_from}
use Rattle.big_endian.proofs.Pieces.{piece-lt}
use Rattle.sparse.proofs.Steps.{first-bytes, one_byte, stands-next}
use Rattle.sparse.proofs.fed.Goals as goal
use Rattle.sparse.proofs.fed.Goals.{After-eight_at-eight}

-- the bytes that come in
value_in : (c : After-eight_at-eight) → let a = c.args in c.eight_at-eight.result / 2 ^ (64 - 8 * a.n) ≡ value_from 0 (bits (take a.n c.loop-rest.rest.now))
value_in c =
    first-bytes c.loop-rest.rest.now 0 c.args.n c.eight_at-eight.result (omega (arith, c.requires.0.2)) (omega arith)
    c.eight_at-eight.ensures

pub behind-x-requires : goal.behind-x-requires
behind-x-requires c =
    let l = c.loop-rest in
    (c.requires.0, l.invariant.0, piece-lt l.rest.now 0 c.args.n _ (omega (arith, c.requires.0.2)) (value_in c))

pub loop-rest-preserved : goal.loop-rest-preserved
loop-rest-preserved c =
    let a = c.args in
    let l = c.loop-rest in
    stands-next a.p c.requires.0.0 a.f a.part.now l.x l.rest.now l.invariant a.n _ c.behind-x.result (omega (arith, c.requires.0.2))
    (value_in (goal.at.loop-rest-preserved c).After-eight_at-eight)
    c.behind-x.ensures

pub feed_ones-requires : goal.feed_ones-requires
feed_ones-requires c = (one_byte c.args.p c.args.n c.requires.0, c.loop-rest.invariant.0)
