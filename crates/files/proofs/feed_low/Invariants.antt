-- What is left of the bits, fed to x, gives what all of them give behind f.
use mathlib.Core.Path.{◌≡◌}
use Prim.Native.Nat.{◌^◌, ◌<◌}
use Rattle.gf2.specs.Polynomials.{rem}
use Rattle.gf2.specs.Moduli.{polynomial}
use Rattle.files.specs.Files.{low_bits, value_from}
use Rattle.files.proofs.feed_low.Given as goal

abbrev pub invariant-loop-i : goal.invariant-loop-i
invariant-loop-i l =
    (l.x < 2 ^ l.p.degree) × (rem (polynomial l.p) (value_from l.x (low_bits l.i l.b)) ≡ rem (polynomial l.p) (value_from l.f (low_bits l.n l.b)))
