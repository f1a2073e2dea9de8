-- What is left of the part, fed to x, gives what the whole part gives behind f.
use mathlib.Core.Path.{◌≡◌}
use Prim.Native.Nat.{◌^◌, ◌<◌}
use lib.ListN.{drop}
use Rattle.gf2.specs.Polynomials.{rem}
use Rattle.gf2.specs.Moduli.{polynomial}
use Rattle.files.specs.Files.{bits, value_from}
use Rattle.files.proofs.feed_bytes.Given as goal

abbrev pub invariant-loop-b : goal.invariant-loop-b
invariant-loop-b l =
    (l.x < 2 ^ l.p.degree) × (rem (polynomial l.p) (value_from l.x (bits (drop l.b-index l.part))) ≡ rem (polynomial l.p) (value_from l.f (bits l.part)))
