-- What is left of both pages, the old one behind x, gives what the whole pages give.
use mathlib.Core.Path.{◌≡◌}
use Prim.Native.Nat.{◌^◌, ◌<◌}
use lib.ListN.{length, drop}
use Rattle.gf2.specs.Polynomials.{◌⊕◌, rem}
use Rattle.gf2.specs.Moduli.{polynomial}
use Rattle.files.specs.Files.{bits, value_from}
use Rattle.files.proofs.difference.Given as goal

abbrev pub invariant-loop-a : goal.invariant-loop-a
invariant-loop-a l =
    (l.x < 2 ^ l.p.degree)
    × (rem (polynomial l.p) (value_from l.x (bits (drop (length l.yielded) l.old)) ⊕ value_from 0 (bits (drop (length l.yielded) l.new)))
    ≡ rem (polynomial l.p) (value_from 0 (bits l.old) ⊕ value_from 0 (bits l.new)))
