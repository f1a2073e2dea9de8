-- `rolling::read_first` meets its contract. The loop's invariant: i bytes of each were read.
use mathlib.Core.Path.{◌≡◌}
use Prim.Native.Nat.{◌*◌, ◌^◌}
use Rattle.gf2.specs.Polynomials.{rem}
use Rattle.gf2.specs.Moduli.{polynomial}
use Rattle.rolling.specs.Rolling.{window, residue}
use Rattle.rolling.proofs.read_first.Given as goal

abbrev pub invariant-loop-i : goal.invariant-loop-i
invariant-loop-i l =
    (l.first ≡ residue (polynomial l.p) (window l.i l.text 0))
    × (l.wanted ≡ residue (polynomial l.p) (window l.i l.pattern 0))
    × (l.shift ≡ rem (polynomial l.p) (2 ^ (8 * l.i)))
