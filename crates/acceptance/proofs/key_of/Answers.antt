-- The degree of 0 is 0 by definition, and that of another word is below 64.
use mathlib.Core.Path.{sym, ap}
use native.Mathlib.Omega.{arith}
use Rattle.gf2.specs.Polynomials.{degree, halvings}
use Rattle.gf2.proofs.Monics.{word-degree}
use Rattle.acceptance.specs.Keys.{key_of}
use Rattle.acceptance.proofs.key_of.Goals as goal

pub returns-then-p-eq0 : goal.returns-then-p-eq0
unfolding degree halvings
returns-then-p-eq0 c = sym (ap key_of c.if-p-eq0.true)

pub low_bits-requires : goal.low_bits-requires
low_bits-requires c =
    omega (arith, c.degree-degree.ensures, word-degree c.args.p (omega (arith, c.if-p-eq0.false)) c.ranges.p.fits)
