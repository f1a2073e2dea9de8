-- `files::feed_byte` meets its contract: the eight bits of a byte come in as one number.
use mathlib.Core.Path.{ap, ◌∙◌}
use native.Mathlib.Omega.{arith}
use Rattle.gf2.specs.Polynomials.{rem}
use Rattle.gf2.specs.Moduli.{polynomial}
use Rattle.files.proofs.Computing.{low-behind}
use Rattle.files.proofs.feed_byte.Goals as goal

pub returns : goal.returns
returns c =
    let a = c.args in
    c.feed_low.ensures ∙ ap (rem (polynomial a.p)) (low-behind 8 a.f a.b (omega arith))
