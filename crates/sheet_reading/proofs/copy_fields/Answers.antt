-- `copy_fields` meets its contract: the first i fields stand in the lent places.
use mathlib.Core.Path.{refl}
use native.Mathlib.Omega.{arith}
use Rattle.big_endian.specs.Numbers.{number_at, numbers_at}
use Rattle.sheet_reading.proofs.Lent.{lent-next}
use Rattle.sheet_reading.proofs.copy_fields.Goals as goal

pub loop-i-init : goal.loop-i-init
unfolding numbers_at
loop-i-init c = refl

pub loop-i-preserved : goal.loop-i-preserved
unfolding number_at
loop-i-preserved c =
    let l = c.loop-i in
    lent-next c.args.fields.now c.args.lent.now l.lent l.i c.eight_at.result l.invariant (omega (arith, c.requires.0)) c.eight_at.ensures
