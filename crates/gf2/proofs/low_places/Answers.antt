use Rattle.gf2.proofs.Steps.{no_bits}
use Rattle.gf2.proofs.low_places.Goals as goal

pub loop-i-init : goal.loop-i-init
loop-i-init c = rw (no_bits c.args.n c.ranges.n.fits) c.requires
