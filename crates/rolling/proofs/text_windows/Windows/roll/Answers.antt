-- `Windows::roll` meets its contract: `rolled`.
use mathlib.Core.Path.{refl}
use Rattle.gf2.specs.Polynomials.{◌⊕◌}
use Rattle.gf2.proofs.Monics.{monic-pos}
use Rattle.rolling.proofs.Residues.{rolled}
use Rattle.rolling.proofs.text_windows.Windows.roll.Goals as goal

pub returns : goal.returns
unfolding ◌⊕◌
returns c =
    let a = c.args in
    let w = a.self in
    rolled (monic-pos w.modulus.degree w.modulus.low w.ready.reduce.0.2) w.m w.text.now w.outgoing.now a.i _ _ c.requires.0
    (search) w.ready.outgoing c.longer-longer.ensures refl
