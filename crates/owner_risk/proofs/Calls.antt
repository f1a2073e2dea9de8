-- The call gives the lowest number that applies: the claim of specs/Calls.antt, proved.
use mathlib.Core.Path.{refl}
use Prim.Native.Nat.{ℕ}
use Rattle.lists.proofs.Lists.{rising}
use Rattle.refusals.proofs.Laws.{gives-lowest}
use Rattle.acceptance.specs.Keys.{key_of}
use Rattle.draw.specs.Drawing.{drawn_key, draw}
use Rattle.owner_risk.specs.Calls.{CallLowest}

pub each_call : CallLowest
unfolding draw rising
each_call k e = record { draw-key = gives-lowest tt (key_of (drawn_key k e)) refl refl tt }
