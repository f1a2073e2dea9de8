-- Numbers 7, 8 and 19 in turn.
use mathlib.Core.Path.{◌≡◌}
use mathlib.Core.Bool.{Bool, true, false, not}
use mathlib.Core.List.{List, [], ◌∷◌}
use Prim.Native.Nat.{ℕ, ◌+◌, ◌^◌}
use lib.Dec.{leb}
use Rattle.gf2.specs.Polynomials.{degree}
use Rattle.gf2.specs.Moduli.{polynomial, Proper}
use Rattle.gf2.specs.declared.Modulus.{Modulus}
use Rattle.gf2.proofs.Monics.{monic-degree}
use Rattle.refusals.specs.declared.Refusal.TheVariants.{TooLong, MarkNotReduced, FinalByte}
use Rattle.refusals.specs.Refusals.{Answer, Done, Refused, first_of, passes}
use Rattle.refusals.proofs.Laws.{holds, fails}
use Rattle.files.specs.declared.Mark.{Mark}
use Rattle.files.specs.Files.{unreduced, Part, part_length, misused}
use Rattle.mark_tests.specs.MarkTests.{feed_tests}

module _ (key : ℕ) (m : Mark) (part : Part) (v : ℕ) where
  abbrev lengths : List ℕ
  lengths = m.length ∷ part_length part ∷ (m.length + part_length part) ∷ []

  abbrev answer : Answer Unit ℕ
  answer = first_of (feed_tests key m part) tt v

  pub feed-long : passes lengths ≡ true → answer ≡ Refused TooLong tt
  feed-long e = rw e

  pub feed-unreduced : passes lengths ≡ false → unreduced key m ≡ true → answer ≡ Refused MarkNotReduced tt
  feed-unreduced e f = rw (e, f)

  pub feed-misused : passes lengths ≡ false → unreduced key m ≡ false → misused part ≡ true → answer ≡ Refused FinalByte tt
  feed-misused e f g = rw (e, f, g)

  pub feed-passed : passes lengths ≡ false → unreduced key m ≡ false → misused part ≡ false → answer ≡ Done v
  feed-passed e f g = rw (e, f, g)

-- number 8, by what `gf2::is_residue` finds
module _ (p : Modulus) (h : Proper p) (f : ℕ) (r : Bool) (e : r ≡ not (leb (2 ^ p.degree) f)) where
  pub not-residue : not r ≡ true → leb (2 ^ degree (polynomial p)) f ≡ true
  not-residue t = rw (monic-degree p.degree p.low h.2) (holds r (leb (2 ^ p.degree) f) e t)

  pub is-residue : not r ≡ false → leb (2 ^ degree (polynomial p)) f ≡ false
  is-residue t = rw (monic-degree p.degree p.low h.2) (fails r (leb (2 ^ p.degree) f) e t)
