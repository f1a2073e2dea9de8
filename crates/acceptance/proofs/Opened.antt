-- What an opened key is known to be.
use mathlib.Core.Path.{◌≡◌, refl, sym, ap, ◌∙◌}
use mathlib.Core.Bool.{Bool, true, false, not}
use mathlib.Core.List.{List, ◌++◌}
use Prim.Native.Nat.{ℕ, ◌^◌, ◌≤◌, ◌<◌}
use native.Mathlib.Omega.{arith}
use lib.Dec.{leb}
use borrow.Author.Tests.{leb-false}
use Rattle.gf2.specs.Polynomials.{degree, Irreducible}
use Rattle.gf2.specs.Moduli.{polynomial, Proper}
use Rattle.gf2.specs.declared.Modulus.{Modulus}
use Rattle.refusals.specs.Refusals.{Test, first_of}
use Rattle.refusals.proofs.Laws.{Clear, more-clear, holds, fails}
use Rattle.acceptance.specs.declared.Key.{Key}
use Rattle.acceptance.specs.Keys.{accepted, polynomial_of, key_of, as_modulus, key_tests}
use Rattle.acceptance.specs.Opened.{Opened}
use Rattle.acceptance.proofs.Laws.{accepted-pos, accepted_iff, in_range, range-degree, range-key, whole-key, accepted-range, key_iff}

-- an accepted polynomial, handed in as its key
pub open_accepted : (key : ℕ) → accepted key ≡ true → Opened (key_of key) (as_modulus (key_of key))
open_accepted key a =
    record {
      in_range = accepted-range key a;
      is-accepted = ap accepted (whole-key key (accepted-pos key a)) ∙ a;
      parts = refl;
    }

module _ {x : Key} {p : Modulus} (h : Opened x p) where
  abbrev key : ℕ
  key = polynomial_of x

  range : (8 ≤ x.degree) × (x.degree ≤ 64) × (x.word < 2 ^ x.degree)
  range = in_range x h.in_range

  -- it is the key of its polynomial
  pub opened-key : x ≡ key_of (polynomial_of x)
  opened-key = range-key x h.in_range

  -- neither 1 nor 2 applies
  pub opened-clear : Clear (key_tests x)
  opened-clear = let k = (key_iff x).1 (h.is-accepted, opened-key) in (k.0, (k.1, tt))

  pub opened-degree : p.degree ≡ degree (polynomial_of x)
  opened-degree = ap (λ (q : Modulus). q.degree) h.parts ∙ sym (range-degree x h.in_range)

  pub opened-whole : polynomial p ≡ polynomial_of x
  opened-whole = ap polynomial h.parts

  pub opened-irreducible : Irreducible (polynomial p)
  opened-irreducible = rw opened-whole ((accepted_iff key).0 h.is-accepted).2

  pub opened-proper : Proper p
  opened-proper = rw h.parts (omega (arith, range.0), range.1, range.2)

  pub opened-eight : 8 ≤ p.degree
  opened-eight = rw h.parts range.0

  -- the tests of a call go on behind those of the key
  pub opened-first : {S A : Type 0} (ts : List Test) (s : S) (v : A) → first_of (key_tests x ++ ts) s v ≡ first_of ts s v
  opened-first ts s v = more-clear (key_tests x) ts s v opened-clear

  -- number 8, by what `gf2::is_residue` finds
  module _ (f : ℕ) (r : Bool) (e : r ≡ not (leb (2 ^ p.degree) f)) where
    pub not-residue : not r ≡ true → leb (2 ^ degree (polynomial_of x)) f ≡ true
    not-residue t = rw (sym opened-degree) (holds r (leb (2 ^ p.degree) f) e t)

    pub is-residue : not r ≡ false → leb (2 ^ degree (polynomial_of x)) f ≡ false
    is-residue t = rw (sym opened-degree) (fails r (leb (2 ^ p.degree) f) e t)

  -- a number to which 8 does not apply is below 2^k
  pub residue-below : (f : ℕ) → leb (2 ^ degree (polynomial_of x)) f ≡ false → f < 2 ^ p.degree
  residue-below f e = rw opened-degree (leb-false (2 ^ degree (polynomial_of x)) f e)
