-- Turning a mark: the claims of specs/PlainMarks.antt, proved.
use mathlib.Core.Path.{◌≡◌, refl, sym, ap, ◌∙◌}
use mathlib.Core.List.{List}
use Prim.Native.Nat.{ℕ, ◌+◌, ◌*◌, ◌^◌, ◌<◌}
use native.Mathlib.Nat.{one-mul, zero-mul}
use lib.ListN.{length}
use lib.Pow.{pow-add}
use Rattle.gf2.specs.Polynomials.{◌⊕◌, degree, rem}
use Rattle.gf2.proofs.Sums.{⊕-eq, ⊕_self, ⊕_shl, ⊕-zero, zero-⊕, xor}
use Rattle.gf2.proofs.Residues.{rem-⊕, rem-small}
use Rattle.gf2.proofs.Powers.{rem-rem, rem_shl}
use Rattle.files.specs.declared.Mark.{Mark}
use Rattle.files.specs.Files.{value_from, fingerprint_from, mark_from, Part, part_length, part_bits, fed_mark, joined_from, replaced}
use Rattle.files.specs.PlainMarks.{turned, TurnedTrue, TurnedBack, TurnedFed, TurnedReplaced, TurnedJoined, TurnedTwice, ZeroInFront, EqualStarts}
use Rattle.files.proofs.Values.{value-⊕, rem-from, value-starts}
use Rattle.files.proofs.Parts.{part-length}
use Rattle.files.proofs.Marks.{mark-eq}

module _ {p : ℕ} (pos : 0 < p) where
  -- t^n, added to the value behind one start, gives the value behind the other
  pub turn-from : (s u : ℕ) (file : List ℕ) → s ⊕ u ≡ 1 → turned p (mark_from s p file) ≡ mark_from u p file
  unfolding turned mark_from fingerprint_from
  turn-from s u file e =
      mark-eq
      (rem-⊕ pos (rem p (value_from s file)) (2 ^ length file)
      ∙ ap (λ (x : ℕ). x ⊕ rem p (2 ^ length file)) (rem-rem pos (value_from s file))
      ∙ sym (rem-⊕ pos (value_from s file) (2 ^ length file))
      ∙ ap (rem p) (added s u file e)) refl
    where
      added : (s u : ℕ) (file : List ℕ) → s ⊕ u ≡ 1 → value_from s file ⊕ 2 ^ length file ≡ value_from u file
      added s u file e =
          let one : 2 ^ length file ≡ s * 2 ^ length file ⊕ u * 2 ^ length file =
          sym (sym (⊕_shl (length file) s u) ∙ ap (λ (x : ℕ). x * 2 ^ length file) e ∙ one-mul (2 ^ length file)) in
          ap (λ (x : ℕ). value_from s file ⊕ x) one ∙ rw (value-⊕ s file, value-⊕ u file) (simp xor)

  -- turned before a feed or behind it, for every mark
  fed-turned : (m : Mark) (part : Part) → fed_mark p (turned p m) part ≡ turned p (fed_mark p m part)
  unfolding turned fed_mark
  fed-turned m part =
      mark-eq
      (rem-from pos (m.fingerprint ⊕ 2 ^ m.length) (part_bits part)
      ∙ ap (rem p) behind
      ∙ rem-⊕ pos (value_from m.fingerprint (part_bits part)) (2 ^ (m.length + part_length part))
      ∙ ap (λ (x : ℕ). x ⊕ rem p (2 ^ (m.length + part_length part))) (sym (rem-rem pos (value_from m.fingerprint (part_bits part))))
      ∙ sym (rem-⊕ pos (rem p (value_from m.fingerprint (part_bits part))) (2 ^ (m.length + part_length part)))) refl
    where
      behind : value_from (m.fingerprint ⊕ 2 ^ m.length) (part_bits part) ≡ value_from m.fingerprint (part_bits part) ⊕ 2 ^ (m.length + part_length part)
      behind =
          rw (
            value-⊕ (m.fingerprint ⊕ 2 ^ m.length) (part_bits part),
            value-⊕ m.fingerprint (part_bits part),
            part-length part,
            pow-add 2 m.length (part_length part),
            ⊕_shl,
          ) (simp xor)

  -- joined, turned back and with a page replaced: the same, for every mark
  both-turned : (f g m n : ℕ)
      → rem p (rem p (f ⊕ 2 ^ m) * 2 ^ n ⊕ rem p (g ⊕ 2 ^ n) ⊕ 1 * 2 ^ n) ≡ rem p (rem p (f * 2 ^ n ⊕ g ⊕ 0 * 2 ^ n) ⊕ 2 ^ (m + n))
  both-turned f g m n = simp (rem-⊕ pos, rem_shl pos, rem-rem pos, ⊕_shl, pow-add 2 m n, one-mul, zero-mul, xor)

  joined-turned : (x y : Mark) → joined_from 1 p (turned p x) (turned p y) ≡ turned p (joined_from 0 p x y)
  unfolding joined_from turned
  joined-turned x y = mark-eq (both-turned x.fingerprint y.fingerprint x.length y.length) refl

  twice : (f g : ℕ) → rem p (rem p (f ⊕ g) ⊕ g) ≡ rem p f
  twice f g = simp (rem-⊕ pos, rem-rem pos, xor)

  twice-turned : (m : Mark) → m.fingerprint < 2 ^ degree p → turned p (turned p m) ≡ m
  unfolding turned
  twice-turned m l = mark-eq (twice m.fingerprint (2 ^ m.length) ∙ rem-small pos m.fingerprint l) refl

  swapped : (f g h : ℕ) → rem p (rem p (f ⊕ g) ⊕ h) ≡ rem p (rem p (f ⊕ h) ⊕ g)
  swapped f g h = simp (rem-⊕ pos, rem-rem pos, xor)

  replaced-turned : (m : Mark) (place : ℕ) (old new : Part) → replaced p (turned p m) place old new ≡ turned p (replaced p m place old new)
  unfolding replaced turned
  replaced-turned m place old new = mark-eq (swapped m.fingerprint (2 ^ m.length) _) refl

pub turn_true : TurnedTrue
turn_true key file m pos t = ap (turned key) t ∙ turn-from pos 0 1 file (zero-⊕ 1)

pub turn-back : TurnedBack
turn-back key file m pos t = ap (turned key) t ∙ turn-from pos 1 0 file (⊕-zero 1)

pub turn-fed : TurnedFed
turn-fed key m part pos = fed-turned pos m part

pub turn-replaced : TurnedReplaced
turn-replaced key m place old new pos = replaced-turned pos m place old new

pub turn-joined : TurnedJoined
turn-joined key x y pos = joined-turned pos x y

pub turn_twice : TurnedTwice
turn_twice key m pos l = twice-turned pos m l

pub zero_in_front : ZeroInFront
unfolding fingerprint_from value_from
zero_in_front key file = refl

pub equal-starts : EqualStarts
unfolding fingerprint_from
equal-starts s u p a b pos l e =
    ⊕-eq (rem p (value_from u a)) (rem p (value_from u b))
    (sym (rem-⊕ pos (value_from u a) (value_from u b))
    ∙ ap (rem p) (value-starts u u s s a b l (⊕_self u ∙ sym (⊕_self s)))
    ∙ rem-⊕ pos (value_from s a) (value_from s b)
    ∙ rw e (⊕_self (rem p (value_from s b))))
