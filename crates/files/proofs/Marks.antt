-- Laws of fingerprints, whatever the start: of a file with a part behind it, of two files joined, and of a file with a page replaced.
use mathlib.Core.Path.{◌≡◌, refl, sym, ap, ap₂, ◌∙◌}
use mathlib.Core.Bool.{false}
use mathlib.Core.List.{List, [], ◌++◌, append_assoc}
use Prim.Native.Nat.{ℕ, ◌+◌, ◌*◌, ◌^◌, ◌≤◌, ◌<◌}
use native.Mathlib.Omega.{arith}
use lib.ListN.{length, take, drop, length-append, length-drop, take-append-drop}
use lib.Pow.{pow-lt}
use lib.Seq.{drop-drop, length-take-le}
use borrow.Author.Tests.{lt-leb}
use Rattle.gf2.specs.Polynomials.{◌⊕◌, degree, rem}
use Rattle.gf2.proofs.Degrees.{degree-from}
use Rattle.gf2.proofs.Sums.{⊕_move, xor}
use Rattle.gf2.proofs.Residues.{rem-⊕, rem-small, rem_lt}
use Rattle.gf2.proofs.Powers.{rem-rem, rem_shl}
use Rattle.files.specs.Files.{value_from, fingerprint_from, fingerprint, mark_from, mark_of, unreduced, Part, part_length, part_bits}
use Rattle.files.specs.Files.{fed_mark, joined_from, replaced, JoinedTrue, ReplacedTrue}
use Rattle.files.specs.declared.Mark.{Mark}
use Rattle.files.proofs.Values.{value-append, value-⊕, rem-from, value-change}
use Rattle.files.proofs.Parts.{part-length}

pub mark-eq : {f g : ℕ} {m n : ℕ} → f ≡ g → m ≡ n → ◌≡◌ {A = Mark} (record { fingerprint = f; length = m }) (record { fingerprint = g; length = n })
mark-eq e d = ap₂ {C = Mark} (λ (f m : ℕ). record { fingerprint = f; length = m }) e d

module _ {p : ℕ} (pos : 0 < p) where
  pub fed : (s : ℕ) (file part : List ℕ) → rem p (value_from (fingerprint_from s p file) part) ≡ fingerprint_from s p (file ++ part)
  unfolding fingerprint_from
  fed s file part = rem-from pos (value_from s file) part ∙ ap (rem p) (sym (value-append s file part))

  -- the value of two files joined
  value-joined : (s : ℕ) (a b : List ℕ) → value_from s (a ++ b) ≡ value_from s a * 2 ^ length b ⊕ value_from s b ⊕ s * 2 ^ length b
  value-joined s a b = value-append s a b ∙ rw (value-⊕ (value_from s a) b, value-⊕ s b) (simp xor)

  -- the fingerprint of two files joined, from theirs: the second file's start is taken off again
  joined-print : (s : ℕ) (a b : List ℕ)
      → rem p (fingerprint_from s p a * 2 ^ length b ⊕ fingerprint_from s p b ⊕ s * 2 ^ length b) ≡ fingerprint_from s p (a ++ b)
  unfolding fingerprint_from
  joined-print s a b = residue ∙ ap (rem p) (sym (value-joined s a b))
    where
      residue : rem p (rem p (value_from s a) * 2 ^ length b ⊕ rem p (value_from s b) ⊕ s * 2 ^ length b)
          ≡ rem p (value_from s a * 2 ^ length b ⊕ value_from s b ⊕ s * 2 ^ length b)
      residue = simp (rem-⊕ pos, rem_shl pos, rem-rem pos)

  -- the same file with another page
  value-page : (s : ℕ) (pre old new post : List ℕ) → length old ≡ length new
      → value_from s (pre ++ new ++ post) ≡ value_from s (pre ++ old ++ post) ⊕ (value_from 1 old ⊕ value_from 1 new) * 2 ^ length post
  value-page s pre old new post e =
      ⊕_move (value_from s (pre ++ old ++ post)) (value_from s (pre ++ new ++ post)) ((value_from 1 old ⊕ value_from 1 new) * 2 ^ length post)
      (value-change s 1 pre old new post e)

  replaced-print : (s : ℕ) (pre old new post : List ℕ) → length old ≡ length new
      → rem p (fingerprint_from s p (pre ++ old ++ post) ⊕ (fingerprint p old ⊕ fingerprint p new) * 2 ^ length post) ≡ fingerprint_from s p
      (pre ++ new ++ post)
  unfolding fingerprint_from
  replaced-print s pre old new post e =
      rem-⊕ pos (rem p (value_from s (pre ++ old ++ post))) ((rem p (value_from 1 old) ⊕ rem p (value_from 1 new)) * 2 ^ length post)
      ∙ ap₂ (λ (x y : ℕ). x ⊕ y) (rem-rem pos (value_from s (pre ++ old ++ post)))
      (ap (λ (x : ℕ). rem p (x * 2 ^ length post)) (sym (rem-⊕ pos (value_from 1 old) (value_from 1 new)))
      ∙ rem_shl pos (value_from 1 old ⊕ value_from 1 new) (length post))
      ∙ sym (rem-⊕ pos (value_from s (pre ++ old ++ post)) ((value_from 1 old ⊕ value_from 1 new) * 2 ^ length post))
      ∙ ap (rem p) (sym (value-page s pre old new post e))

-- ---- true marks

module _ (s key : ℕ) (pos : 0 < key) (file : List ℕ) where
  -- a true mark is reduced
  pub true_reduced : unreduced key (mark_from s key file) ≡ false
  unfolding mark_from fingerprint_from
  true_reduced = lt-leb (2 ^ degree key) (rem key (value_from s file)) (rem_lt pos (value_from s file))

  -- a true mark fed is true of the file with the part behind it
  pub fed_true : (part : Part) → fed_mark key (mark_from s key file) part ≡ mark_from s key (file ++ part_bits part)
  unfolding fed_mark mark_from
  fed_true part =
      mark-eq (fed pos s file (part_bits part)) (sym (length-append file (part_bits part) ∙ ap (λ (n : ℕ). length file + n) (part-length part)))

-- true marks joined are true of the files joined
pub joined_true : (s : ℕ) {p : ℕ} (pos : 0 < p) (a b : List ℕ) → joined_from s p (mark_from s p a) (mark_from s p b) ≡ mark_from s p (a ++ b)
unfolding joined_from mark_from
joined_true s pos a b = mark-eq (joined-print pos s a b) (sym (length-append a b))

pub join : JoinedTrue
join s key a b x y pos tx ty = ap₂ (joined_from s key) tx ty ∙ joined_true s pos a b

-- a page replaced in a file that has the old one there
module _ (s key : ℕ) (pos : 0 < key) (file : List ℕ) (place : ℕ) (old new : Part) (e : part_length old ≡ part_length new)
    (l : 8 * place + part_length old ≤ length file) (t : take (part_length old) (drop (8 * place) file) ≡ part_bits old) where
  abbrev at : ℕ
  at = 8 * place

  abbrev after : List ℕ
  after = drop (at + part_length old) file

  abbrev change : ℕ
  change = fingerprint key (part_bits old) ⊕ fingerprint key (part_bits new)

  there : take at file ++ part_bits old ++ after ≡ file
  there =
      append_assoc (take at file) (part_bits old) after
      ∙ ap (λ (r : List ℕ). take at file ++ r)
      (ap (λ (r : List ℕ). r ++ after) (sym t)
      ∙ ap (λ (r : List ℕ). take (part_length old) (drop at file) ++ r) (sym (drop-drop (part_length old) at file))
      ∙ take-append-drop (part_length old) (drop at file))
      ∙ take-append-drop at file

  size : length file ≡ length (take at file ++ part_bits new ++ after)
  size =
      omega (
        arith,
        length-append (take at file ++ part_bits new) after,
        length-append (take at file) (part_bits new),
        length-take-le at file (omega (arith, l)),
        length-drop (at + part_length old) file,
        part-length new,
        e,
        l,
      )

  replaced_true : replaced key (mark_from s key file) place old new ≡ mark_from s key (take at file ++ part_bits new ++ after)
  unfolding replaced mark_from
  replaced_true =
      mark-eq
      (ap (λ (n : ℕ). rem key (fingerprint_from s key file ⊕ change * 2 ^ n)) (sym (length-drop (at + part_length old) file))
      ∙ ap (λ (f : List ℕ). rem key (fingerprint_from s key f ⊕ change * 2 ^ length after)) (sym there)
      ∙ replaced-print pos s (take at file) (part_bits old) (part_bits new) after (part-length old ∙ e ∙ sym (part-length new)))
      size

pub page : ReplacedTrue
page s key file m place old new pos t e l h = ap (λ (x : Mark). replaced key x place old new) t ∙ replaced_true s key pos file place old new e l h

-- the empty file's fingerprint is its start: "The empty file has fingerprint 1."
pub empty-from : (s key : ℕ) → s < 2 → 1 < key → mark_from s key [] ≡ record { fingerprint = s; length = 0 }
unfolding mark_from fingerprint_from value_from
empty-from s key l h = mark-eq (rem-small (omega arith) s (omega (arith, l, pow-lt {i = 0} (degree-from 1 key h)))) refl

pub empty-mark : (key : ℕ) → 1 < key → mark_of key [] ≡ record { fingerprint = 1; length = 0 }
empty-mark key h = empty-from 1 key (omega arith) h
