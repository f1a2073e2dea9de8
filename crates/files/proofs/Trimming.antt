-- Marks trimmed: trimming undoes joining, joining undoes trimming, true marks or not; and what the code computes.
use mathlib.Core.Path.{◌≡◌, refl, sym, ap, ◌∙◌}
use mathlib.Core.List.{List, ◌++◌}
use Prim.Native.Nat.{ℕ, ◌+◌, ◌-◌, ◌*◌, ◌^◌, ◌≤◌, ◌<◌}
use native.Mathlib.Nat.{lt_of_lt_of_le}
use native.Mathlib.Omega.{arith}
use lib.Dec.{eqb}
use lib.Pow.{pow_mono}
use borrow.Author.Tests.{eq-eqb, eqb-true}
use Rattle.lists.proofs.Searches.{first-is}
use Rattle.gf2.specs.Polynomials.{◌⊕◌, ◌⊗◌, degree, rem, Irreducible}
use Rattle.gf2.specs.Inverses.{inverse}
use Rattle.gf2.proofs.Sums.{⊕-lt, ⊕_shl, ⊕-cancel, xor}
use Rattle.gf2.proofs.Residues.{rem_lt, rem-small, rem-⊕}
use Rattle.gf2.proofs.Powers.{rem-rem, rem_shl}
use Rattle.gf2.proofs.Congruences.{irreducible-pos, shift_cancels}
use Rattle.gf2.proofs.Inverses.{shifted_back}
use Rattle.files.specs.declared.Mark.{Mark}
use Rattle.files.specs.Files.{value_from, fingerprint_from, mark_from, mark_of, joined_from, joined}
use Rattle.files.specs.Trimming.{as_mark, without_front, without_back}
use Rattle.files.proofs.Marks.{mark-eq, joined_true}

-- ---- the front

module _ {p : ℕ} (pos : 0 < p) where
  taken_off : (f g n : ℕ) → rem p (rem p (f * 2 ^ n ⊕ g ⊕ 1 * 2 ^ n) ⊕ (f ⊕ 1) * 2 ^ n) ≡ rem p g
  taken_off f g n = simp (rem-⊕ pos, rem_shl pos, rem-rem pos, ⊕_shl, xor)

  put_back : (w f n : ℕ) → rem p (f * 2 ^ n ⊕ rem p (w ⊕ (f ⊕ 1) * 2 ^ n) ⊕ 1 * 2 ^ n) ≡ rem p w
  put_back w f n = simp (rem-⊕ pos, rem_shl pos, rem-rem pos, ⊕_shl, xor)

  pub front-lt : (m front : Mark) → (without_front p m front).fingerprint < 2 ^ degree p
  unfolding without_front
  front-lt m front = rem_lt pos (m.fingerprint ⊕ (front.fingerprint ⊕ 1) * 2 ^ (m.length - front.length))

  -- trimming undoes joining, the second mark being reduced
  pub front_off : (x y : Mark) → y.fingerprint < 2 ^ degree p → without_front p (joined p x y) x ≡ y
  unfolding without_front joined_from
  front_off x y l =
      let n : x.length + y.length - x.length ≡ y.length = omega arith in
      mark-eq
      (ap (λ (b : ℕ). rem p ((joined p x y).fingerprint ⊕ (x.fingerprint ⊕ 1) * 2 ^ b)) n
      ∙ taken_off x.fingerprint y.fingerprint y.length
      ∙ rem-small pos y.fingerprint l) n

  -- joining undoes trimming, the whole being reduced
  pub front_undone : (m front : Mark) → m.fingerprint < 2 ^ degree p → front.length ≤ m.length → joined p front (without_front p m front) ≡ m
  unfolding without_front joined_from
  front_undone m front l h =
      mark-eq (put_back m.fingerprint front.fingerprint (m.length - front.length) ∙ rem-small pos m.fingerprint l) (omega (arith, h))

  true_lt : (file : List ℕ) → (mark_of p file).fingerprint < 2 ^ degree p
  unfolding mark_from fingerprint_from
  true_lt file = rem_lt pos (value_from 1 file)

  -- of a log and its own front
  pub front_of_log : (a b : List ℕ) → without_front p (mark_of p (a ++ b)) (mark_of p a) ≡ mark_of p b
  front_of_log a b = ap (λ (m : Mark). without_front p m (mark_of p a)) (sym (joined_true 1 pos a b)) ∙ front_off (mark_of p a) (mark_of p b) (true_lt b)

-- ---- the back

module _ {p : ℕ} (irr : Irreducible p) (two : 2 ≤ degree p) where
  pos : 0 < p
  pos = irreducible-pos irr

  one-lt : 1 < 2 ^ degree p
  one-lt = lt_of_lt_of_le (omega arith) (pow_mono {i = 2} two)

  -- of two marks of one length, which have joined the same mark, the residues are equal
  joined_tells : (f g n : ℕ) (y : Mark) → f < 2 ^ degree p → g < 2 ^ degree p
      → (joined p (as_mark f n) y).fingerprint ≡ (joined p (as_mark g n) y).fingerprint → f ≡ g
  unfolding joined_from
  joined_tells f g n y lf lg e =
      shift_cancels p f g y.length irr two lf lg
      (⊕-cancel (rem p (y.fingerprint ⊕ 1 * 2 ^ y.length)) (rem p (f * 2 ^ y.length)) (rem p (g * 2 ^ y.length))
      (parts f ∙ e ∙ sym (parts g)))
    where
      parts : (x : ℕ) → rem p (y.fingerprint ⊕ 1 * 2 ^ y.length) ⊕ rem p (x * 2 ^ y.length) ≡ rem p (x * 2 ^ y.length ⊕ y.fingerprint ⊕ 1 * 2 ^ y.length)
      parts x = simp (rem-⊕ pos, xor)

  -- the search finds a residue with which joining gives the whole's: there is no other
  back_found : (m back : Mark) (f : ℕ) → f < 2 ^ degree p
      → (joined p (as_mark f (m.length - back.length)) back).fingerprint ≡ m.fingerprint
      → without_back p m back ≡ as_mark f (m.length - back.length)
  unfolding without_back
  back_found m back f l e =
      let a = m.length - back.length in
      let w = m.fingerprint in
      mark-eq
      (first-is (λ g. eqb (joined p (as_mark g a) back).fingerprint w) 0 (2 ^ degree p) f (omega arith) (omega arith)
      (eq-eqb (joined p (as_mark f a) back).fingerprint w e)
      (λ g h s t. omega (arith, s, joined_tells f g a back l (omega arith) (e ∙ sym (eqb-true (joined p (as_mark g a) back).fingerprint w t))))) refl

  -- trimming undoes joining, the first mark being reduced
  pub back_off : (x y : Mark) → x.fingerprint < 2 ^ degree p → without_back p (joined p x y) y ≡ x
  unfolding joined_from
  back_off x y l =
      let n : x.length + y.length - y.length ≡ x.length = omega arith in
      back_found (joined p x y) y x.fingerprint l refl ∙ mark-eq refl n

  pub back_of_log : (a b : List ℕ) → without_back p (mark_of p (a ++ b)) (mark_of p b) ≡ mark_of p a
  back_of_log a b = ap (λ (m : Mark). without_back p m (mark_of p b)) (sym (joined_true 1 pos a b)) ∙ back_off (mark_of p a) (mark_of p b) (true_lt pos a)

  -- (W + G)·t^(-b) + 1
  abbrev pub back_residue : ℕ → ℕ → ℕ → ℕ
  back_residue w g b = rem p ((w ⊕ g) ⊗ inverse p (2 ^ b)) ⊕ 1

  back-residue-lt : (w g b : ℕ) → back_residue w g b < 2 ^ degree p
  back-residue-lt w g b = ⊕-lt (degree p) (rem p ((w ⊕ g) ⊗ inverse p (2 ^ b))) 1 (rem_lt pos ((w ⊕ g) ⊗ inverse p (2 ^ b))) one-lt

  -- joined with the back, it gives the whole's
  rejoined : (w g b : ℕ) → rem p (back_residue w g b * 2 ^ b ⊕ g ⊕ 1 * 2 ^ b) ≡ rem p w
  rejoined w g b = simp (⊕_shl, rem-⊕ pos, shifted_back p irr two b, xor)

  pub back_is : (m back : Mark) → m.fingerprint < 2 ^ degree p
      → without_back p m back ≡ as_mark (back_residue m.fingerprint back.fingerprint back.length) (m.length - back.length)
  unfolding joined_from
  back_is m back l =
      let w = m.fingerprint in
      let g = back.fingerprint in
      let b = back.length in
      back_found m back (back_residue w g b) (back-residue-lt w g b) (rejoined w g b ∙ rem-small pos w l)

  pub back-lt : (m back : Mark) → m.fingerprint < 2 ^ degree p → (without_back p m back).fingerprint < 2 ^ degree p
  back-lt m back l = rw (back_is m back l) (back-residue-lt m.fingerprint back.fingerprint back.length)

  -- joining undoes trimming, the whole being reduced
  pub back_undone : (m back : Mark) → m.fingerprint < 2 ^ degree p → back.length ≤ m.length → joined p (without_back p m back) back ≡ m
  unfolding joined_from
  back_undone m back l h =
      ap (λ (x : Mark). joined p x back) (back_is m back l)
      ∙ mark-eq (rejoined m.fingerprint back.fingerprint back.length ∙ rem-small pos m.fingerprint l) (omega (arith, h))
