-- Laws of feeding eight bytes at a time, by numbers that are congruent to the residue.
use mathlib.Core.Path.{◌≡◌, refl, sym, ap, ◌∙◌}
use mathlib.Core.List.{List}
use Prim.Native.Nat.{ℕ, ◌+◌, ◌*◌, ◌^◌, ◌≤◌, ◌<◌}
use native.Mathlib.Nat.{one-mul}
use lib.ListN.{length, get_or, take, drop, drop_of_length-le}
use Rattle.gf2.specs.Polynomials.{◌⊕◌, rem}
use Rattle.gf2.specs.Moduli.{polynomial, Proper}
use Rattle.gf2.specs.declared.Modulus.{Modulus}
use Rattle.gf2.proofs.Sums.{⊕-append, ⊕-lt}
use Rattle.gf2.proofs.Residues.{rem-⊕}
use Rattle.gf2.proofs.Powers.{rem-rem}
use Rattle.gf2.proofs.Monics.{monic-pos}
use Rattle.gf2.proofs.Steps.{residue-word}
use Rattle.files.specs.Files.{bits, value_from}
use Rattle.files.proofs.Values.{rem-from}
use Rattle.lookups.specs.Groups.{looked}
use Rattle.big_endian.proofs.Pieces.{fed-piece, value-piece-lt}
use Rattle.shifts.specs.Shifts.{Shifts, FedEights}
use Rattle.shifts.proofs.Products.{shifted, word-one}

-- x, a number of 64 bits, stands for a leading 1 and the bytes before place i
abbrev pub StandsFor : ℕ → List ℕ → ℕ → ℕ → Type 0
StandsFor key part i x = (x < 2 ^ 64) × (rem key (value_from x (bits (drop i part))) ≡ rem key (value_from 1 (bits part)))

-- modulo each polynomial by which the words shift eight bytes
abbrev pub Stands : List ℕ → List ℕ → ℕ → ℕ → Type 0
Stands words part i x = (p : Modulus) → Proper p → Shifts (polynomial p) 64 words → StandsFor (polynomial p) part i x

module _ (p : Modulus) (proper : Proper p) (words : List ℕ) (s : Shifts (polynomial p) 64 words) (part : List ℕ) where
  pos : 0 < polynomial p
  pos = monic-pos p.degree p.low proper.2

  -- eight bytes more behind x, of which z is the shift
  eight-more : (i x z v : ℕ) → i + 8 ≤ length part → z ≡ rem (polynomial p) (x * 2 ^ 64) → v ≡ value_from 0 (bits (take 8 (drop i part)))
      → rem (polynomial p) (value_from x (bits (drop i part))) ≡ rem (polynomial p) (value_from 1 (bits part)) → StandsFor (polynomial p) part (i + 8) (z ⊕ v)
  eight-more i x z v l ez ev g =
      let b : v < 2 ^ 64 = rw ev (value-piece-lt part i 8 l) in (
        ⊕-lt 64 z v (rw ez (residue-word p.degree p.low proper.2 proper.1 (x * 2 ^ 64))) b,
        sym (rem-from pos (z ⊕ v) (bits (drop (i + 8) part)))
            ∙ fed-piece part i 8 l pos x (rem (polynomial p) (z ⊕ v))
            (rem-⊕ pos z v
            ∙ ap (λ (y : ℕ). y ⊕ rem (polynomial p) v) (ap (rem (polynomial p)) ez ∙ rem-rem pos (x * 2 ^ 64))
            ∙ sym (rem-⊕ pos (x * 2 ^ 64) v)
            ∙ ap (rem (polynomial p)) (⊕-append x 64 v b ∙ ap (λ (y : ℕ). x * 2 ^ 64 + y) ev))
            ∙ g,
      )

  first_of : (v : ℕ) → 8 ≤ length part → v ≡ value_from 0 (bits (take 8 (drop 0 part))) → StandsFor (polynomial p) part 8 (get_or words 1 0 ⊕ v)
  first_of v l ev = eight-more 0 1 (get_or words 1 0) v l (word-one pos 64 words s ∙ ap (rem (polynomial p)) (sym (one-mul (2 ^ 64)))) ev refl

  next_of : (i x z v : ℕ) → StandsFor (polynomial p) part i x → i + 8 ≤ length part → z ≡ looked 8 words 8 0 x → v ≡ value_from 0 (bits (take 8 (drop i part)))
      → StandsFor (polynomial p) part (i + 8) (z ⊕ v)
  next_of i x z v g l ez ev = eight-more i x z v l (ez ∙ shifted pos 64 words x s g.0) ev g.1

  -- nothing is left
  all_of : (i x : ℕ) → StandsFor (polynomial p) part i x → length part ≤ i → rem (polynomial p) x ≡ rem (polynomial p) (value_from 1 (bits part))
  all_of i x g l = sym (rw (drop_of_length-le part {i = i} l) (unfold value_from bits in refl)) ∙ g.1

-- ---- one turn

module _ (words part : List ℕ) where
  pub first-eight : (v : ℕ) → 8 ≤ length part → v ≡ value_from 0 (bits (take 8 (drop 0 part))) → Stands words part 8 (get_or words 1 0 ⊕ v)
  first-eight v l ev p h s = first_of p h words s part v l ev

  pub next-eight : (i x z v : ℕ) → Stands words part i x → i + 8 ≤ length part → z ≡ looked 8 words 8 0 x → v ≡ value_from 0 (bits (take 8 (drop i part)))
      → Stands words part (i + 8) (z ⊕ v)
  next-eight i x z v g l ez ev p h s = next_of p h words s part i x z v (g p h s) l ez ev

  pub all_eights : (i x : ℕ) → Stands words part i x → length part ≤ i → FedEights words part x
  all_eights i x g l p h s = all_of p h words s part i x (g p h s) l
