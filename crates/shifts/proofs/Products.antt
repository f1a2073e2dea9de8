-- Laws of the product of a residue and a power of t by a table.
use mathlib.Core.Path.{◌≡◌, sym, ap, ◌∙◌}
use mathlib.Core.List.{List}
use Prim.Native.Nat.{ℕ, zero, suc, ◌+◌, ◌-◌, ◌*◌, ◌/◌, ◌%◌, ◌^◌, ◌<◌}
use native.Mathlib.Numerals.{add-one}
use native.Mathlib.Omega.{arith}
use lib.ListN.{get_or}
use Rattle.gf2.specs.Polynomials.{◌⊕◌, degree, rem}
use Rattle.gf2.proofs.Sums.{⊕_assoc, ⊕-zero}
use Rattle.gf2.proofs.Residues.{rem-small, rem-⊕}
use Rattle.multiples.proofs.Following.{first-multiple}
use Rattle.lookups.specs.Groups.{looked}
use Rattle.lookups.proofs.Cut.{looked-shift}
use Rattle.shifts.specs.Shifts.{Shifts}

pub shifted : {key : ℕ} (pos : 0 < key) (e : ℕ) (words : List ℕ) (f : ℕ) → Shifts key e words → f < 2 ^ 64 → looked 8 words 8 0 f ≡ rem key (f * 2 ^ e)
shifted pos e words f s h = looked-shift 8 pos e 8 words s.rows 8 f (omega arith) h

-- a mark joined behind another of residue f, by the table
module _ {key : ℕ} (pos : 0 < key) (e : ℕ) (words : List ℕ) (s : Shifts key e words) where
  pub word-one : get_or words 1 0 ≡ rem key (2 ^ e)
  word-one = first-multiple pos 8 (2 ^ e) 8 words (omega arith) (omega arith) s.rows

  pub joined_by_table : (f g : ℕ) → f < 2 ^ 64 → g < 2 ^ degree key → looked 8 words 8 0 f ⊕ g ⊕ get_or words 1 0 ≡ rem key (f * 2 ^ e ⊕ g ⊕ 2 ^ e)
  joined_by_table f g hf hg =
      rw (shifted pos e words f s hf, word-one)
      (sym (rem-⊕ pos (f * 2 ^ e ⊕ g) (2 ^ e)
      ∙ ap (λ (x : ℕ). x ⊕ rem key (2 ^ e)) (rem-⊕ pos (f * 2 ^ e) g ∙ ap (λ (x : ℕ). rem key (f * 2 ^ e) ⊕ x) (rem-small pos g hg))))

-- ---- as the code goes

pub look_next : (words : List ℕ) (sum h n j : ℕ) → 0 < n
    → sum ⊕ looked 8 words n j h ≡ (sum ⊕ get_or words (j * 256 + h % 256) 0) ⊕ looked 8 words (n - 1) (j + 1) (h / 256)
unfolding looked
look_next words sum h zero j p = absurd (omega arith)
look_next words sum h (suc n) j p =
    let e : suc n - 1 ≡ n = omega arith in
    rw (e, add-one j) (sym (⊕_assoc sum (get_or words (j * 256 + h % 256) 0) (looked 8 words n (suc j) (h / 256))))

pub look_done : (words : List ℕ) (sum h n j : ℕ) → n ≡ 0 → sum ⊕ looked 8 words n j h ≡ sum
unfolding looked
look_done words sum h n j e = rw e (⊕-zero sum)
