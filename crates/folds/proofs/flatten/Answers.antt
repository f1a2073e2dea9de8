-- `flatten` meets its contract: the parts that stand at lower places are added at the end, none of them changed before it is added.
use mathlib.Core.Path.{◌≡◌, ap₂, ◌∙◌}
use mathlib.Core.List.{List}
use Prim.Native.Nat.{ℕ, ◌+◌, ◌*◌}
use native.Mathlib.Nat.{zero-add, zero-mul, one-mul}
use native.Mathlib.Omega.{arith}
use lib.ListN.{take}
use Rattle.gf2.specs.Polynomials.{◌⊕◌}
use Rattle.gf2.proofs.Sums.{⊕_assoc, ⊕-zero}
use Rattle.fold_blocks.specs.Folds.{exponents, front, folded}
use Rattle.fold_blocks.proofs.Folding.{front-zero, front_same}
use Rattle.folds.proofs.flatten.Goals as goal

-- the sum as the exponents have it
all-added : (s : ℕ) (q : List ℕ) → front q (61 * s) ⊕ front q (5 * s) ⊕ front q (2 * s) ⊕ front q s ≡ folded exponents s q 0
unfolding folded
all-added s q =
    rw (zero-add (61 * s), zero-add (5 * s), zero-add (2 * s), zero-add (1 * s), zero-add (0 * s), one-mul s, zero-mul s, front-zero q)
    (simp (⊕_assoc, ⊕-zero))

-- q becomes q₁, q₂ and q₃
module _ (s : ℕ) (q q₁ q₂ q₃ : List ℕ)
    (e₁ : front q₁ (56 * s + 5 * s) ≡ front q (56 * s + 5 * s) ⊕ front q (5 * s)) (k₁ : take (56 * s) q₁ ≡ take (56 * s) q)
    (e₂ : front q₂ (59 * s + 2 * s) ≡ front q₁ (59 * s + 2 * s) ⊕ front q₁ (2 * s)) (k₂ : take (59 * s) q₂ ≡ take (59 * s) q₁)
    (e₃ : front q₃ (60 * s + s) ≡ front q₂ (60 * s + s) ⊕ front q₂ s) where
  first-end : 56 * s + 5 * s ≡ 61 * s
  first-end = omega arith

  second-end : 59 * s + 2 * s ≡ 61 * s
  second-end = omega arith

  third-end : 60 * s + s ≡ 61 * s
  third-end = omega arith

  once : front q₁ (61 * s) ≡ front q (61 * s) ⊕ front q (5 * s)
  once = rw first-end at e₁

  twice : front q₂ (61 * s) ≡ front q (61 * s) ⊕ front q (5 * s) ⊕ front q (2 * s)
  twice = (rw second-end at e₂) ∙ ap₂ (λ (x y : ℕ). x ⊕ y) once (front_same q₁ q (56 * s) (2 * s) (omega arith) k₁)

  same_word : front q₂ s ≡ front q s
  same_word = front_same q₂ q₁ (59 * s) s (omega arith) k₂ ∙ front_same q₁ q (56 * s) s (omega arith) k₁

  flat : front q₃ (61 * s) ≡ folded exponents s q 0
  flat = (rw third-end at e₃) ∙ ap₂ (λ (x y : ℕ). x ⊕ y) twice same_word ∙ all-added s q

pub returns : goal.returns
returns c =
    let a = c.args in
    let x = c.add_front in
    let y = c.add_front-2 in
    let z = c.add_front-3 in
    flat a.s a.q.now x.new.q y.new.q z.new.q x.ensures.0 x.ensures.1 y.ensures.0 y.ensures.1 z.ensures.0
