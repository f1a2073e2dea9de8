-- A table made by doubling, as the checker computes it: each row of multiples is its first half, and that half with one multiple added.
-- For every key, every width of group and every number of rows.
use mathlib.Core.Path.{◌≡◌, refl, sym, ap, ap₂, ◌∙◌}
use mathlib.Core.List.{List, [], ◌∷◌, ◌++◌, map}
use Prim.Native.Nat.{ℕ, zero, suc, ◌+◌, ◌*◌, ◌^◌, ◌<◌}
use native.Mathlib.Nat.{zero-add, zero-mul, suc-mul, pow-suc}
use native.Mathlib.Omega.{arith}
use lib.Dec.{T}
use Rattle.gf2.specs.Polynomials.{◌⊕◌, long_product, ◌⊗◌, halvings, degree, reduce, long_division, rem}
use Rattle.lists.specs.Lists.{list_from, same}
use Rattle.lists.proofs.Lists.{same-eq, list_append, list_map, list_same}
use Rattle.lookups.specs.Rule.{word}
use Rattle.lookups.proofs.Rule.{word_row}
use Rattle.multiples.proofs.Doubling.{multiple-zero, multiple-double}

unfoldable pub doubled : ℕ → List ℕ → List ℕ
doubled y words = words ++ map (λ v. v ⊕ y) words

-- the multiples of x by 0 to 2^b - 1
unfoldable pub row : ℕ → ℕ → ℕ → List ℕ
row key x zero = 0 ∷ []
row key x (suc b) = doubled (rem key (2 ^ b ⊗ x)) (row key x b)

-- c rows of 2^w words (`unfolding rows` opens all that they are computed with)
unfoldable pub rows : ℕ → ℕ → ℕ → List ℕ
unfolding row doubled rem long_division reduce degree halvings ◌⊗◌ long_product ◌⊕◌
rows w key zero = []
rows w key (suc c) = rows w key c ++ row key (rem key (2 ^ degree key * 2 ^ (w * c))) w

-- ---- the rows are the table's

module _ {key : ℕ} (pos : 0 < key) where
  row_is : (x b : ℕ) → row key x b ≡ list_from (λ i. rem key (i ⊗ x)) 0 (2 ^ b)
  unfolding row doubled list_from
  row_is x zero = ap (λ (v : ℕ). v ∷ []) (sym (multiple-zero pos x))
  row_is x (suc b) =
      ap (λ (ws : List ℕ). ws ++ map (λ v. v ⊕ y) ws) (row_is x b)
      ∙ ap (λ (ws : List ℕ). list_from f 0 (2 ^ b) ++ ws)
      (list_map f (λ v. v ⊕ y) 0 (2 ^ b) ∙ list_same (λ i. f i ⊕ y) f 0 (0 + 2 ^ b) (2 ^ b)
      (λ i l. rw (zero-add i, zero-add (2 ^ b)) (sym (multiple-double pos x b i l))))
      ∙ sym (list_append f 0 (2 ^ b) (2 ^ b))
      ∙ ap (list_from f 0) twice
    where
      f : ℕ → ℕ
      f i = rem key (i ⊗ x)

      y : ℕ
      y = rem key (2 ^ b ⊗ x)

      twice : 2 ^ b + 2 ^ b ≡ 2 ^ suc b
      twice = rw pow-suc (omega arith)

  rows-table : (w c : ℕ) → rows w key c ≡ list_from (word w key) 0 (c * 2 ^ w)
  unfolding rows list_from
  rows-table w zero = rw zero-mul refl
  rows-table w (suc c) =
      ap₂ (λ (us vs : List ℕ). us ++ vs) (rows-table w c)
      (row_is x w ∙ list_same (λ i. rem key (i ⊗ x)) (word w key) 0 (0 + c * 2 ^ w) (2 ^ w)
      (λ i l. rw (zero-add i, zero-add (c * 2 ^ w)) (sym (word_row w pos c i l))))
      ∙ sym (list_append (word w key) 0 (c * 2 ^ w) (2 ^ w))
      ∙ ap (list_from (word w key) 0) (sym (suc-mul c (2 ^ w)))
    where
      x : ℕ
      x = rem key (2 ^ degree key * 2 ^ (w * c))

  -- words that pass the test are the table
  pub table_by_test : (w c : ℕ) (words : List ℕ) → T (same words (rows w key c)) → words ≡ list_from (word w key) 0 (c * 2 ^ w)
  table_by_test w c words t = same-eq words (rows w key c) t ∙ rows-table w c
