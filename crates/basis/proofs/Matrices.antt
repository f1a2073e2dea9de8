-- A linear map by its rows: where row j is the value at t^j, the rows that the bits of x choose sum to the value at x.
use Rattle.std.proofs.Common.{◌≡◌, ℕ, suc, ◌+◌, ◌*◌, ◌/◌, ◌%◌, ◌^◌, ◌<◌, List, [], ◌∷◌, length, get_or, set, sym, ap, ◌∙◌, ap₂, suc-le-suc, add-zero, add-suc}
use Rattle.std.proofs.Common.{mul_assoc, mul_comm, suc-add, pow-suc, zero-add, zero-mul, mul-one, arith}
use lib.Arith.{lt-one}
use Rattle.gf2.specs.Polynomials.{◌⊕◌}
use Rattle.gf2.proofs.Sums.{⊕_comm, ⊕_shl}
use Rattle.gf2.proofs.Products.{by_low}
use Rattle.lists.specs.Lists.{list_from}
use Rattle.lists.proofs.Lists.{stored, length_list, list_at}
use Rattle.gf2.proofs.Degrees.{half_lt}
use Rattle.gf2.proofs.Linear.{Additive, at_zero, at-bit}
use Rattle.basis.specs.Rows.{sum_of, Matrix}

module _ {L : ℕ → ℕ} (add : Additive L) where
  -- the rows from t^s on
  sum-from : (rows : List ℕ) (s : ℕ) → ((j : ℕ) → j < length rows → get_or rows j 0 ≡ L (2 ^ (s + j))) → (x : ℕ) → x < 2 ^ length rows
      → sum_of x rows ≡ L (x * 2 ^ s)
  unfolding sum_of
  sum-from [] s h x l = rw (lt-one l, zero-mul) (sym (at_zero add))
  sum-from (r ∷ rows) s h x l =
      ap₂ (λ (y z : ℕ). x % 2 * y ⊕ z) (h 0 (omega arith) ∙ ap (λ (n : ℕ). L (2 ^ n)) (add-zero s)) (sum-from rows (suc s) later (x / 2) half)
      ∙ ap (λ (y : ℕ). y ⊕ L (x / 2 * 2 ^ suc s)) (sym (at-bit add x (2 ^ s)))
      ∙ sym (add.sum (x % 2 * 2 ^ s) (x / 2 * 2 ^ suc s))
      ∙ ap L together
    where
      later : (j : ℕ) → j < length rows → get_or rows j 0 ≡ L (2 ^ (suc s + j))
      later j m = h (suc j) (suc-le-suc m) ∙ ap (λ (n : ℕ). L (2 ^ n)) (add-suc s j ∙ sym (suc-add s j))

      half : x / 2 < 2 ^ length rows
      half = half_lt x (length rows) l

      together : x % 2 * 2 ^ s ⊕ x / 2 * 2 ^ suc s ≡ x * 2 ^ s
      together =
          ap (λ (y : ℕ). x % 2 * 2 ^ s ⊕ y) (ap (λ (y : ℕ). x / 2 * y) (pow-suc 2 s ∙ mul_comm (2 ^ s) 2) ∙ sym (mul_assoc (x / 2) 2 (2 ^ s)))
          ∙ ⊕_comm (x % 2 * 2 ^ s) (x / 2 * 2 * 2 ^ s)
          ∙ sym (⊕_shl s (x / 2 * 2) (x % 2))
          ∙ ap (λ (y : ℕ). y * 2 ^ s) (by_low x)

  -- listed rows from t^i on
  pub sum-listed : (i n x : ℕ) → x < 2 ^ n → sum_of x (list_from (λ j. L (2 ^ j)) i n) ≡ L (x * 2 ^ i)
  sum-listed i n x l =
      sum-from (list_from (λ j. L (2 ^ j)) i n) i (λ j m. list_at (λ j. L (2 ^ j)) i n j (rw (length_list (λ j. L (2 ^ j)) i n) at m)) x (rw length_list l)

-- ---- the rows are filled in one by one

-- the rows before the n-th are in, and x is the n-th
abbrev pub Filling : (ℕ → ℕ) → List ℕ → ℕ → ℕ → Type 0
Filling L rows x n = (x ≡ L (2 ^ n)) × ((j : ℕ) → j < n → get_or rows j 0 ≡ L (2 ^ j))

module _ {L : ℕ → ℕ} (add : Additive L) (rows : List ℕ) (x n : ℕ) where
  pub filling-next : n < length rows → Filling L rows x n → (y : ℕ) → y ≡ L (2 ^ (n + 1)) → Filling L (set rows n x) y (n + 1)
  filling-next l h y e = (e, λ j m. stored 0 (λ k z. z ≡ L (2 ^ k)) rows n x l h.0 j (λ q. h.1 j (omega (arith, q))))

  pub filling_matrix : length rows ≡ 64 → n ≡ 64 → Filling L rows x n → Matrix L rows
  filling_matrix e d h y l =
      sum-from add rows 0 (λ j m. h.1 j (omega arith) ∙ ap (λ (i : ℕ). L (2 ^ i)) (sym (zero-add j))) y (rw e l) ∙ ap L (mul-one y)
