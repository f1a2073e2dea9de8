-- Laws of the sparse step: what stands at t^k and above, times the coefficients below t^k, is its residue where that stays below t^k.
use mathlib.Core.Path.{◌≡◌, refl, sym, ap, ap₂, ◌∙◌}
use mathlib.Core.List.{List}
use Prim.Native.Nat.{ℕ, ◌+◌, ◌-◌, ◌*◌, ◌/◌, ◌%◌, ◌^◌, ◌≤◌, ◌<◌}
use native.Mathlib.Nat.{le_refl, zero-add, lt_of_lt_of_le}
use native.Mathlib.Numerals.{add-one}
use native.Mathlib.Omega.{arith}
use lib.ListN.{length, take, drop, length-drop}
use lib.Pow.{high, pow_mono}
use lib.Seq.{take_all}
use Rattle.gf2.specs.Polynomials.{◌⊕◌, ◌⊗◌, rem}
use Rattle.gf2.specs.Moduli.{polynomial, Proper}
use Rattle.gf2.specs.declared.Modulus.{Modulus}
use Rattle.gf2.proofs.Sums.{⊕-append, ⊕_assoc}
use Rattle.gf2.proofs.Products.{⊗-pow}
use Rattle.gf2.proofs.Degrees.{⊗-lt}
use Rattle.gf2.proofs.Powers.{rem-⊗-right}
use Rattle.gf2.proofs.Monics.{monic-pos}
use Rattle.gf2.proofs.Steps.{residue-split, residue-top, residue-small}
use Rattle.files.specs.Files.{bits, value_from}
use Rattle.lookups.proofs.Cut.{above, below, top_lt}
use Rattle.big_endian.proofs.Pieces.{value-piece-lt, value-join, Going, going}
use Rattle.sparse.specs.Sparse.{Sparse}

-- what holds for n bytes holds for one
pub one_byte : (p : Modulus) (n : ℕ) → Sparse p n → Sparse p 1
one_byte p n s = (
  s.0,
  omega arith,
  omega arith,
  s.3,
  omega (arith, s.1, s.4),
  lt_of_lt_of_le s.5 (pow_mono {i = p.degree - 8 * n + 1} {j = p.degree - 8 + 1} (omega (arith, s.1))),
)

-- of eight bytes as one number the first n
pub first-bytes : (p : List ℕ) (i n v : ℕ) → n ≤ 8 → i + 8 ≤ length p → v ≡ value_from 0 (bits (take 8 (drop i p)))
    → v / 2 ^ (64 - 8 * n) ≡ value_from 0 (bits (take n (drop i p)))
first-bytes p i n v l h e =
    ap₂ (λ (x m : ℕ). x / 2 ^ m) (e ∙ ap (λ (m : ℕ). value_from 0 (bits (take m (drop i p)))) all ∙ sym joined) spare
    ∙ high (value_from 0 (bits (take n (drop i p)))) (8 * (8 - n)) (value-piece-lt p (i + n) (8 - n) (omega arith))
  where
    all : 8 ≡ n + (8 - n)
    all = omega arith

    spare : 64 - 8 * n ≡ 8 * (8 - n)
    spare = omega arith

    joined : value_from 0 (bits (take n (drop i p))) * 2 ^ (8 * (8 - n)) + value_from 0 (bits (take (8 - n) (drop (i + n) p)))
        ≡ value_from 0 (bits (take (n + (8 - n)) (drop i p)))
    joined =
        value-join p i n (8 - n) (value_from 0 (bits (take n (drop i p)))) (value_from 0 (bits (take (8 - n) (drop (i + n) p)))) (omega arith) refl refl

module _ (p : Modulus) (n : ℕ) (s : Sparse p n) (f v : ℕ) (hf : f < 2 ^ p.degree) (hv : v < 2 ^ (8 * n)) where
  abbrev k : ℕ
  k = p.degree

  abbrev j : ℕ
  j = p.degree - 8 * n

  whole : p.degree ≡ 8 * n + (p.degree - 8 * n)
  whole = omega (arith, s.4)

  pub top_small : f / 2 ^ (p.degree - 8 * n) < 2 ^ (8 * n)
  top_small = top_lt f (8 * n) p.degree s.4 hf

  product_small : f / 2 ^ (p.degree - 8 * n) ⊗ p.low < 2 ^ p.degree
  product_small = rw (← whole) at (⊗-lt (f / 2 ^ j) p.low (8 * n) j top_small (rw add-one at s.5))

  reduced : rem (polynomial p) (f / 2 ^ (p.degree - 8 * n) * 2 ^ p.degree) ≡ f / 2 ^ (p.degree - 8 * n) ⊗ p.low
  reduced =
      ap (rem (polynomial p)) (sym (⊗-pow k (f / 2 ^ j)))
      ∙ sym (rem-⊗-right (monic-pos k p.low s.0.2) (f / 2 ^ j) (2 ^ k))
      ∙ ap (λ (x : ℕ). rem (polynomial p) (f / 2 ^ j ⊗ x)) (residue-top k p.low s.0.2)
      ∙ residue-small k p.low s.0.2 (f / 2 ^ j ⊗ p.low) product_small

  pub sparse_step : f / 2 ^ (p.degree - 8 * n) ⊗ p.low ⊕ f % 2 ^ (p.degree - 8 * n) * 2 ^ (8 * n) ⊕ v ≡ rem (polynomial p) (f * 2 ^ (8 * n) + v)
  sparse_step =
      ⊕_assoc (f / 2 ^ j ⊗ p.low) (f % 2 ^ j * 2 ^ (8 * n)) v
      ∙ ap₂ (λ (x y : ℕ). x ⊕ y)
      (sym reduced ∙ ap (λ (x : ℕ). rem (polynomial p) (x * 2 ^ k)) (sym (above f v (8 * n) j hv) ∙ ap (λ (m : ℕ). (f * 2 ^ (8 * n) + v) / 2 ^ m) (sym whole)))
      (⊕-append (f % 2 ^ j) (8 * n) v hv ∙ sym (below f v (8 * n) j hv) ∙ ap (λ (m : ℕ). (f * 2 ^ (8 * n) + v) % 2 ^ m) (sym whole))
      ∙ sym (residue-split k p.low s.0.2 (f * 2 ^ (8 * n) + v))

-- ---- a loop over a part: x, with the rest of the part behind it, stands for f and the part

abbrev pub Stands : Modulus → ℕ → List ℕ → ℕ → List ℕ → Type 0
Stands p f part x rest = (x < 2 ^ p.degree) × (rem (polynomial p) (value_from x (bits rest)) ≡ rem (polynomial p) (value_from f (bits part)))

-- n bytes more
pub stands-next : (p : Modulus) → Proper p → (f : ℕ) (part : List ℕ) (x : ℕ) (rest : List ℕ) → Stands p f part x rest → (n v y : ℕ) → n ≤ length rest
    → v ≡ value_from 0 (bits (take n rest)) → y ≡ rem (polynomial p) (x * 2 ^ (8 * n) + v) → Stands p f part y (take (length rest - n) (drop n rest))
stands-next p proper f part x rest s n v y l ev ey = rw (take_all (length rest - n) (drop n rest) (rw length-drop (le_refl (length rest - n)))) (g.0, g.1 ∙ s.1)
  where
    g : Going p x rest 0 n y
    g = rw zero-add at (going p proper x rest 0 0 x (s.0, refl) n v y (omega arith) ev ey)
