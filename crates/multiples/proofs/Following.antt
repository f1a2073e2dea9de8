-- Laws of rows one behind the other, each with the multiples of t^w times the start of the row before it: one turn of the loops that fill
-- and test them.
use mathlib.Core.Path.{◌≡◌, sym, ap, ◌∙◌}
use mathlib.Core.List.{List}
use Prim.Native.Nat.{ℕ, suc, ◌+◌, ◌*◌, ◌/◌, ◌^◌, ◌≤◌, ◌<◌}
use native.Mathlib.Nat.{mul-zero, mul-one, mul-suc, mul-le-mul_right}
use native.Mathlib.Numerals.{add-one}
use native.Mathlib.Decide.{dec_lt}
use native.Mathlib.Omega.{arith}
use lib.Arith.{digits_lt}
use lib.ListN.{get_or}
use lib.Pow.{pow-add, pow_pos}
use Rattle.gf2.specs.Polynomials.{◌⊗◌, rem}
use Rattle.gf2.specs.Moduli.{polynomial, Proper}
use Rattle.gf2.specs.declared.Modulus.{Modulus}
use Rattle.gf2.proofs.Products.{one-⊗, ⊗_comm, ⊗-pow}
use Rattle.gf2.proofs.Powers.{rem-rem, rem_shl, rem-⊗-right}
use Rattle.gf2.proofs.Monics.{monic-pos}
use Rattle.gf2.proofs.Steps.{residue-small, residue-below}
use Rattle.multiples.specs.Rows.{Multiples, Rows, SameBefore}
use Rattle.multiples.proofs.Doubling.{multiple-next, power-half}

-- the rows of another number with the same residue
pub rows_same : {key : ℕ} (pos : 0 < key) (w x y c : ℕ) (words : List ℕ) → rem key x ≡ rem key y → Rows w key x c words → Rows w key y c words
rows_same {key} pos w x y c words e f j l =
    rw (sym (rem_shl pos x (w * j)) ∙ ap (λ (z : ℕ). rem key (z * 2 ^ (w * j))) e ∙ rem_shl pos y (w * j)) at (f j l)

-- word 1 of the rows is the number itself, reduced
pub first-multiple : {key : ℕ} (pos : 0 < key) (w x c : ℕ) (words : List ℕ) → 1 < 2 ^ w → 0 < c → Rows w key x c words → get_or words 1 0 ≡ rem key x
first-multiple {key} pos w x c words l h f =
    let z : 0 * 2 ^ w + 1 ≡ 1 = omega arith in
    ap (λ (n : ℕ). get_or words n 0) (sym z)
    ∙ f 0 h 1 l
    ∙ ap (rem key) (one-⊗ (rem key (x * 2 ^ (w * 0))))
    ∙ rem-rem pos (x * 2 ^ (w * 0))
    ∙ ap (rem key) (rw mul-zero (mul-one x))

-- ---- the places of row j among those of c rows

module _ (w j c size n : ℕ) (es : size ≡ 2 ^ w) (h : j < c) (l : c * 2 ^ w ≤ n) where
  pub row-le : j * size + 2 ^ w ≤ n
  row-le =
      let m : suc j * 2 ^ w ≤ c * 2 ^ w = mul-le-mul_right (2 ^ w) h in
      rw es (omega (arith, m, l))

-- ---- one turn

-- row j: its size, its start and its words
pub record Row (p : Modulus) (w x size j y : ℕ) (words : List ℕ) : Type 0 where
  pub proper : Proper p
  pub some : 0 < w
  pub whole : size ≡ 2 ^ w
  pub start : y ≡ rem (polynomial p) (x * 2 ^ (w * j))
  pub row : Multiples (polynomial p) y (j * size) (2 ^ w) words

pub start_first : (p : Modulus) → Proper p → (w x : ℕ) → x < 2 ^ p.degree → x ≡ rem (polynomial p) (x * 2 ^ (w * 0))
start_first p h w x l = sym (rw (mul-zero w, mul-one x) (residue-small p.degree p.low h.2 x l))

module _ {p : Modulus} {w x size j y : ℕ} {words : List ℕ} (r : Row p w x size j y words) where
  -- it stands behind those before it
  pub rows_more : (before : List ℕ) → Rows w (polynomial p) x j before → SameBefore (j * size) before words → Rows w (polynomial p) x (j + 1) words
  rows_more before f same i l = go (dec_lt i j)
    where
      go : Dec (i < j) → Multiples (polynomial p) (rem (polynomial p) (x * 2 ^ (w * i))) (i * 2 ^ w) (2 ^ w) words
      go (yes h) = λ m b. same (i * 2 ^ w + m) (rw r.whole (digits_lt h b)) ∙ f i h m b
      go (no h) = let q : i ≡ j = omega arith in rw q (rw (r.whole, r.start) at r.row)

  half : size / 2 * 2 ≡ 2 ^ w
  half = rw r.whole (power-half w r.some)

  middle : get_or words (j * size + size / 2) 0 ≡ rem (polynomial p) (size / 2 ⊗ y)
  middle = r.row (size / 2) (omega (arith, half, pow_pos w))

  pub middle-lt : get_or words (j * size + size / 2) 0 < 2 ^ p.degree
  middle-lt = residue-below p r.proper _ (size / 2 ⊗ y) middle

  -- the start of the next row
  pub start-next : (z : ℕ) → z ≡ rem (polynomial p) (get_or words (j * size + size / 2) 0 * 2 + 0) → z ≡ rem (polynomial p) (x * 2 ^ (w * (j + 1)))
  start-next z e =
      e
      ∙ ap (λ (v : ℕ). rem (polynomial p) (v * 2 + 0)) middle
      ∙ multiple-next pos y (size / 2)
      ∙ ap (λ (v : ℕ). rem (polynomial p) (v ⊗ y)) half
      ∙ ap (λ (v : ℕ). rem (polynomial p) (2 ^ w ⊗ v)) r.start
      ∙ rem-⊗-right pos (2 ^ w) (x * 2 ^ (w * j))
      ∙ ap (rem (polynomial p)) (⊗_comm (2 ^ w) (x * 2 ^ (w * j)) ∙ ⊗-pow w (x * 2 ^ (w * j)) ∙ next)
    where
      pos : 0 < polynomial p
      pos = monic-pos p.degree p.low r.proper.2

      next : x * 2 ^ (w * j) * 2 ^ w ≡ x * 2 ^ (w * (j + 1))
      next = rw (add-one, mul-suc, pow-add) (omega arith)
