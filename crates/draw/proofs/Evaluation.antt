-- Multiplication by a modulo f, and values of polynomials at e: both are linear. The powers of e, and the relation among them that e draws.
use mathlib.Core.Path.{◌≡◌, sym, ap, ◌∙◌}
use mathlib.Core.List.{List}
use Prim.Native.Nat.{ℕ, suc, ◌+◌, ◌*◌, ◌^◌, ◌≤◌, ◌<◌}
use native.Mathlib.Nat.{pow-suc, lt_of_lt_of_le}
use native.Mathlib.Numerals.{add-one}
use native.Mathlib.Omega.{arith}
use lib.Pow.{pow_mono}
use Rattle.gf2.specs.Polynomials.{◌⊗◌, rem}
use Rattle.gf2.specs.Degrees.{Degree}
use Rattle.gf2.specs.Moduli.{polynomial, Proper}
use Rattle.gf2.specs.declared.Modulus.{Modulus}
use Rattle.gf2.proofs.Degrees.{deg_hi, deg-pos}
use Rattle.gf2.proofs.Monics.{monic-pos, monic-degree}
use Rattle.gf2.proofs.Products.{⊕-⊗, ⊗_comm, ⊗-pow}
use Rattle.gf2.proofs.Linear.{Additive}
use Rattle.gf2.proofs.Residues.{rem-⊕}
use Rattle.gf2.proofs.Steps.{residue-word, shift-next}
use Rattle.basis.specs.Rows.{sum_of, NoRelation, Matrix}
use Rattle.fields.specs.Fields.{compose, at}
use Rattle.fields.specs.Primes.{Field}
use Rattle.fields.proofs.Values.{at-⊕, at_one, at_dbl}
use Rattle.draw.specs.Drawing.{Draws, drawn}
use Rattle.draw.proofs.Draws.{no_smaller, draw, drawn-is}

pub positive : (p : Modulus) → Proper p → 0 < polynomial p
positive p h = monic-pos p.degree p.low h.2

-- ---- multiplication by a

module _ {f : ℕ} (pos : 0 < f) (a : ℕ) where
  pub times_additive : Additive (λ x. rem f (x ⊗ a))
  times_additive = record { sum = λ x y. ap (rem f) (⊕-⊗ x y a) ∙ rem-⊕ pos (x ⊗ a) (y ⊗ a) }

  place_times : (j : ℕ) → 2 ^ j ⊗ a ≡ a * 2 ^ j
  place_times j = ⊗_comm (2 ^ j) a ∙ ⊗-pow j a

  pub times_next : (j x : ℕ) → x ≡ rem f (2 ^ j ⊗ a) → rem f (x * 2 + 0) ≡ rem f (2 ^ (j + 1) ⊗ a)
  times_next j x e =
      ap (λ (y : ℕ). rem f (y * 2 + 0)) (e ∙ ap (rem f) (place_times j))
      ∙ shift-next pos a j
      ∙ ap (rem f) (sym (ap (λ (n : ℕ). 2 ^ n ⊗ a) (add-one j) ∙ place_times (suc j)))

-- ---- the value at e, modulo a polynomial as the code holds it

-- the rows are multiplication by e
abbrev pub Times : Modulus → ℕ → List ℕ → Type 0
Times p e rows = Proper p × (e < 2 ^ p.degree) × Matrix (λ x. rem (polynomial p) (x ⊗ e)) rows

module _ (p : Modulus) (m : Proper p) (e : ℕ) where
  pub value-additive : Additive (λ q. at (polynomial p) q e)
  value-additive = record { sum = λ q r. at-⊕ (positive p m) q r e }

  pub first-power : at (polynomial p) 1 e ≡ 1
  first-power = at_one (positive p m) e (rw (monic-degree p.degree p.low m.2) (pow_mono {i = 1} {j = p.degree} m.0))

  pub next_power : e < 2 ^ p.degree → (i x : ℕ) → x ≡ at (polynomial p) (2 ^ i) e → rem (polynomial p) (x ⊗ e) ≡ at (polynomial p) (2 ^ (i + 1)) e
  next_power l i x q =
      ap (λ (y : ℕ). rem (polynomial p) (y ⊗ e)) q
      ∙ sym (ap (λ (y : ℕ). at (polynomial p) y e) (ap (λ (n : ℕ). 2 ^ n) (add-one i) ∙ pow-suc 2 i)
      ∙ at_dbl (positive p m) (2 ^ i) e (rw (monic-degree p.degree p.low m.2) l))

  pub value-word : (q : ℕ) → at (polynomial p) q e < 2 ^ 64
  unfolding at
  value-word q = residue-word p.degree p.low m.2 m.1 (compose q e)

-- ---- the relation among the powers

module _ (f k : ℕ) (h : Field f k) (e : ℕ) (low : 1 < e) (high : e < 2 ^ k) (l : k < 64) (rows : List ℕ) (is : Matrix (λ p. at f p e) rows) where
  value : (n x : ℕ) → n ≤ 64 → x < 2 ^ n → sum_of x rows ≡ at f x e
  value n x m b = is x (lt_of_lt_of_le b (pow_mono m))

  pub none-smaller : NoRelation k rows
  none-smaller x b z = no_smaller f k h e low high x b (sym (value k x (omega arith) b) ∙ z)

  pub one-there : NoRelation (k + 1) rows → ⊥
  one-there none = found (draw f k h e low high)
    where
      found : (p : ℕ) × Draws f k e p → ⊥
      found d =
          let b : d.0 < 2 ^ (k + 1) = rw (add-one k) (deg_hi d.0 k d.1.of_degree) in
          omega (arith, none d.0 b (value (k + 1) d.0 (omega arith) b ∙ d.1.root), deg-pos d.0 k d.1.of_degree)

  pub relation_drawn : (r : ℕ) → Degree r k → sum_of r rows ≡ 0 → r ≡ drawn f k e
  relation_drawn r d z =
      sym (drawn-is f k h e low high r (record { of_degree = d; root = sym (value (suc k) r (omega arith) (deg_hi r k d)) ∙ z }))
