-- Inverses modulo an irreducible polynomial: there is one of each polynomial that it does not divide, and one only.
use mathlib.Core.Path.{◌≡◌, sym, ap, ◌∙◌}
use mathlib.Core.Logic.{⊎_elim}
use Prim.Native.Nat.{ℕ, ◌*◌, ◌^◌, ◌≤◌, ◌<◌}
use native.Mathlib.Omega.{arith}
use lib.Dec.{eqb}
use lib.Pow.{pow-lt}
use borrow.Author.Tests.{eq-eqb, eqb-true}
use Rattle.lists.proofs.Searches.{first-is}
use Rattle.gf2.specs.Polynomials.{◌⊕◌, ◌⊗◌, degree, rem, Divides, Irreducible}
use Rattle.gf2.specs.Inverses.{inverse}
use Rattle.gf2.proofs.Sums.{xor}
use Rattle.gf2.proofs.Products.{⊗-one, ⊗_assoc, ⊗-pow}
use Rattle.gf2.proofs.Degrees.{degree-is, degree-from}
use Rattle.gf2.proofs.Divisors.{dvd_by, dvd-left, dvd-⊕}
use Rattle.gf2.proofs.Residues.{rem_lt, rem-dvd, rem_cong, rem-small}
use Rattle.gf2.proofs.Powers.{rem-⊗-left, rem-⊗-right}
use Rattle.gf2.proofs.Irreducibles.{Bezout, bezout}
use Rattle.gf2.proofs.Congruences.{irreducible-pos, no_power, cancel}

module _ (p : ℕ) (irr : Irreducible p) where
  pos : 0 < p
  pos = irreducible-pos irr

  one-small : 1 < 2 ^ degree p
  one-small = pow-lt {i = 0} (degree-from 1 p irr.proper)

  module _ (a : ℕ) (n : Divides p a → ⊥) where
    -- from Bezout's equation
    some : Bezout p a → ℕ
    some b = rem p b.v

    some_is : (b : Bezout p a) → rem p (some b ⊗ a) ≡ 1
    unfolding some
    some_is b =
        rem-⊗-left pos b.v a
        ∙ rem_cong pos (b.v ⊗ a) 1 (dvd_by (dvd-left b.u p) (moved ∙ ap (λ (x : ℕ). b.v ⊗ a ⊕ x) is))
        ∙ rem-small pos 1 one-small
      where
        is : b.u ⊗ p ⊕ b.v ⊗ a ≡ 1
        is = b.combines ∙ ⊎_elim (λ e. e) (λ e. absurd (n (rw e at b.right))) (irr.only b.gcd b.left)

        moved : b.u ⊗ p ≡ b.v ⊗ a ⊕ (b.u ⊗ p ⊕ b.v ⊗ a)
        moved = simp xor

    pub inverse_unique : (x : ℕ) → x < 2 ^ degree p → rem p (x ⊗ a) ≡ 1 → inverse p a ≡ x
    unfolding inverse
    inverse_unique x l e =
        first-is (λ y. eqb (rem p (y ⊗ a)) 1) 0 (2 ^ degree p) x (omega arith) (omega arith) (eq-eqb (rem p (x ⊗ a)) 1 e)
        (λ y h m q. omega (arith, m, cancel p a x y irr n l (omega arith) (e ∙ sym (eqb-true (rem p (y ⊗ a)) 1 q))))

    is_some : inverse p a ≡ some (bezout p a)
    unfolding some
    is_some = inverse_unique (some (bezout p a)) (rem_lt pos (bezout p a).v) (some_is (bezout p a))

    pub inverse-lt : inverse p a < 2 ^ degree p
    unfolding some
    inverse-lt = rw is_some (rem_lt pos (bezout p a).v)

    pub inverse-is : rem p (inverse p a ⊗ a) ≡ 1
    inverse-is = rw is_some (some_is (bezout p a))

    -- times the inverse and times a is times 1
    pub divided : (c : ℕ) → rem p (rem p (c ⊗ inverse p a) ⊗ a) ≡ rem p c
    divided c =
        rem-⊗-left pos (c ⊗ inverse p a) a
        ∙ ap (rem p) (⊗_assoc c (inverse p a) a)
        ∙ sym (rem-⊗-right pos c (inverse p a ⊗ a))
        ∙ ap (λ (x : ℕ). rem p (c ⊗ x)) inverse-is
        ∙ ap (rem p) (⊗-one c)

  -- it depends on the residue alone
  pub residue-divides : (a : ℕ) → (Divides p a → ⊥) → Divides p (rem p a) → ⊥
  residue-divides a n d = n (dvd_by (dvd-⊕ (rem-dvd pos a) d) (simp xor))

  pub inverse-residue : (a : ℕ) → (Divides p a → ⊥) → inverse p (rem p a) ≡ inverse p a
  inverse-residue a n =
      let m = residue-divides a n in
      sym (inverse_unique a n (inverse p (rem p a)) (inverse-lt (rem p a) m) (sym (rem-⊗-right pos (inverse p (rem p a)) a) ∙ inverse-is (rem p a) m))

  -- ---- powers of t

  module _ (two : 2 ≤ degree p) (b : ℕ) where
    pub power-not : Divides p (2 ^ b) → ⊥
    power-not = no_power p (degree p) b irr (degree-is p pos) two

    pub shifted_back : (c : ℕ) → rem p (rem p (c ⊗ inverse p (2 ^ b)) * 2 ^ b) ≡ rem p c
    shifted_back c = ap (rem p) (sym (⊗-pow b (rem p (c ⊗ inverse p (2 ^ b))))) ∙ divided (2 ^ b) power-not c
