-- Values of polynomials: a polynomial over the field of two elements has a value at each residue modulo f.
use Rattle.std.specs.Prelude.{ℕ, zero, suc, ◌/◌, ◌%◌}
use Rattle.gf2.specs.Polynomials.{◌⊕◌, ◌⊗◌, rem}

-- ---- the value p(e) of a polynomial p at a polynomial e: Horner's rule, from the highest coefficient down

-- by the bits of p, at most n of them
unfoldable pub terms : ℕ → ℕ → ℕ → ℕ
terms zero p e = 0
terms (suc n) zero e = 0
terms (suc n) (suc p) e = terms n (suc p / 2) e ⊗ e ⊕ suc p % 2

unfoldable pub compose : ℕ → ℕ → ℕ
compose p e = terms p p e

-- the value modulo f: p is 0 at e where e is a root of p in the field of residues modulo f
unfoldable pub at : ℕ → ℕ → ℕ → ℕ
at f p e = rem f (compose p e)
