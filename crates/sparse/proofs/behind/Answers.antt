-- `behind` meets its contract: the sparse step.
use mathlib.Core.Path.{◌≡◌, ap, ap₂, ◌∙◌}
use Prim.Native.Nat.{ℕ, ◌+◌, ◌-◌, ◌*◌, ◌/◌, ◌%◌, ◌^◌, ◌<◌}
use native.Mathlib.Nat.{mod-lt, lt_of_lt_of_le}
use native.Mathlib.Omega.{arith}
use lib.Pow.{pow_pos, pow_mono, shl_exact}
use Rattle.gf2.specs.Polynomials.{◌⊕◌, ◌⊗◌, rem}
use Rattle.gf2.specs.Moduli.{polynomial}
use Rattle.gf2.specs.declared.Modulus.{Modulus}
use Rattle.sparse.specs.Sparse.{Sparse}
use Rattle.sparse.proofs.Steps.{top_small, sparse_step}
use Rattle.sparse.proofs.behind.Goals as goal

-- the shift loses nothing
shifted : (p : Modulus) (n : ℕ) → Sparse p n → (f : ℕ) → f % 2 ^ (p.degree - 8 * n) * 2 ^ (8 * n) % 2 ^ 64 ≡ f % 2 ^ (p.degree - 8 * n) * 2 ^ (8 * n)
shifted p n s f = shl_exact (p.degree - 8 * n) (8 * n) 64 (mod-lt f (pow_pos (p.degree - 8 * n))) (omega (arith, s.0.1, s.4))

summed : (p : Modulus) (n : ℕ) (s : Sparse p n) (f v x rest : ℕ) → f < 2 ^ p.degree → v < 2 ^ (8 * n)
    → x ≡ f / 2 ^ (p.degree - 8 * n) ⊗ p.low → rest ≡ f % 2 ^ (p.degree - 8 * n)
    → x ⊕ rest * 2 ^ (8 * n) % 2 ^ 64 ⊕ v ≡ rem (polynomial p) (f * 2 ^ (8 * n) + v)
summed p n s f v x rest hf hv ex er =
    ap₂ (λ (y z : ℕ). y ⊕ z ⊕ v) ex (ap (λ (y : ℕ). y * 2 ^ (8 * n) % 2 ^ 64) er ∙ shifted p n s f)
    ∙ sparse_step p n s f v hf hv

pub times-requires : goal.times-requires
times-requires c =
    let a = c.args in
    (lt_of_lt_of_le (top_small a.p a.n c.requires.0 a.f a.v c.requires.1 c.requires.2) (pow_mono {i = 8 * a.n} {j = 56} (omega arith)), c.requires.0.3)

pub returns : goal.returns
unfolding ◌⊕◌
returns c =
    let a = c.args in
    summed a.p a.n c.requires.0 a.f a.v c.times.result c.low_bits-rest.result c.requires.1 c.requires.2 c.times.ensures
    c.low_bits-rest.ensures
