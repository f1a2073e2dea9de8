-- For inner functions: a reader of the promises need not read this page. Powers of polynomials.
use Rattle.std.specs.Prelude.{ℕ, zero, suc}
use Rattle.gf2.specs.Polynomials.{◌⊗◌}

-- the power a^n
infixr 75 ◌⊗^◌
unfoldable pub ◌⊗^◌ : ℕ → ℕ → ℕ
a ⊗^ zero = 1
a ⊗^ suc n = a ⊗ a ⊗^ n
