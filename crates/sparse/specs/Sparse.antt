-- For inner functions: a reader of the promises need not read this page, as every call's value is the residue.
use Rattle.std.specs.Prelude.{ℕ, ◌+◌, ◌-◌, ◌*◌, ◌^◌, ◌≤◌, ◌<◌}
use Rattle.gf2.specs.Moduli.{Proper}
use Rattle.gf2.specs.declared.Modulus.{Modulus}

-- n bytes come in at a time: a product of 8n coefficients and those below t^k stays below t^k
abbrev pub Sparse : Modulus → ℕ → Type 0
Sparse p n = Proper p × (0 < n) × (n ≤ 7) × (p.low < 2 ^ 8) × (8 * n ≤ p.degree) × (p.low < 2 ^ (p.degree - 8 * n + 1))
