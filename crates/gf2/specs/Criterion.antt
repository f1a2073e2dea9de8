-- For inner functions: how the code decides whether a polynomial is irreducible, after Berlekamp: where squaring modulo it takes no residue of at
-- most two thirds of its degree to 0 but 0, and keeps no residue but 0 and 1. The promises speak of `Irreducible` alone.
use Rattle.std.specs.Prelude.{◌≡◌, ℕ, ◌+◌, ◌*◌, ◌/◌, ◌^◌, ◌<◌}
use Rattle.gf2.specs.Polynomials.{◌⊗◌, degree, rem, Irreducible}

pub record Rigid (p : ℕ) : Type 0 where
  pub proper : 1 < p
  pub no_nilpotent : (h : ℕ) → 0 < h → h < 2 ^ (2 * degree p / 3 + 1) → rem p (h ⊗ h) ≡ 0 → ⊥
  pub no_idempotent : (h : ℕ) → 1 < h → h < 2 ^ degree p → rem p (h ⊗ h) ≡ h → ⊥

abbrev pub RigidIrreducible : Type 0
RigidIrreducible = (p : ℕ) → Rigid p → Irreducible p

abbrev pub IrreducibleRigid : Type 0
IrreducibleRigid = (p : ℕ) → Irreducible p → Rigid p
