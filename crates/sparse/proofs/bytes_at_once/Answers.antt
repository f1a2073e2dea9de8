-- `bytes_at_once` meets its contract: as many bytes as there are places free above the coefficients' degree.
use Prim.Native.Nat.{ℕ, suc, ◌+◌, ◌-◌, ◌*◌, ◌≤◌, ◌<◌}
use native.Mathlib.Nat.{lt_of_lt_of_le}
use native.Mathlib.Omega.{arith}
use lib.Pow.{pow_mono}
use Rattle.gf2.specs.Polynomials.{degree}
use Rattle.gf2.specs.Moduli.{Proper}
use Rattle.gf2.specs.declared.Modulus.{Modulus}
use Rattle.gf2.proofs.Degrees.{degree-is, deg_hi, deg-le}
use Rattle.sparse.specs.Sparse.{Sparse}
use Rattle.sparse.proofs.bytes_at_once.Goals as goal

module _ (p : Modulus) (proper : Proper p) (some : 0 < p.low) where
  low-degree : degree p.low < p.degree
  low-degree = deg-le p.low (degree p.low) p.degree (degree-is p.low some) proper.2

  -- n bytes where so many places are free
  enough : p.low < 256 → (n : ℕ) → n ≤ 7 → 8 * n ≤ p.degree - degree p.low → 0 < n → Sparse p n
  enough low n few l pos = (
    proper,
    pos,
    few,
    low,
    omega arith,
    lt_of_lt_of_le (deg_hi p.low (degree p.low) (degree-is p.low some))
        (pow_mono {i = suc (degree p.low)} {j = p.degree - 8 * n + 1} (omega arith)),
  )

pub overflow_sub-n : goal.overflow_sub-n
overflow_sub-n c =
    omega (arith, c.degree.ensures, low-degree c.args.p c.requires (omega arith))

pub returns-else-n-eq0 : goal.returns-else-n-eq0
returns-else-n-eq0 c =
    enough c.args.p c.requires (omega arith) (omega arith) c.min.result (omega arith) (omega (arith, c.degree.ensures)) (omega arith)
