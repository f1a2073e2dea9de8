-- For inner functions: a reader of the promises need not read this page. The tables that windows are rolled by.
use Rattle.std.specs.Prelude.{List, ℕ, ◌*◌, ◌^◌, ◌<◌}
use Rattle.gf2.specs.Moduli.{polynomial}
use Rattle.gf2.specs.declared.Modulus.{Modulus}
use Rattle.multiples.specs.Rows.{Multiples}
use Rattle.lookups.specs.Groups.{ReducesByte}

-- the two tables of 256 words for windows of m bytes: the multiples of t^k, for the byte that comes in, and of t^(8m), for the one that goes out
pub record Ready (p : Modulus) (m : ℕ) (reduceTable outgoingTable : List ℕ) : Type 0 where
  pub some : 0 < m
  pub reduce : ReducesByte p reduceTable
  pub outgoing : Multiples (polynomial p) (2 ^ (8 * m)) 0 256 outgoingTable
