-- What `show_residues` requires: 0, 1 and all ones are below 2 ^ degree.
use mathlib.Core.Path.{◌≡◌}
use Prim.Native.Nat.{ℕ, ◌+◌, ◌-◌, ◌/◌, ◌^◌, ◌≤◌, ◌<◌}
use native.Mathlib.Omega.{arith}
use lib.Dec.{lit<}
use lib.Pow.{pow_pos, pow-lt, shr_lt}
use Rattle.gf2_vectors.proofs.show_edges.Goals as goal

ones_lt : (k : ℕ) → k ≤ 64 → (2 ^ 64 - 1) / 2 ^ (64 - k) < 2 ^ k
ones_lt k h = shr_lt k (64 - k) (rw whole (lit< tt))
  where
    whole : k + (64 - k) ≡ 64
    whole = omega arith

pub show_residues-requires : goal.show_residues-requires
show_residues-requires g c = (c.requires.0, c.requires.1, pow_pos c.args.degree, ones_lt c.args.degree c.requires.1)

pub show_residues-requires-2 : goal.show_residues-requires-2
show_residues-requires-2 g c = (c.requires.0, c.requires.1, pow-lt c.requires.0, ones_lt c.args.degree c.requires.1)

pub show_residues-requires-3 : goal.show_residues-requires-3
show_residues-requires-3 g c =
    let below = ones_lt c.args.degree c.requires.1 in
    (c.requires.0, c.requires.1, below, below)
