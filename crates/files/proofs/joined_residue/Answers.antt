-- `files::joined_residue` meets its contract: `joined_is`.
use mathlib.Core.Path.{sym}
use Prim.Native.Nat.{ℕ, ◌^◌, ◌≤◌, ◌<◌}
use native.Mathlib.Nat.{lt_of_lt_of_le}
use lib.Pow.{pow_mono}
use Rattle.gf2.specs.Polynomials.{◌⊕◌}
use Rattle.gf2.proofs.Sums.{⊕-lt}
use Rattle.files.proofs.Computing.{joined_is}
use Rattle.files.proofs.joined_residue.Goals as goal

two-below : (k s : ℕ) → 1 ≤ k → s < 2 → s < 2 ^ k
two-below k s l h = lt_of_lt_of_le h (pow_mono {i = 1} {j = k} l)

pub with_zeros-requires : goal.with_zeros-requires
unfolding ◌⊕◌
with_zeros-requires c =
    let a = c.args in
    (c.requires.0, ⊕-lt a.p.degree a.f a.start c.requires.2 (two-below a.p.degree a.start c.requires.0.0 c.requires.1))

pub returns : goal.returns
unfolding ◌⊕◌
returns c =
    let a = c.args in
    rw c.with_zeros.ensures (sym (joined_is a.p.degree a.p.low c.requires.0.2 a.start a.f a.g a.b c.requires.3))
