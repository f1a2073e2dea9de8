-- Laws of the flags of windows.
use mathlib.Core.Path.{◌≡◌, ap}
use Prim.Native.Nat.{ℕ, ◌+◌}
use lib.Dec.{eqb}
use Rattle.rolling.specs.declared.text_windows.Windows.{Windows}
use Rattle.rolling.specs.Rolling.{ResidueAt}
use Rattle.rolling.proofs.Residues.{same_place}
use Rattle.windows.specs.Flags.{hit}

pub hit-is : (w : Windows) (from j i x : ℕ) → i ≡ from + j → ResidueAt w i x → eqb x w.wanted ≡ hit w from j
unfolding hit
hit-is w from j i x e h = ap (λ (y : ℕ). eqb y w.wanted) (same_place w i (from + j) x e h)
