use mathlib.Core.Path.{◌≡◌}
use mathlib.Core.List.{◌++◌}
use Prim.Native.Nat.{◌+◌, ◌-◌}
use lib.ListN.{drop}
use Rattle.gf2.specs.Moduli.{polynomial}
use Rattle.lists.specs.Lists.{list_from}
use Rattle.irreducibility.specs.Squares.{square}
use Rattle.irreducibility.proofs.square_rows.Given as goal

-- w is the square before the next row's
abbrev pub invariant-loop-row : goal.invariant-loop-row
invariant-loop-row l =
    (l.w ≡ square (polynomial l.p) (l.h - 1 + l.row-index)) × (l.rows ≡ list_from (square (polynomial l.p)) l.h l.row-index ++ drop l.row-index l.initial.rows)
