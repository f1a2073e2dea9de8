-- `windows::one_by_one` meets its contract. The loop's invariant: j windows have their flags, the other flags stay, and the
-- residue is that of the next window, if there is one.
use mathlib.Core.Bool.{false}
use Prim.Native.Nat.{◌+◌, ◌≤◌}
use lib.ListN.{length, get_or}
use Rattle.rolling.specs.Rolling.{ResidueAt}
use Rattle.windows.specs.Flags.{Filled, hit}
use Rattle.windows.proofs.one_by_one.Given as goal

abbrev pub invariant-loop-j : goal.invariant-loop-j
invariant-loop-j l =
    (l.from + l.j + l.w.m ≤ length l.w.text.now → ResidueAt l.w (l.from + l.j) l.a)
    × Filled false (hit l.w l.from) 0 l.j l.flags
    × Filled false (λ i. get_or l.initial.flags i false) l.size 1024 l.flags
