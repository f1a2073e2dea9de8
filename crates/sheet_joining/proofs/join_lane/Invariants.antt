-- `join_lane` meets its contract: what is joined behind x, and behind the bits, are the fields from the i-th on.
use mathlib.Core.Path.{◌≡◌}
use mathlib.Core.List.{◌∷◌}
use Prim.Native.Nat.{ℕ, ◌+◌, ◌-◌, ◌*◌}
use Rattle.big_endian.specs.Numbers.{numbers_at}
use Rattle.sheets.specs.Sheets.{some_unreduced}
use Rattle.sheet_joining.specs.Joining.{looping}
use Rattle.sheet_joining.proofs.join_lane.Given as goal

abbrev pub invariant-loop-i : goal.invariant-loop-i
invariant-loop-i l =
    (looping l.shift l.x (numbers_at (l.from + 8 * l.i) 8 (l.n - l.i) l.fields) ≡ looping l.shift l.f (numbers_at l.from 8 l.n l.fields))
    × ((k : ℕ) → some_unreduced k (l.bits ∷ numbers_at (l.from + 8 * l.i) 8 (l.n - l.i) l.fields) ≡ some_unreduced k
    (l.before ∷ numbers_at l.from 8 l.n l.fields))
