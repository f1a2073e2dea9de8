-- `join_lanes` meets its contract: what is joined behind the four marks, and behind the bits, are the fields of each lane from the i-th on.
use mathlib.Core.Path.{◌≡◌}
use mathlib.Core.List.{◌∷◌}
use Prim.Native.Nat.{ℕ, ◌+◌, ◌-◌, ◌*◌}
use Rattle.big_endian.specs.Numbers.{numbers_at}
use Rattle.sheets.specs.Sheets.{some_unreduced}
use Rattle.sheet_joining.specs.Joining.{looping}
use Rattle.sheet_joining.proofs.Joining.{four_lanes}
use Rattle.sheet_joining.proofs.join_lanes.Given as goal

abbrev pub invariant-loop-i : goal.invariant-loop-i
invariant-loop-i l =
    let lane = 8 * l.q in
    let place = 8 * l.i in
    let left = l.q - l.i in
    (looping l.shift l.a (numbers_at place 8 left l.fields) ≡ looping l.shift 1 (numbers_at 0 8 l.q l.fields))
    × (looping l.shift l.b (numbers_at (place + lane) 8 left l.fields) ≡ looping l.shift 0 (numbers_at (0 + lane) 8 l.q l.fields))
    × (looping l.shift l.c (numbers_at (place + lane + lane) 8 left l.fields) ≡ looping l.shift 0 (numbers_at (0 + lane + lane) 8 l.q l.fields))
    × (looping l.shift l.d (numbers_at (place + lane + lane + lane) 8 left l.fields) ≡ looping l.shift 0 (numbers_at (0 + lane + lane + lane) 8 l.q l.fields))
    × ((k : ℕ) → some_unreduced k (l.bits ∷ four_lanes place lane left l.fields) ≡ some_unreduced k (0 ∷ four_lanes 0 lane l.q l.fields))
