-- `numerals::put` meets its contract: the next text fits, as all of them do.
use mathlib.Core.List.{List, []}
use Prim.Native.Nat.{ℕ}
use native.Mathlib.Omega.{arith}
use Rattle.std.proofs.Common.{Bor}
use Rattle.std.proofs.lemmas.List.Folds.{length-flat_map-take}
use Rattle.numerals.proofs.put.Goals as goal

pub slice_bounds-copy_from_slice-end : goal.slice_bounds-copy_from_slice-end
slice_bounds-copy_from_slice-end c =
    omega (
      arith,
      c.requires,
      c.loop-text.invariant.0,
      length-flat_map-take (λ (text : Bor (List ℕ)). text.now) c.args.texts.now _ (record { ref_ptr = (0, 0); now = [] }) c.loop-text-test.true,
    )
