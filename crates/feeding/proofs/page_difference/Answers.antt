-- `page_difference` meets its contract: the whole bytes, and the used bits behind them.
use mathlib.Core.Path.{sym, ap, ◌∙◌}
use Prim.Native.Nat.{ℕ}
use native.Mathlib.Omega.{arith}
use lib.ListN.{take, length-take}
use lib.Seq.{length-take-le}
use Rattle.gf2.specs.Polynomials.{◌⊕◌, rem}
use Rattle.gf2.specs.Moduli.{polynomial}
use Rattle.files.specs.Files.{bits, value_from}
use Rattle.feeding.proofs.page_difference.Goals as goal

pub slice_bounds-bytes_difference-end : goal.slice_bounds-bytes_difference-end
slice_bounds-bytes_difference-end c = sym (length-take-le _ _ c.whole_bytes-front.ensures.1)

pub slice_bounds-bytes_difference-end-2 : goal.slice_bounds-bytes_difference-end-2
slice_bounds-bytes_difference-end-2 c =
    sym (length-take-le _ _ (omega (arith, c.whole_bytes-front.ensures.1, c.requires.1)))

pub bytes_difference-x-requires : goal.bytes_difference-x-requires
bytes_difference-x-requires c =
    let w = c.whole_bytes-front.result in
    (c.requires.0, omega (arith, c.requires.1, length-take w c.args.old.now, length-take w c.args.new.now))

pub difference_end-requires : goal.difference_end-requires
difference_end-requires c =
    let a = c.args in (
      c.requires.0,
      c.requires.1,
      c.requires.2,
      c.requires.3,
      c.bytes_difference-x.ensures
          ∙ ap (λ (n : ℕ). rem (polynomial a.p) (value_from 0 (bits (take n a.old.now)) ⊕ value_from 0 (bits (take n a.new.now))))
          c.whole_bytes-front.ensures.0,
    )
