-- `turn` meets its contract: only the last 61 words matter.
use mathlib.Core.Path.{ap, ◌∙◌}
use Prim.Native.Nat.{◌*◌}
use native.Mathlib.Omega.{arith}
use lib.ListN.{length, take, drop}
use Rattle.gf2.specs.Polynomials.{rem}
use Rattle.house.specs.House.{house_key}
use Rattle.fold_blocks.specs.Folds.{exponents}
use Rattle.fold_blocks.proofs.House.{all-exponents}
use Rattle.fold_blocks.proofs.Folding.{folded-same, kept_last}
use Rattle.fold_blocks.proofs.turn.Goals as goal

pub returns : goal.returns
returns c =
    let a = c.args in
    let d = c.divide_block in
    let k = c.copy_within in
    ap (rem house_key)
    (folded-same 61 a.s k.new.self (drop (length a.src.now) d.new.q) (ap (take (61 * a.s)) k.ensures.after
    ∙ kept_last d.new.q (length a.src.now) (61 * a.s) (omega arith)) exponents all-exponents)
    ∙ d.ensures
