use mathlib.Core.Path.{ap, ◌∙◌}
use Prim.Native.Nat.{ℕ, ◌+◌, ◌-◌, ◌*◌}
use native.Mathlib.Omega.{arith}
use lib.ListN.{length}
use Rattle.files.specs.Files.{as_part}
use Rattle.files.proofs.Parts.{counted_none, counted-many, counted-some}
use Rattle.files.proofs.part_length.Goals as goal

pub returns-in-0 : goal.returns-in-0
returns-in-0 c = counted_none (as_part c.args.part.now c.args.used) (omega arith)

pub returns-in-1-to-8589934592 : goal.returns-in-1-to-8589934592
returns-in-1-to-8589934592 c =
    let a = c.args in
    ap (λ (n : ℕ). 8 * (length a.part.now - 1) + n) c.used_bits.ensures.0 ∙ counted-some (as_part a.part.now a.used) (omega arith) (omega arith)

pub returns-in_default : goal.returns-in_default
returns-in_default c = counted-many (as_part c.args.part.now c.args.used) (omega arith)
