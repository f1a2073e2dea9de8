-- Four bytes, and four behind them.
use mathlib.Core.Path.{refl, ap₂, ◌∙◌}
use Prim.Native.Nat.{ℕ, ◌+◌, ◌*◌, ◌%◌, ◌^◌, ◌<◌}
use native.Mathlib.Omega.{arith}
use Rattle.std.specs.Int.RustNames.{bit_or}
use Rattle.std.proofs.lemmas.Grind.{or_after_shift}
use Rattle.big_endian.proofs.Pieces.{piece-lt, value-join, join-lt}
use Rattle.big_endian.proofs.eight_at.Goals as goal

pub returns : goal.returns
returns c =
    let p = c.args.part.now in
    let i = c.args.i in
    let a = c.four_at.result in
    let b = c.four_at-2.result in
    let low : b < 2 ^ 32 = piece-lt p (i + 4) 4 b (omega arith) c.four_at-2.ensures in
    let all : a * 2 ^ 32 + b < 2 ^ 64 = join-lt p i 4 4 a b (omega arith) c.four_at.ensures c.four_at-2.ensures in
    ap₂ (λ (x y : ℕ). bit_or (x * 4294967296 % 2 ^ 64) y) c.from.ensures c.from-2.ensures
    ∙ or_after_shift a 4294967296 (2 ^ 64) b refl low (omega (arith, all))
    ∙ value-join p i 4 4 a b (omega arith) c.four_at.ensures c.four_at-2.ensures
