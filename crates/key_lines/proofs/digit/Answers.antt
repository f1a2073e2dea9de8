-- `key_lines::digit` meets its contract: the value of a byte, by the range that holds it.
use native.Mathlib.Omega.{arith}
use Rattle.key_lines.proofs.Laws.{digit_under, digit_decimal, digit-between, digit_letter, digit-over}
use Rattle.key_lines.proofs.digit.Goals as goal

pub returns-in-48-to-57 : goal.returns-in-48-to-57
returns-in-48-to-57 c = let e = digit_decimal c.args.b (omega arith) (omega arith) in (omega (arith, e), omega (arith, e, c.from.ensures))

pub returns-in-97-to-102 : goal.returns-in-97-to-102
returns-in-97-to-102 c =
    let e = digit_letter c.args.b (omega arith) (omega arith) in (omega (arith, e), omega (arith, e, c.from-in-97-to-102.ensures))

pub returns-in_default : goal.returns-in_default
returns-in_default c = λ h. omega (arith, h, digit_under c.args.b (omega arith))

pub returns-in_default-2 : goal.returns-in_default-2
returns-in_default-2 c = λ h. omega (arith, h, digit-between c.args.b (omega arith) (omega arith))

pub returns-in_default-3 : goal.returns-in_default-3
returns-in_default-3 c = λ h. omega (arith, h, digit-over c.args.b (omega arith))
