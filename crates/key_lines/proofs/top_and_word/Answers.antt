-- `key_lines::top_and_word` meets its contract: seventeen digits are a top digit and a word.
use mathlib.Core.Path.{◌≡◌, sym, ◌∙◌}
use native.Mathlib.Omega.{arith}
use lib.ListN.{length}
use Rattle.key_lines.proofs.Laws.{digit-here, digits-below, digits-behind, not-true, line_written}
use Rattle.key_lines.proofs.top_and_word.Goals as goal

pub returns-in_err-digit : goal.returns-in_err-digit
returns-in_err-digit c =
    rw c.from_residual-in_err-digit.ensures
    (not-true _ (λ e. c.in_err-digit.ensures (digit-here c.args.line.now 0 (omega arith) e).0))

pub returns-in_err-hex_value-2 : goal.returns-in_err-hex_value-2
returns-in_err-hex_value-2 c =
    let l = c.args.line.now in
    let below = rw (digits-below l) at c.in_err-hex_value-2.ensures in
    rw c.from_residual-in_err-hex_value-2.ensures (not-true _ (λ e. below (digit-here l 0 (omega arith) e).1))

pub returns : goal.returns
returns c =
    let l = c.args.line.now in
    let long : length l ≡ 17 = omega (arith, c.requires) in
    let top = c.in_ok-digit.ensures in
    let below = c.in_ok-hex_value-2.ensures in
    (sym (digits-behind l 0 (omega arith) top.0) ∙ (rw (digits-below l) at below.0), line_written l _ _ long top.1 below.1)
