-- `key_lines::hex_value` meets its contract: what is left of the line, behind the value so far, writes what the whole line writes.
use mathlib.Core.Path.{sym, ◌∙◌}
use Prim.Native.Nat.{ℕ, ◌*◌, ◌^◌, ◌≤◌, ◌<◌}
use native.Mathlib.Nat.{lt_of_lt_of_le}
use native.Mathlib.Omega.{arith}
use lib.ListN.{drop_of_length-le}
use lib.Pow.{pow_mono}
use Rattle.key_lines.specs.KeyLines.{all_digits, hex_from}
use Rattle.key_lines.proofs.Laws.{digit-here, digits-behind, hex_next, hex_lt}
use Rattle.key_lines.proofs.hex_value.Goals as goal

-- with fewer than 16 digits read there is room for one more
room : (value i : ℕ) → i < 16 → value < 2 ^ (4 * i) → value < 2 ^ 60
room value i h l = let e : 4 * i ≤ 60 = omega arith in lt_of_lt_of_le l (pow_mono e)

pub overflow_mul-value : goal.overflow_mul-value
overflow_mul-value c = let v = c.loop-b in record { fits = omega (arith, room v.value v.b-index (omega arith) v.invariant.0) }

pub overflow_add-value : goal.overflow_add-value
overflow_add-value c =
    let v = c.loop-b in
    record { fits = omega (arith, c.in_ok-value.ensures, room v.value v.b-index (omega arith) v.invariant.0) }

pub returns-in_err-value : goal.returns-in_err-value
returns-in_err-value c =
    let l = c.loop-b in
    rw c.from_residual.ensures
    (λ e. c.in_err-value.ensures (digit-here c.args.line.now l.b-index (omega arith) (l.invariant.1 ∙ e)).0)

pub loop-b-preserved : goal.loop-b-preserved
loop-b-preserved c =
    let l = c.loop-b in
    let line = c.args.line.now in
    let d = c.in_ok-value.ensures in (
      rw d.1 (hex_lt l.value _ l.b-index l.invariant.0 d.0),
      digits-behind line l.b-index (omega arith) d.0 ∙ l.invariant.1,
      rw d.1 (sym (hex_next line l.b-index (omega arith) l.value) ∙ l.invariant.2),
    )

pub returns : goal.returns
unfolding all_digits hex_from
returns c =
    let done = drop_of_length-le c.args.line.now c.loop-b-test.false in
    let v = c.loop-b.invariant in
    (sym (rw done at v.1), rw done at v.2)
