-- `key_lines::hex_value` meets its contract: what is left of the line, behind the value so far, writes what the whole line writes.
use Rattle.std.proofs.Common.{◌≡◌, ◌*◌, ◌^◌, ◌<◌, drop}
use Rattle.key_lines.specs.KeyLines.{all_digits, hex_from}
use Rattle.key_lines.proofs.hex_value.Given as goal

abbrev pub invariant-loop-b : goal.invariant-loop-b
invariant-loop-b l =
    (l.value < 2 ^ (4 * l.b-index)) × (all_digits (drop l.b-index l.line) ≡ all_digits l.line)
    × (hex_from l.value (drop l.b-index l.line) ≡ hex_from 0 l.line)
