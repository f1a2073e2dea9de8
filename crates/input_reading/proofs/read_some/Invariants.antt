-- `input_reading::read_some` meets its contract: a call that was interrupted counts as none.
use Rattle.std.proofs.Common.{◌≡◌, length}
use Rattle.input_reading.proofs.Given.{Waiting}
use Rattle.input_reading.proofs.read_some.Given as goal

abbrev pub invariant-loop : goal.invariant-loop
invariant-loop l = (length l.buffer ≡ length l.initial.buffer) × Waiting l.initial.input l.input l.counter
