-- The answer, stored: on refusal nothing is written, and the state is the mark that was handed in.
use mathlib.Core.Path.{◌≡◌}
use mathlib.Core.List.{◌++◌}
use Rattle.std.proofs.Common.{rules}
use Rattle.refusals.specs.Refusals.{state_of, value_or}
use Rattle.refusals.proofs.Replies.{first-keeps}
use Rattle.acceptance.specs.declared.Key.{Key}
use Rattle.acceptance.specs.Keys.{polynomial_of, key_tests}
use Rattle.files.specs.declared.Mark.{Mark}
use Rattle.files.specs.PlainMarks.{turned}
use Rattle.marks.specs.PlainMarks.{turn_tests, turn}
use Rattle.gfp_bench.proofs.gfp_turn.Goals as goal

-- on refusal the state is the mark that was handed in
keeps : (x : Key) (m : Mark) → value_or m (turn x m) ≡ state_of (turn x m)
unfolding turn
keeps x m = first-keeps (key_tests x ++ turn_tests (polynomial_of x) m) m (turned (polynomial_of x) m)

pub returns : goal.returns
returns c = search (rules, keeps)
