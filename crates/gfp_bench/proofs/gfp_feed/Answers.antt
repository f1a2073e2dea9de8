-- The answer, stored: on refusal nothing is written, and the state is the mark that was handed in.
use mathlib.Core.Path.{◌≡◌}
use mathlib.Core.List.{◌++◌}
use Rattle.std.proofs.Common.{rules}
use Rattle.refusals.specs.Refusals.{state_of, value_or}
use Rattle.refusals.proofs.Replies.{first-keeps}
use Rattle.acceptance.specs.declared.Key.{Key}
use Rattle.acceptance.specs.Keys.{polynomial_of, key_tests}
use Rattle.files.specs.declared.Mark.{Mark}
use Rattle.files.specs.Files.{Part, fed_mark}
use Rattle.mark_tests.specs.MarkTests.{feed_tests}
use Rattle.marks.specs.Feeding.{feed_bits}
use Rattle.gfp_bench.proofs.gfp_feed.Goals as goal

-- on refusal the state is the mark that was handed in
keeps : (x : Key) (m : Mark) (part : Part) → value_or m (feed_bits x m part) ≡ state_of (feed_bits x m part)
unfolding feed_bits
keeps x m part = first-keeps (key_tests x ++ feed_tests (polynomial_of x) m part) m (fed_mark (polynomial_of x) m part)

pub returns : goal.returns
returns c = search (rules, keeps)
