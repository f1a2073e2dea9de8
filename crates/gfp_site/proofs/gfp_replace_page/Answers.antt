-- The answer, stored: on refusal nothing is written, and the state is the mark that was handed in.
use mathlib.Core.Path.{◌≡◌}
use mathlib.Core.List.{◌++◌}
use Prim.Native.Nat.{ℕ}
use Rattle.std.proofs.Common.{rules}
use Rattle.refusals.specs.Refusals.{state_of, value_or}
use Rattle.refusals.proofs.Replies.{first-keeps}
use Rattle.acceptance.specs.declared.Key.{Key}
use Rattle.acceptance.specs.Keys.{polynomial_of, key_tests}
use Rattle.files.specs.declared.Mark.{Mark}
use Rattle.files.specs.Files.{Part, replaced}
use Rattle.compose.specs.Composing.{page_tests, replace_page}
use Rattle.gfp_site.proofs.gfp_replace_page.Goals as goal

-- on refusal the state is the mark that was handed in
keeps : (x : Key) (m : Mark) (place : ℕ) (old new : Part) → value_or m (replace_page x m place old new) ≡ state_of (replace_page x m place old new)
unfolding replace_page
keeps x m place old new = first-keeps (key_tests x ++ page_tests (polynomial_of x) m place old new) m (replaced (polynomial_of x) m place old new)

pub returns : goal.returns
returns c = search (rules, keeps)
