-- "The lowest number that applies" (document 01, "Who can cause a refusal"), for the call that the Keyholder level adds and whatever is
-- handed in: its numbers, its tests, and the call. docs/API.md has the same numbers.
use Rattle.std.specs.Prelude.{[], ◌∷◌, ℕ}
use Rattle.refusals.specs.Lowest.{GivesLowest}
use Rattle.draw.specs.Drawing.{draw_tests, draw}

pub record EachCall (k e : ℕ) : Type 0 where
  pub draw-key : GivesLowest (3 ∷ 4 ∷ []) (draw_tests k e) (draw k e)

-- whatever is handed in
abbrev pub CallLowest : Type 0
CallLowest = (k e : ℕ) → EachCall k e
