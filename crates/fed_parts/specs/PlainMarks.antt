-- Turning a mark in the middle of a file (document 02, wish 9): "feeding goes on as if the file had begun under the other rule". This page has
-- statements alone.
use Rattle.std.specs.Prelude.{◌≡◌, true, false, List, ◌++◌, ℕ}
use Rattle.acceptance.specs.Keys.{accepted}
use Rattle.files.specs.declared.Mark.{Mark}
use Rattle.files.specs.Files.{mark_of, unreduced}
use Rattle.files.specs.PlainMarks.{plain_mark_of, turned}
use Rattle.book.specs.Runs.{run}
use Rattle.fed_parts.specs.Parts.{Feed, step}

-- ---- claims

-- for every mark to which number 8 does not apply, true or not, and every list of feeds, refused ones included: what the list makes of the mark
-- turned is what it makes of the mark, turned, and the numbers are the same
abbrev pub TurnsAnywhere : Type 0
TurnsAnywhere =
    (key : ℕ) (m : Mark) (calls : List Feed) → accepted key ≡ true → unreduced key m ≡ false
    → run (step key) (turned key m) calls ≡ (turned key (run (step key) m calls).0, (run (step key) m calls).1)

-- so it is as if the file had begun under the other rule: a plain mark is fed a list, turned, and fed another, and ours is fed both; and back
abbrev pub GoesOn : Type 0
GoesOn =
    (key : ℕ) (file : List ℕ) (before behind : List Feed) → accepted key ≡ true
    → ((run (step key) (turned key (run (step key) (plain_mark_of key file) before).0) behind).0 ≡ (run (step key) (mark_of key file) (before ++ behind)).0)
    × ((run (step key) (turned key (run (step key) (mark_of key file) before).0) behind).0 ≡ (run (step key) (plain_mark_of key file) (before ++ behind)).0)
