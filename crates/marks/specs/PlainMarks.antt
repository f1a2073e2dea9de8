-- Beginning a plain mark, and turning a mark (document 02, wish 9): each call is its tests, in the order of their numbers, and its value. Nothing
-- in a mark tells its kind: turning adds t^n to any.
use Rattle.std.specs.Prelude.{◌≡◌, true, List, [], ◌∷◌, ◌++◌, ℕ, ◌≤◌, length}
use Rattle.refusals.specs.declared.Refusal.TheVariants.{TooLong, MarkNotReduced}
use Rattle.refusals.specs.Refusals.{Answer, Done, Test, ◌⇒◌, first_of, passes, longest}
use Rattle.acceptance.specs.declared.Key.{Key}
use Rattle.acceptance.specs.Keys.{accepted, polynomial_of, key_of, key_tests}
use Rattle.files.specs.declared.Mark.{Mark}
use Rattle.files.specs.Files.{bits, mark_of, unreduced}
use Rattle.files.specs.PlainMarks.{plain_fingerprint, plain_mark_of, turned}
use Rattle.marks.specs.Feeding.{begin_from}

-- the plain mark of the empty file
abbrev pub begin_plain : Key → Answer Unit Mark
begin_plain x = begin_from 0 x

-- numbers 7 and 8 of one mark
abbrev pub turn_tests : ℕ → Mark → List Test
turn_tests key m = passes (m.length ∷ []) ⇒ TooLong ∷ unreduced key m ⇒ MarkNotReduced ∷ []

unfoldable pub turn : Key → Mark → Answer Mark Mark
turn x m = first_of (key_tests x ++ turn_tests (polynomial_of x) m) m (turned (polynomial_of x) m)

-- ---- claims

-- beginning gives the plain mark of the empty file
abbrev pub PlainBegins : Type 0
PlainBegins = (key : ℕ) → accepted key ≡ true → begin_plain (key_of key) ≡ Done (plain_mark_of key [])

-- "empty and one zero byte share a plain fingerprint of 0"
abbrev pub ZeroFingerprints : Type 0
ZeroFingerprints = (key : ℕ) → accepted key ≡ true → (plain_fingerprint key [] ≡ 0) × (plain_fingerprint key (bits (0x00 ∷ [])) ≡ 0)

-- a true mark of a file within the limit is turned and not refused: a plain mark into one of ours,
abbrev pub TurnsToOurs : Type 0
TurnsToOurs = (key : ℕ) (file : List ℕ) → accepted key ≡ true → length file ≤ longest → turn (key_of key) (plain_mark_of key file) ≡ Done (mark_of key file)

-- and back
abbrev pub TurnsToPlain : Type 0
TurnsToPlain = (key : ℕ) (file : List ℕ) → accepted key ≡ true → length file ≤ longest → turn (key_of key) (mark_of key file) ≡ Done (plain_mark_of key file)
