-- Joining marks and changing a page in a file's mark (document 01, "Marks"; pages: document 02, wish 7): each call is its tests, in the
-- order of their numbers, and its value. A key is handed in as x; all but its own tests go by its polynomial.
use Rattle.std.specs.Prelude.{◌≡◌, ◌||◌, not, List, [], ◌∷◌, ◌++◌, ℕ, ◌+◌, ◌*◌, ltb, eqb, take, drop}
use Rattle.refusals.specs.declared.Refusal.TheVariants.{TooLong, MarkNotReduced, PageLengthsDiffer, PagePastEnd, FinalByte}
use Rattle.refusals.specs.Refusals.{Answer, Done, Test, ◌⇒◌, first_of, passes}
use Rattle.acceptance.specs.declared.Key.{Key}
use Rattle.acceptance.specs.Keys.{polynomial_of, key_tests}
use Rattle.files.specs.declared.Mark.{Mark}
use Rattle.files.specs.Files.{TrueFrom, unreduced, Part, part_length, part_bits, misused, joined_from, replaced}
use Rattle.mark_tests.specs.MarkTests.{sum_test}

-- numbers 7 and 8 of two marks
abbrev pub marks_tests : ℕ → Mark → Mark → List Test
marks_tests key m other = sum_test m.length other.length ∷ (unreduced key m || unreduced key other) ⇒ MarkNotReduced ∷ []

abbrev pub join_tests : Key → Mark → Mark → List Test
join_tests x m other = key_tests x ++ marks_tests (polynomial_of x) m other

-- The mark m is the state; the other mark's file goes behind it, or in front of it. Both marks have the start s.
unfoldable pub join_behind_from : ℕ → Key → Mark → Mark → Answer Mark Mark
join_behind_from s x m other = first_of (join_tests x m other) m (joined_from s (polynomial_of x) m other)

unfoldable pub join_in_front_from : ℕ → Key → Mark → Mark → Answer Mark Mark
join_in_front_from s x m other = first_of (join_tests x m other) m (joined_from s (polynomial_of x) other m)

abbrev pub join_behind : Key → Mark → Mark → Answer Mark Mark
join_behind x m other = join_behind_from 1 x m other

abbrev pub join_in_front : Key → Mark → Mark → Answer Mark Mark
join_in_front x m other = join_in_front_from 1 x m other

-- numbers 7 to 10 and 19: the place is in bytes, the lengths are in bits
abbrev pub page_tests : ℕ → Mark → ℕ → Part → Part → List Test
page_tests key m place old new =
    passes (m.length ∷ part_length old ∷ part_length new ∷ []) ⇒ TooLong
    ∷ unreduced key m ⇒ MarkNotReduced
    ∷ not (eqb (part_length old) (part_length new)) ⇒ PageLengthsDiffer
    ∷ ltb m.length (8 * place + part_length old) ⇒ PagePastEnd
    ∷ (misused old || misused new) ⇒ FinalByte
    ∷ []

unfoldable pub replace_page : Key → Mark → ℕ → Part → Part → Answer Mark Mark
replace_page x m place old new =
    let key = polynomial_of x in
    first_of (key_tests x ++ page_tests key m place old new) m (replaced key m place old new)

-- ---- claims: of true marks, whatever their start, where the call is not refused

-- joining gives the mark of the two files, the other one behind,
abbrev pub BehindTrue : Type 0
BehindTrue =
    (s : ℕ) (x : Key) (file its : List ℕ) (m other after : Mark) → TrueFrom s (polynomial_of x) file m → TrueFrom s (polynomial_of x) its other
    → join_behind_from s x m other ≡ Done after → TrueFrom s (polynomial_of x) (file ++ its) after

-- or in front;
abbrev pub InFrontTrue : Type 0
InFrontTrue =
    (s : ℕ) (x : Key) (file its : List ℕ) (m other after : Mark) → TrueFrom s (polynomial_of x) file m → TrueFrom s (polynomial_of x) its other
    → join_in_front_from s x m other ≡ Done after → TrueFrom s (polynomial_of x) (its ++ file) after

-- a page change gives the mark of the file with the new page where the old one stood
abbrev pub PageTrue : Type 0
PageTrue =
    (s : ℕ) (x : Key) (file : List ℕ) (m after : Mark) (place : ℕ) (old new : Part) → TrueFrom s (polynomial_of x) file m
    → take (part_length old) (drop (8 * place) file) ≡ part_bits old → replace_page x m place old new ≡ Done after
    → TrueFrom s (polynomial_of x) (take (8 * place) file ++ part_bits new ++ drop (8 * place + part_length old) file) after
