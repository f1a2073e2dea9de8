-- The search for a pattern in a text (document 01, "Searching a log"). Both are lists of bytes; a place is an offset from 0.
use Rattle.std.specs.Prelude.{Bool, ◌&&◌, not, List, [], ◌∷◌, ◌++◌, ℕ, ◌+◌, ◌-◌, ◌*◌, eqb, length, take, drop}
use Rattle.lists.specs.Lists.{passing, same, overlay}
use Rattle.refusals.specs.declared.Refusal.TheVariants.{TooLong, EmptyPattern}
use Rattle.refusals.specs.Refusals.{Answer, state_of, Test, ◌⇒◌, first_of, passes}
use Rattle.acceptance.specs.declared.Key.{Key}
use Rattle.acceptance.specs.Keys.{polynomial_of, key_tests}
use Rattle.files.specs.Files.{bits, fingerprint}
use Rattle.comparing.specs.declared.Counts.{Counts}

-- how many windows as long as the pattern the text has: none where the pattern is longer
unfoldable pub windows : List ℕ → List ℕ → ℕ
windows text pattern = length text + 1 - length pattern

-- the pattern stands at the place i
unfoldable pub is_place : List ℕ → List ℕ → ℕ → Bool
is_place text pattern i = same (take (length pattern) (drop i text)) pattern

-- a false alarm: the window there has the pattern's fingerprint, and other bytes
unfoldable pub is_alarm : ℕ → List ℕ → List ℕ → ℕ → Bool
is_alarm key text pattern i =
    eqb (fingerprint key (bits (take (length pattern) (drop i text)))) (fingerprint key (bits pattern)) && not (is_place text pattern i)

-- the places, and the false alarms, rising
unfoldable pub places : List ℕ → List ℕ → List ℕ
places text pattern = passing (is_place text pattern) 0 (windows text pattern)

unfoldable pub alarms : ℕ → List ℕ → List ℕ → List ℕ
alarms key text pattern = passing (is_alarm key text pattern) 0 (windows text pattern)

-- ---- the call

-- numbers 7, which counts bits, and 11
abbrev pub text_tests : List ℕ → List ℕ → List Test
text_tests text pattern = passes (8 * length text ∷ 8 * length pattern ∷ []) ⇒ TooLong ∷ eqb (length pattern) 0 ⇒ EmptyPattern ∷ []

-- and those of the key, which is handed in as x; the counts go by its polynomial
abbrev pub search_tests : Key → List ℕ → List ℕ → List Test
search_tests x text pattern = key_tests x ++ text_tests text pattern

-- the number of places, and the number of false alarms
unfoldable pub counts : ℕ → List ℕ → List ℕ → Counts
counts key text pattern = record { places = length (places text pattern); alarms = length (alarms key text pattern) }

unfoldable pub search : Key → List ℕ → List ℕ → Answer Unit Counts
search x text pattern = first_of (search_tests x text pattern) tt (counts (polynomial_of x) text pattern)

-- the lent words after the call: the first places, as far as they reach
unfoldable pub places_after : Key → List ℕ → List ℕ → List ℕ → List ℕ
places_after x text pattern words = state_of (first_of (search_tests x text pattern) words (overlay (places text pattern) words))
