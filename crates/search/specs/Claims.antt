-- What the places and the false alarms are (document 01, "Searching a log"): claims that are proved.
use Rattle.std.specs.Prelude.{◌≡◌, ◌≢◌, ◌⊎◌, ◌↔◌, List, [], ◌∷◌, ℕ, ◌+◌, ◌≤◌, ◌<◌, length, take, drop}
use Rattle.lists.specs.Lists.{All}
use Rattle.files.specs.Files.{bits, fingerprint}
use Rattle.search.specs.Searching.{places, alarms}

-- i is an entry of the list
abbrev pub In : ℕ → List ℕ → Type 0
In i [] = ⊥
In i (n ∷ ns) = (n ≡ i) ⊎ In i ns

-- each entry is below all behind it
abbrev pub Rising : List ℕ → Type 0
Rising [] = Unit {0}
Rising (n ∷ ns) = All (λ m. n < m) ns × Rising ns

-- "byte offsets from 0, overlaps included, rising"
abbrev pub PlacesIff : Type 0
PlacesIff =
    (text pattern : List ℕ) (i : ℕ)
    → In i (places text pattern) ↔ ((i + length pattern ≤ length text) × (take (length pattern) (drop i text) ≡ pattern))

abbrev pub PlacesRising : Type 0
PlacesRising = (text pattern : List ℕ) → Rising (places text pattern)

-- a false alarm is a window with the pattern's fingerprint and other bytes
abbrev pub AlarmsIff : Type 0
AlarmsIff =
    (key : ℕ) (text pattern : List ℕ) (i : ℕ)
    → In i (alarms key text pattern)
    ↔ ((i + length pattern ≤ length text)
    × (fingerprint key (bits (take (length pattern) (drop i text))) ≡ fingerprint key (bits pattern))
    × (take (length pattern) (drop i text) ≢ pattern))

abbrev pub AlarmsRising : Type 0
AlarmsRising = (key : ℕ) (text pattern : List ℕ) → Rising (alarms key text pattern)
