-- Feeding a file in parts (document 01, "Marks"): "Feeding file parts one after another gives the mark of the parts joined." And "Feeding
-- more after an unfinished byte goes on at the next bit" (document 02, wish 7).
use Rattle.std.specs.Prelude.{◌≡◌, true, false, List, [], ◌∷◌, ◌++◌, ℕ, ◌+◌, ◌≤◌, length}
use Rattle.refusals.specs.Refusals.{Answer, longest}
use Rattle.acceptance.specs.Keys.{accepted, key_of}
use Rattle.files.specs.declared.Mark.{Mark}
use Rattle.files.specs.Files.{mark_from, TrueFrom, Part, part_bits, misused}
use Rattle.lookups.specs.Rule.{table}
use Rattle.marks.specs.Feeding.{feed_bits, feed_table}
use Rattle.book.specs.Runs.{run}

-- feeding, by bits or by tables. Feeding under the house key is feeding by its constant words (`feed_house`).
pub data Feed : Type 0 where
  ByBits : (part : Part) → Feed
  ByTable : (words : List ℕ) (part : Part) → Feed

-- The key is a polynomial, and each feed gets it as a degree and a word: by `key_iff` this leaves no accepted key out.
unfoldable pub step : ℕ → Mark → Feed → Answer Mark Mark
step key m (ByBits part) = feed_bits (key_of key) m part
step key m (ByTable words part) = feed_table (key_of key) m words part

-- ---- claims: parts fed one after another

abbrev pub part_of : Feed → Part
part_of (ByBits part) = part
part_of (ByTable words part) = part

-- the lent words are the key's table, and the part is not misused
abbrev pub Usable : ℕ → Feed → Type 0
Usable key (ByBits part) = misused part ≡ false
Usable key (ByTable words part) = (words ≡ table key) × (misused part ≡ false)

abbrev pub AllUsable : ℕ → List Feed → Type 0
AllUsable key [] = Unit {0}
AllUsable key (c ∷ cs) = Usable key c × AllUsable key cs

abbrev pub parts_joined : List Feed → List ℕ
parts_joined [] = []
parts_joined (c ∷ cs) = part_bits (part_of c) ++ parts_joined cs

-- no call is refused
abbrev pub zeros : List Feed → List ℕ
zeros [] = []
zeros (c ∷ cs) = 0 ∷ zeros cs

-- from any true mark, whatever its start, in any parts and by any mixture of bits and tables, where the length fits
abbrev pub PartsJoined : Type 0
PartsJoined =
    (s key : ℕ) (file : List ℕ) (m : Mark) (calls : List Feed) → accepted key ≡ true → TrueFrom s key file m → AllUsable key calls
    → length file + length (parts_joined calls) ≤ longest → run (step key) m calls ≡ (mark_from s key (file ++ parts_joined calls), zeros calls)

-- a file of bits cut anywhere, also inside a byte: its two parts, fed one after the other, give the mark of both joined
abbrev pub CutAnywhere : Type 0
CutAnywhere =
    (s key : ℕ) (before file : List ℕ) (m : Mark) (p q : Part) → accepted key ≡ true → TrueFrom s key before m → misused p ≡ false → misused q ≡ false
    → part_bits p ++ part_bits q ≡ file → length before + length file ≤ longest
    → run (step key) m (ByBits p ∷ ByBits q ∷ []) ≡ (mark_from s key (before ++ file), 0 ∷ 0 ∷ [])
