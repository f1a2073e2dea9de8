-- Demand 3 (document 01, "The plain book of demand 3") as it is claimed of a level and of its routes. Each level proves these claims
-- in its proofs/Guarantee.antt, those of plain marks in its proofs/PlainMarks.antt; the counts name no level and are proved in
-- proofs/ConfusionLaws.antt.
use Rattle.std.specs.Prelude.{◌≡◌, ◌≢◌, ◌↔◌, true, List, [], ◌∷◌, ℕ, ◌+◌, ◌*◌, ◌^◌, ◌≤◌, ◌<◌, length}
use Rattle.lists.specs.Lists.{All, Distinct}
use Rattle.refusals.specs.Refusals.{number_of}
use Rattle.refusals.specs.Lowest.{applying, lowest}
use Rattle.acceptance.specs.Keys.{accepted}
use Rattle.gf2.specs.Polynomials.{degree}
use Rattle.files.specs.Files.{bits, Bits}
use Rattle.files.specs.Bursts.{Burst}
use Rattle.book.specs.Runs.{Level, book_step, run, Honest}
use Rattle.lists.specs.Counts.{count_from}
use Rattle.book.specs.Confusions.{Routes, Confuses, confused}

-- "After the list, fingerprint and length are the residue and the length of the book's file, and exactly those calls were refused
-- that the book's last rule names, each with the lowest number that applies." For every accepted key, every file, every mark true of
-- it and every list of calls of any length.
abbrev pub Lists : Level → Type 0
Lists L =
    (key : ℕ) (kept : L.Kept) (s : L.State) (calls : List L.Call) → accepted key ≡ true → s ≡ L.truth key kept → Honest L key kept calls
    → ((run (L.step key) s calls).0 ≡ L.truth key (run (book_step L key) kept calls).0)
    × ((run (L.step key) s calls).1 ≡ (run (book_step L key) kept calls).1)

-- the number with which the book names a call is "the lowest number that applies"; where none applies it is 0
abbrev pub Lowest : Level → Type 0
Lowest L = (key : ℕ) (kept : L.Kept) (c : L.Call) → number_of (book_step L key kept c) ≡ lowest (applying (L.tests key (L.size kept) c))

-- ---- "For two different files, count the accepted keys of degree k under which a list whose book ends with the one file and a list
-- whose book ends with the other can leave equal fingerprints. That count times k is at most n; n bounds both lengths in bits, the
-- leading 1 not counted."

-- whatever pairwise different keys of that kind are listed
abbrev pub Few : Routes → ℕ → List ℕ → List ℕ → Type 0
Few Route k a b =
    Bits a → Bits b → a ≢ b → (n : ℕ) → length a ≤ n → length b ≤ n
    → (keys : List ℕ) → Distinct keys → All (Confuses Route k a b) keys → length keys * k ≤ n

-- the keys of that kind are the numbers from 2^k to 2^(k + 1) - 1 that pass the test `confused`
abbrev pub AsTested : Routes → ℕ → List ℕ → List ℕ → Type 0
AsTested Route k a b = (key : ℕ) → Confuses Route k a b key ↔ ((2 ^ k ≤ key) × (key < 2 ^ k + 2 ^ k) × (confused a b key ≡ true))

-- for every degree and every two files
abbrev pub Confusions : Routes → Type 0
Confusions Route = (k : ℕ) (a b : List ℕ) → Few Route k a b

abbrev pub Counted : Routes → Type 0
Counted Route = (k : ℕ) (a b : List ℕ) → AsTested Route k a b

-- so this is their count
abbrev pub ConfusionsCount : Type 0
ConfusionsCount =
    (k : ℕ) (a b : List ℕ) → Bits a → Bits b → a ≢ b → (n : ℕ) → length a ≤ n → length b ≤ n
    → count_from (confused a b) (2 ^ k) (2 ^ k) * k ≤ n

-- ---- "Where the lengths are equal and the first and last differing bits are at most k - 1 places apart, the count is 0."

abbrev pub Bursts : Routes → Type 0
Bursts Route = (k : ℕ) (a b : List ℕ) → Bits a → Bits b → a ≢ b → Burst k a b → (key : ℕ) → Confuses Route k a b key → ⊥

abbrev pub BurstsCount : Type 0
BurstsCount = (k : ℕ) (a b : List ℕ) → Bits a → Bits b → a ≢ b → Burst k a b → count_from (confused a b) (2 ^ k) (2 ^ k) ≡ 0

-- ---- plain marks (document 02, wish 9): "protected, by demand 3's counts over such lists, only where the files are equally long". A burst has
-- equal lengths, so that `Bursts` needs no form of its own.

abbrev pub PlainConfusions : Routes → Type 0
PlainConfusions Route = (k : ℕ) (a b : List ℕ) → length a ≡ length b → Few Route k a b

abbrev pub PlainCounted : Routes → Type 0
PlainCounted Route = (k : ℕ) (a b : List ℕ) → length a ≡ length b → AsTested Route k a b

-- "empty and one zero byte share a plain fingerprint of 0": every accepted key confuses them
abbrev pub EmptyAndZero : Routes → Type 0
EmptyAndZero Route = (key : ℕ) → accepted key ≡ true → Confuses Route (degree key) [] (bits (0x00 ∷ [])) key
