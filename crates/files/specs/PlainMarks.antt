-- Plain marks (document 02, wish 9): fingerprints by 003's equations (3) and (4), "no 1 in front", joined by equation (10) as it stands. They
-- are the definitions of Files.antt with the start 0; feeding and page change are the same for both kinds.
use Rattle.std.specs.Prelude.{◌≡◌, List, ◌∷◌, ℕ, ◌^◌, ◌<◌, length}
use Rattle.gf2.specs.Polynomials.{◌⊕◌, degree, rem}
use Rattle.files.specs.declared.Mark.{Mark}
use Rattle.files.specs.Files.{fingerprint_from, mark_from, True, TrueFrom, Part, fed_mark, joined_from, joined, replaced}

abbrev pub plain_fingerprint : ℕ → List ℕ → ℕ
plain_fingerprint key file = fingerprint_from 0 key file

abbrev pub plain_mark_of : ℕ → List ℕ → Mark
plain_mark_of key file = mark_from 0 key file

-- "A plain mark is true of a file when its fingerprint is the plain one and its length the file's"
abbrev pub PlainTrue : ℕ → List ℕ → Mark → Type 0
PlainTrue key file m = TrueFrom 0 key file m

abbrev pub plain_joined : ℕ → Mark → Mark → Mark
plain_joined key x y = joined_from 0 key x y

-- turned, "from its length alone": t^n is added, n being the length, so that the 1 comes in front or is taken off
unfoldable pub turned : ℕ → Mark → Mark
turned key m = record { fingerprint = rem key (m.fingerprint ⊕ 2 ^ m.length); length = m.length }

-- ---- claims

-- "turning a true mark, either way, gives a true one"
abbrev pub TurnedTrue : Type 0
TurnedTrue = (key : ℕ) (file : List ℕ) (m : Mark) → 0 < key → PlainTrue key file m → True key file (turned key m)

abbrev pub TurnedBack : Type 0
TurnedBack = (key : ℕ) (file : List ℕ) (m : Mark) → 0 < key → True key file m → PlainTrue key file (turned key m)

-- Turned before or behind is the same, of every mark, true or not: a part fed,
abbrev pub TurnedFed : Type 0
TurnedFed = (key : ℕ) (m : Mark) (part : Part) → 0 < key → fed_mark key (turned key m) part ≡ turned key (fed_mark key m part)

-- a page replaced,
abbrev pub TurnedReplaced : Type 0
TurnedReplaced =
    (key : ℕ) (m : Mark) (place : ℕ) (old new : Part) → 0 < key
    → replaced key (turned key m) place old new ≡ turned key (replaced key m place old new)

-- two marks joined, each kind by its own rule
abbrev pub TurnedJoined : Type 0
TurnedJoined = (key : ℕ) (x y : Mark) → 0 < key → joined key (turned key x) (turned key y) ≡ turned key (plain_joined key x y)

-- a mark turned twice is what it was
abbrev pub TurnedTwice : Type 0
TurnedTwice = (key : ℕ) (m : Mark) → 0 < key → m.fingerprint < 2 ^ degree key → turned key (turned key m) ≡ m

-- a zero bit in front of a file changes no plain fingerprint
abbrev pub ZeroInFront : Type 0
ZeroInFront = (key : ℕ) (file : List ℕ) → plain_fingerprint key (0 ∷ file) ≡ plain_fingerprint key file

-- files of one length have equal fingerprints behind one start where they have them behind another
abbrev pub EqualStarts : Type 0
EqualStarts =
    (s u key : ℕ) (a b : List ℕ) → 0 < key → length a ≡ length b → fingerprint_from s key a ≡ fingerprint_from s key b
    → fingerprint_from u key a ≡ fingerprint_from u key b
