-- Marks joined in any grouping, and the exclusive or of files (document 02, wish 12): what is claimed of values, whatever is refused. What is
-- claimed of the calls stands in compose/specs/Grouping.antt. All of it holds of our marks, which have the start 1, and of plain marks, which have 0.
use Rattle.std.specs.Prelude.{◌≡◌, false, ℕ, ◌^◌, ◌<◌, length}
use mathlib.Core.List.{List, [], zip_with}
use Rattle.gf2.specs.Polynomials.{◌⊕◌, degree}
use Rattle.files.specs.declared.Mark.{Mark}
use Rattle.files.specs.Files.{fingerprint_from, fingerprint, mark_from, Part, as_part, part_bits, misused, joined_from}
use Rattle.files.specs.PlainMarks.{plain_fingerprint}

-- ---- three marks, and the empty file's

-- which two neighbours are joined first does not matter, for every three marks, true or not
abbrev pub JoinedAssoc : Type 0
JoinedAssoc = (s key : ℕ) (a b c : Mark) → 0 < key → joined_from s key (joined_from s key a b) c ≡ joined_from s key a (joined_from s key b c)

-- the empty file's mark, joined behind a mark or in front of it, changes nothing
abbrev pub EmptyJoined : Type 0
EmptyJoined =
    (s key : ℕ) (m : Mark) → 0 < key → m.fingerprint < 2 ^ degree key
    → let e = mark_from s key [] in (joined_from s key m e ≡ m) × (joined_from s key e m ≡ m)

-- ---- exclusive or

-- of two lists, entry by entry, as far as both reach: of the bits of two files, and of the bytes of two parts
abbrev pub xor_lists : List ℕ → List ℕ → List ℕ
xor_lists a b = zip_with ◌⊕◌ a b

-- two files of one length, each behind a start of its own. Two plain fingerprints have s = u = 0.
abbrev pub XorTwo : Type 0
XorTwo =
    (s u key : ℕ) (a b : List ℕ) → 0 < key → length a ≡ length b
    → fingerprint_from (s ⊕ u) key (xor_lists a b) ≡ fingerprint_from s key a ⊕ fingerprint_from u key b

-- two of ours: the leading 1s cancel, and what is left is a plain fingerprint. So it takes three files
abbrev pub XorOurs : Type 0
XorOurs = (key : ℕ) (a b : List ℕ) → 0 < key → length a ≡ length b → plain_fingerprint key (xor_lists a b) ≡ fingerprint key a ⊕ fingerprint key b

-- for a fingerprint of the same kind, whatever the start
abbrev pub XorThree : Type 0
XorThree =
    (s key : ℕ) (a b c : List ℕ) → 0 < key → length a ≡ length b → length b ≡ length c
    → fingerprint_from s key (xor_lists (xor_lists a b) c) ≡ fingerprint_from s key a ⊕ fingerprint_from s key b ⊕ fingerprint_from s key c

-- ---- exclusive or of parts, for those who hold bytes

abbrev pub xor_parts : Part → Part → Part
xor_parts a b = as_part (xor_lists a.bytes b.bytes) a.used

-- as many bytes, and as many used bits of the final one
abbrev pub Alike : Part → Part → Type 0
Alike a b = (length a.bytes ≡ length b.bytes) × (a.used ≡ b.used)

-- the bits of the bytes' exclusive or are the exclusive or of the bits,
abbrev pub XorParts : Type 0
XorParts = (a b : Part) → Alike a b → part_bits (xor_parts a b) ≡ xor_lists (part_bits a) (part_bits b)

-- and number 19 does not apply to it where it applies to neither
abbrev pub XorUsed : Type 0
XorUsed = (a b : Part) → Alike a b → misused a ≡ false → misused b ≡ false → misused (xor_parts a b) ≡ false
