-- Files, fingerprints and marks (document 01, "Marks"; 003, section 2). A file is its list of bits (document 02, wish 7). The start s is
-- what stands in front of these bits: 1 in our marks, 0 in plain marks (document 02, wish 9; PlainMarks.antt).
use Rattle.std.specs.Prelude.{◌≡◌, Bool, cond, ◌&&◌, ◌||◌, not, List, [], ◌∷◌, ◌++◌, ℕ, zero, suc, ◌+◌, ◌-◌, ◌*◌, ◌/◌, ◌%◌, ◌^◌, ◌≤◌, ◌<◌, leb, ltb, eqb, length, get_or, take, drop}
use Rattle.gf2.specs.Polynomials.{◌⊕◌, degree, rem}
use Rattle.lists.specs.Lists.{All}
use Rattle.files.specs.declared.Mark.{Mark}

-- the n low bits of a number, the highest first
unfoldable pub low_bits : ℕ → ℕ → List ℕ
low_bits zero b = []
low_bits (suc n) b = b / 2 ^ n % 2 ∷ low_bits n b

-- the bits of bytes, the high bit of each byte first. Of an entry that is no byte, the eight low bits.
unfoldable pub bits : List ℕ → List ℕ
bits [] = []
bits (b ∷ bytes) = low_bits 8 b ++ bits bytes

-- the polynomial of a string of bits behind the start s: the last bit is the coefficient of t^0. Of an entry that is no bit, the low bit.
unfoldable pub value_from : ℕ → List ℕ → ℕ
value_from s [] = s
value_from s (b ∷ bs) = value_from (s * 2 + b % 2) bs

-- t^n plus the file's n bits
abbrev pub value : List ℕ → ℕ
value file = value_from 1 file

-- every entry is a bit
abbrev pub Bits : List ℕ → Type 0
Bits file = All (λ b. b < 2) file

-- every entry is a byte
abbrev pub Bytes : List ℕ → Type 0
Bytes bytes = All (λ b. b < 256) bytes

-- the residue of a file's bits behind the start s, and the mark that has it
unfoldable pub fingerprint_from : ℕ → ℕ → List ℕ → ℕ
fingerprint_from s key file = rem key (value_from s file)

unfoldable pub mark_from : ℕ → ℕ → List ℕ → Mark
mark_from s key file = record { fingerprint = fingerprint_from s key file; length = length file }

-- Rabin's fingerprint, with Broder's order of bits and the leading 1
abbrev pub fingerprint : ℕ → List ℕ → ℕ
fingerprint key file = fingerprint_from 1 key file

abbrev pub mark_of : ℕ → List ℕ → Mark
mark_of key file = mark_from 1 key file

-- the mark is true of the file under the key
abbrev pub TrueFrom : ℕ → ℕ → List ℕ → Mark → Type 0
TrueFrom s key file m = m ≡ mark_from s key file

abbrev pub True : ℕ → List ℕ → Mark → Type 0
True key file m = TrueFrom 1 key file m

-- ---- parts (document 02, wish 7): "bytes and u, the used bits of its final byte", "which stand at that byte's high end"

pub record Part : Type 0 where
  pub bytes : List ℕ
  pub used : ℕ

abbrev pub as_part : List ℕ → ℕ → Part
as_part bytes used = record { bytes = bytes; used = used }

-- whole bytes
abbrev pub whole : List ℕ → Part
whole bytes = as_part bytes 8

-- in a length, "a u outside 1 to 8 counts as 8"
unfoldable pub used_bits : ℕ → ℕ
used_bits u = cond (leb 1 u && leb u 8) u 8

-- the length in bits: "a part without bytes is 0 long"
unfoldable pub part_length : Part → ℕ
part_length p = cond (eqb (length p.bytes) 0) 0 (8 * (length p.bytes - 1) + used_bits p.used)

unfoldable pub part_bits : Part → List ℕ
part_bits p = take (part_length p) (bits p.bytes)

-- "u outside 1 to 8, or not 8 for a part without bytes, or unused low bits of the final byte not zero" (number 19)
unfoldable pub misused : Part → Bool
misused p =
    let n = length p.bytes in
    ltb p.used 1
    || ltb 8 p.used
    || (eqb n 0 && not (eqb p.used 8))
    || not (eqb (get_or p.bytes (n - 1) 0 % 2 ^ (8 - p.used)) 0)

-- the bytes that n bits take, an unfinished byte counted as one
abbrev pub bytes_for : ℕ → ℕ
bytes_for n = (n + 7) / 8

-- ---- what calls make of marks, under a key: values alone, whatever is refused

-- the fingerprint is not below 2^k (number 8)
abbrev pub unreduced : ℕ → Mark → Bool
unreduced key m = leb (2 ^ degree key) m.fingerprint

-- the part goes behind what was fed: the residue of the bits behind the fingerprint
unfoldable pub fed_mark : ℕ → Mark → Part → Mark
fed_mark key m part = record { fingerprint = rem key (value_from m.fingerprint (part_bits part)); length = m.length + part_length part }

-- joined: F·t^b + G + s·t^b, and a + b, where a and b are lengths in bits
unfoldable pub joined_from : ℕ → ℕ → Mark → Mark → Mark
joined_from s key x y =
    record { fingerprint = rem key (x.fingerprint * 2 ^ y.length ⊕ y.fingerprint ⊕ s * 2 ^ y.length); length = x.length + y.length }

abbrev pub joined : ℕ → Mark → Mark → Mark
joined key x y = joined_from 1 key x y

-- a page replaced, from the byte at a place on: the difference of the two pages' fingerprints, times t^(bits after the page), is added
unfoldable pub replaced : ℕ → Mark → ℕ → Part → Part → Mark
replaced key m place old new =
    let after = m.length - (8 * place + part_length old) in
    let change = fingerprint key (part_bits old) ⊕ fingerprint key (part_bits new) in
    record { fingerprint = rem key (m.fingerprint ⊕ change * 2 ^ after); length = m.length }

-- ---- claims

-- no two files have one value
abbrev pub ValuesDiffer : Type 0
ValuesDiffer = (a b : List ℕ) → Bits a → Bits b → value a ≡ value b → a ≡ b

-- the value's degree is the file's length
abbrev pub ValueDegree : Type 0
ValueDegree = (file : List ℕ) → degree (value file) ≡ length file

-- a part has as many bits as its length says,
abbrev pub BitsOfPart : Type 0
BitsOfPart = (p : Part) → length (part_bits p) ≡ part_length p

-- and as many bytes as these bits take;
abbrev pub BytesOfPart : Type 0
BytesOfPart = (p : Part) → bytes_for (part_length p) ≡ length p.bytes

-- the bits of whole bytes are those of the bytes
abbrev pub BitsOfWhole : Type 0
BitsOfWhole = (bytes : List ℕ) → part_bits (whole bytes) ≡ bits bytes

-- true marks joined are true of the files joined, whatever the start
abbrev pub JoinedTrue : Type 0
JoinedTrue =
    (s key : ℕ) (a b : List ℕ) (x y : Mark) → 0 < key → TrueFrom s key a x → TrueFrom s key b y → TrueFrom s key (a ++ b) (joined_from s key x y)

-- a true mark with a page replaced is true of the file with the new page: "It is right where the old bytes are what stood there"
abbrev pub ReplacedTrue : Type 0
ReplacedTrue =
    (s key : ℕ) (file : List ℕ) (m : Mark) (place : ℕ) (old new : Part) → 0 < key → TrueFrom s key file m
    → part_length old ≡ part_length new → 8 * place + part_length old ≤ length file → take (part_length old) (drop (8 * place) file) ≡ part_bits old
    → TrueFrom s key (take (8 * place) file ++ part_bits new ++ drop (8 * place + part_length old) file) (replaced key m place old new)
