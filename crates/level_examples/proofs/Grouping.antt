-- Joining in any grouping, and the exclusive or of files (document 02, wish 12): examples under 0x11B, some of them of both kinds, to which each claim
-- is applied; and three marks, the first of them not acceptable by itself, of which the claim would be false.
use mathlib.Core.Path.{◌≡◌, refl, sym, ap, ◌∙◌}
use mathlib.Core.Bool.{false}
use mathlib.Core.List.{List, [], ◌∷◌, map, zip_with, flatten}
use Prim.Native.Nat.{ℕ, ◌<◌}
use native.Mathlib.Omega.{arith}
use Rattle.gf2.specs.Polynomials.{◌⊕◌, halvings, degree, monic, reduce, long_division, rem}
use Rattle.lists.specs.Lists.{any_below}
use Rattle.refusals.specs.declared.Refusal.TheVariants.{TooLong, MarkNotReduced}
use Rattle.refusals.specs.Refusals.{Done, Refused, number_of}
use Rattle.acceptance.specs.declared.Key.{Key}
use Rattle.acceptance.specs.Keys.{reducible, key_of}
use Rattle.files.specs.declared.Mark.{Mark}
use Rattle.files.specs.Files.{low_bits, bits, value_from, fingerprint_from, fingerprint, mark_from, Part, as_part, used_bits, part_length, part_bits, misused}
use Rattle.files.specs.Files.{joined_from}
use Rattle.files.specs.PlainMarks.{plain_fingerprint}
use Rattle.files.specs.Grouping.{xor_lists, xor_parts}
use Rattle.files.proofs.Grouping.{joined_assoc, empty-joined, xor-two, xor_ours, xor_three, xor-parts, xor-used}
use Rattle.compose.specs.Composing.{join_behind_from, join_in_front_from}
use Rattle.compose.specs.Grouping.{Acceptable, stateless, left_first, right_first, Grouping, One, Both, marks, AllAcceptable, joined_by, joined_in_turn}
use Rattle.compose.proofs.Grouping.{either_call, any_two-first, empty_nothing, any_grouping, grouping_number, grouping_true}
use Rattle.level_examples.proofs.Bench.{accepted_11_b}

abbrev mark : ℕ → ℕ → Mark
mark f n = record { fingerprint = f; length = n }

abbrev x : Key
x = key_of 0x11B

-- ---- three marks: 41, 42 and 43, first the two on the left, then the two on the right

left : (left_first 1 x (mark 0x5A 8) (mark 0x59 8) (mark 0x58 8) ≡ Done (mark 0x68 24))
    × (left_first 0 x (mark 0x41 8) (mark 0x42 8) (mark 0x43 8) ≡ Done (mark 0xDB 24))
unfolding join_behind_from joined_from monic reducible any_below rem long_division reduce degree halvings ◌⊕◌
left = (refl, refl)

fits : (f : ℕ) → f < 256 → Acceptable 0x11B (mark f 8)
unfolding degree halvings
fits f l = (omega arith, l)

pub right : (right_first 1 x (mark 0x5A 8) (mark 0x59 8) (mark 0x58 8) ≡ Done (mark 0x68 24))
    × (right_first 0 x (mark 0x41 8) (mark 0x42 8) (mark 0x43 8) ≡ Done (mark 0xDB 24))
right = (
  sym (any_two-first 1 0x11B _ _ _ accepted_11_b (fits 0x5A (omega arith)) (fits 0x59 (omega arith)) (fits 0x58 (omega arith))) ∙ left.0,
  sym (any_two-first 0 0x11B _ _ _ accepted_11_b (fits 0x41 (omega arith)) (fits 0x42 (omega arith)) (fits 0x43 (omega arith))) ∙ left.1,
)

-- The first mark is not acceptable by itself: its fingerprint is not below 2^8. The last two lengths pass the limit together. The numbers differ, so
-- that the premise is needed.
pub not-acceptable : (left_first 1 x (mark 0x100 8) (mark 0x01 8) (mark 0x01 34359738360) ≡ Refused MarkNotReduced tt)
    × (right_first 1 x (mark 0x100 8) (mark 0x01 8) (mark 0x01 34359738360) ≡ Refused TooLong tt)
unfolding join_behind_from monic reducible any_below rem long_division reduce degree halvings ◌⊕◌
not-acceptable = (refl, refl)

-- a joining made from the other mark; the values; and the empty mark
pub either : stateless (join_behind_from 1 x (mark 0x5A 8) (mark 0x59 8)) ≡ stateless (join_in_front_from 1 x (mark 0x59 8) (mark 0x5A 8))
either = either_call 1 x (mark 0x5A 8) (mark 0x59 8)

pub values : joined_from 1 0x11B (joined_from 1 0x11B (mark 0x5A 8) (mark 0x59 8)) (mark 0x58 8)
    ≡ joined_from 1 0x11B (mark 0x5A 8) (joined_from 1 0x11B (mark 0x59 8) (mark 0x58 8))
values = joined_assoc 1 0x11B (mark 0x5A 8) (mark 0x59 8) (mark 0x58 8) (omega arith)

empty-marks : (mark_from 1 0x11B [] ≡ mark 0x01 0) × (mark_from 0 0x11B [] ≡ mark 0x00 0)
unfolding mark_from fingerprint_from value_from rem long_division reduce degree halvings ◌⊕◌
empty-marks = (refl, refl)

pub empty-values : (joined_from 1 0x11B (mark 0x5A 8) (mark 0x01 0) ≡ mark 0x5A 8) × (joined_from 0 0x11B (mark 0x00 0) (mark 0x41 8) ≡ mark 0x41 8)
unfolding degree halvings
empty-values = (
  ap (joined_from 1 0x11B (mark 0x5A 8)) (sym empty-marks.0) ∙ (empty-joined 1 0x11B (mark 0x5A 8) (omega arith) (omega arith)).0,
  ap (λ (e : Mark). joined_from 0 0x11B e (mark 0x41 8)) (sym empty-marks.1) ∙ (empty-joined 0 0x11B (mark 0x41 8) (omega arith) (omega arith)).1,
)

-- the longest file, and the largest fingerprint
abbrev top : Mark
top = mark 0xFF 34359738360

pub beside_the_empty : (join_behind_from 1 x top (mark 0x01 0) ≡ Done top)
    × (join_in_front_from 1 x top (mark 0x01 0) ≡ Done top)
    × (join_behind_from 1 x (mark 0x01 0) top ≡ Done top)
    × (join_in_front_from 1 x (mark 0x01 0) top ≡ Done top)
unfolding degree halvings
beside_the_empty = rw empty-marks.0 at (empty_nothing 1 0x11B top accepted_11_b (omega arith, omega arith))

pub plain_beside_the_empty : (join_behind_from 0 x top (mark 0x00 0) ≡ Done top)
    × (join_in_front_from 0 x top (mark 0x00 0) ≡ Done top)
    × (join_behind_from 0 x (mark 0x00 0) top ≡ Done top)
    × (join_in_front_from 0 x (mark 0x00 0) top ≡ Done top)
unfolding degree halvings
plain_beside_the_empty = rw empty-marks.1 at (empty_nothing 0 0x11B top accepted_11_b (omega arith, omega arith))

-- ---- a season of two weeks, of two days and of one

abbrev season : Mark → Mark → Mark → Grouping
season a b c = Both (Both (One a) (One b)) (One c)

abbrev days : Grouping
days = season (mark 0x5A 8) (mark 0x59 8) (mark 0x58 8)

-- 34,359,738,352 bits in the first week, and n in the second
abbrev long-days : ℕ → Grouping
long-days n = season (mark 0x5A 8) (mark 0x59 34359738344) (mark 0x03 n)

acceptable : AllAcceptable 0x11B days × AllAcceptable 0x11B (long-days 8) × AllAcceptable 0x11B (long-days 9)
unfolding degree halvings
acceptable = (
  (((omega arith, omega arith), (omega arith, omega arith)), (omega arith, omega arith)),
  (((omega arith, omega arith), (omega arith, omega arith)), (omega arith, omega arith)),
  (((omega arith, omega arith), (omega arith, omega arith)), (omega arith, omega arith)),
)

by_weeks : joined_by 1 x days ≡ Done (mark 0x68 24)
unfolding join_behind_from joined_from monic reducible any_below rem long_division reduce degree halvings ◌⊕◌
by_weeks = refl

pub in-turn : joined_in_turn 1 x (mark_from 1 0x11B []) (marks days) ≡ Done (mark 0x68 24)
in-turn = sym (any_grouping 1 0x11B days accepted_11_b acceptable.0) ∙ by_weeks

-- at the limit it is not refused; one bit more, and it is refused with 7
pub at_the_limit : (number_of (joined_by 1 x (long-days 8)) ≡ 0) × (number_of (joined_by 1 x (long-days 9)) ≡ 7)
at_the_limit = (
  grouping_number 1 0x11B (long-days 8) accepted_11_b acceptable.1,
  grouping_number 1 0x11B (long-days 9) accepted_11_b acceptable.2,
)

-- so 68 is the mark of 41 42 43
abbrev files : List (List ℕ)
files = bits (0x41 ∷ []) ∷ bits (0x42 ∷ []) ∷ bits (0x43 ∷ []) ∷ []

their_marks : marks days ≡ map (mark_from 1 0x11B) files
unfolding mark_from fingerprint_from value_from bits low_bits rem long_division reduce degree halvings ◌⊕◌
their_marks = refl

pub the_season : mark 0x68 24 ≡ mark_from 1 0x11B (flatten files)
the_season = grouping_true 1 0x11B days files (mark 0x68 24) (omega arith) their_marks by_weeks

-- ---- exclusive or: 41 42, 00 00 and 01 1B, which together are 40 59

abbrev a : List ℕ
a = 0x41 ∷ 0x42 ∷ []

abbrev b : List ℕ
b = 0x00 ∷ 0x00 ∷ []

abbrev c : List ℕ
c = 0x01 ∷ 0x1B ∷ []

abbrev sum : List ℕ
sum = 0x40 ∷ 0x59 ∷ []

sums : (xor_lists (xor_lists (bits a) (bits b)) (bits c) ≡ bits sum) × (xor_lists (bits a) (bits c) ≡ bits sum)
unfolding zip_with bits low_bits ◌⊕◌
sums = (refl, refl)

fingerprints : (fingerprint 0x11B (bits a) ≡ 0x9D)
    × (fingerprint 0x11B (bits b) ≡ 0x5E)
    × (fingerprint 0x11B (bits c) ≡ 0x5E)
    × (plain_fingerprint 0x11B (bits a) ≡ 0xC3)
    × (plain_fingerprint 0x11B (bits c) ≡ 0x00)
    × (plain_fingerprint 0x11B (bits b) ≡ 0x00)
unfolding fingerprint_from value_from bits low_bits rem long_division reduce degree halvings ◌⊕◌
fingerprints = (refl, refl, refl, refl, refl, refl)

pub of_three : fingerprint 0x11B (bits sum) ≡ 0x9D
unfolding bits low_bits ◌⊕◌
of_three =
    ap (fingerprint 0x11B) (sym sums.0)
    ∙ xor_three 1 0x11B (bits a) (bits b) (bits c) (omega arith) refl refl
    ∙ rw (fingerprints.0, fingerprints.1, fingerprints.2)

pub of_three_plain : plain_fingerprint 0x11B (bits sum) ≡ 0xC3
unfolding bits low_bits ◌⊕◌
of_three_plain =
    ap (plain_fingerprint 0x11B) (sym sums.0)
    ∙ xor_three 0 0x11B (bits a) (bits b) (bits c) (omega arith) refl refl
    ∙ rw (fingerprints.3, fingerprints.5, fingerprints.4)

-- two plain fingerprints, and two of ours: each sum is the plain fingerprint of 40 59
pub of_two_plain : plain_fingerprint 0x11B (bits sum) ≡ 0xC3
unfolding bits low_bits ◌⊕◌
of_two_plain =
    ap (plain_fingerprint 0x11B) (sym sums.1) ∙ xor-two 0 0 0x11B (bits a) (bits c) (omega arith) refl ∙ rw (fingerprints.3, fingerprints.4)

pub of_two_of_ours : plain_fingerprint 0x11B (bits sum) ≡ 0xC3
unfolding bits low_bits ◌⊕◌
of_two_of_ours =
    ap (plain_fingerprint 0x11B) (sym sums.1) ∙ xor_ours 0x11B (bits a) (bits c) (omega arith) refl ∙ rw (fingerprints.0, fingerprints.2)

-- 41, 42 and 43: together 40; and 41 and 42 of ours: the plain fingerprint of 03, which is not its fingerprint
abbrev byte : ℕ → List ℕ
byte n = bits (n ∷ [])

bytes : (xor_lists (xor_lists (byte 0x41) (byte 0x42)) (byte 0x43) ≡ byte 0x40) × (xor_lists (byte 0x41) (byte 0x42) ≡ byte 0x03)
unfolding zip_with bits low_bits ◌⊕◌
bytes = (refl, refl)

byte-fingerprints : (fingerprint 0x11B (byte 0x41) ≡ 0x5A)
    × (fingerprint 0x11B (byte 0x42) ≡ 0x59)
    × (fingerprint 0x11B (byte 0x43) ≡ 0x58)
    × (fingerprint 0x11B (byte 0x03) ≡ 0x18)
unfolding fingerprint_from value_from bits low_bits rem long_division reduce degree halvings ◌⊕◌
byte-fingerprints = (refl, refl, refl, refl)

pub of_three_bytes : fingerprint 0x11B (byte 0x40) ≡ 0x5B
unfolding bits low_bits ◌⊕◌
of_three_bytes =
    ap (fingerprint 0x11B) (sym bytes.0)
    ∙ xor_three 1 0x11B (byte 0x41) (byte 0x42) (byte 0x43) (omega arith) refl refl
    ∙ rw (byte-fingerprints.0, byte-fingerprints.1, byte-fingerprints.2)

pub of_two-bytes : (plain_fingerprint 0x11B (byte 0x03) ≡ 0x03) × (fingerprint 0x11B (byte 0x03) ≡ 0x18)
unfolding bits low_bits ◌⊕◌
of_two-bytes = (
  ap (plain_fingerprint 0x11B) (sym bytes.1)
      ∙ xor_ours 0x11B (byte 0x41) (byte 0x42) (omega arith) refl
      ∙ rw (byte-fingerprints.0, byte-fingerprints.1),
  byte-fingerprints.3,
)

-- three bits of each final byte
abbrev front : Part
front = as_part (0x41 ∷ 0x40 ∷ []) 3

abbrev back : Part
back = as_part (0x01 ∷ 0xA0 ∷ []) 3

used : (misused front ≡ false) × (misused back ≡ false)
unfolding misused
used = (refl, refl)

pub of_parts : (part_bits (xor_parts front back) ≡ xor_lists (part_bits front) (part_bits back)) × (misused (xor_parts front back) ≡ false)
of_parts = (xor-parts front back (refl, refl), xor-used front back (refl, refl) used.0 used.1)

pub their_bits : (xor_parts front back ≡ as_part (0x40 ∷ 0xE0 ∷ []) 3)
    × (xor_lists (part_bits front) (part_bits back) ≡ 0 ∷ 1 ∷ 0 ∷ 0 ∷ 0 ∷ 0 ∷ 0 ∷ 0 ∷ 1 ∷ 1 ∷ 1 ∷ [])
unfolding zip_with part_bits part_length used_bits bits low_bits ◌⊕◌
their_bits = (refl, refl)
