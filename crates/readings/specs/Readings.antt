-- Document 01, "Bench readings": those marked P, as one table over the definitions that the code's promises cite; and a second table for the
-- key of degree 64 (document 02, wish 8). Two results, `readings` and `at_64`, prove them (proofs/Readings.antt).
use Rattle.std.specs.Prelude.{◌≡◌, true, List, [], ◌∷◌, ℕ}
use Rattle.refusals.specs.Refusals.{Done, state_of, number_of}
use Rattle.acceptance.specs.Keys.{accepted, key_of}
use Rattle.files.specs.declared.Mark.{Mark}
use Rattle.files.specs.Files.{bits, fingerprint}
use Rattle.keys.specs.Testing.{test_key}
use Rattle.compose.specs.Composing.{join_behind}
use Rattle.search.specs.Searching.{search}
use Rattle.draw.specs.Drawing.{draw}
use Rattle.files.specs.Bursts.{Burst}

abbrev pub mark : ℕ → ℕ → Mark
mark f n = record { fingerprint = f; length = n }

abbrev pub zero_file : List ℕ
zero_file = 0x00 ∷ 0x00 ∷ []

-- the same residue modulo 0x11B
abbrev pub key_file : List ℕ
key_file = 0x01 ∷ 0x1B ∷ []

abbrev pub Readings : Type 0
Readings =
    -- keys
    (number_of (test_key (key_of 0x101)) ≡ 2)
    × (number_of (test_key (key_of 0x405)) ≡ 2)
    × (test_key (key_of 0x11B) ≡ Done (record { degree = 8; low = 0x1B }))
    -- drawing, degree 11, element 3
    × (draw 11 3 ≡ Done (key_of 0xF0B))
    -- key 0x11B, file to fingerprint
    × (fingerprint 0x11B [] ≡ 0x01)
    × (fingerprint 0x11B (bits (0x00 ∷ [])) ≡ 0x1B)
    × (fingerprint 0x11B (bits (0x1B ∷ [])) ≡ 0x00)
    × (fingerprint 0x11B (bits (0x41 ∷ 0x42 ∷ [])) ≡ 0x9D)
    × (fingerprint 0x11B (bits zero_file) ≡ 0x5E)
    -- joining 5A and 59, one byte each
    × (state_of (join_behind (key_of 0x11B) (mark 0x5A 8) (mark 0x59 8)) ≡ mark 0x9D 16)
    -- searching: pattern 01 1B in 00 00
    × (search (key_of 0x11B) zero_file key_file ≡ Done (record { places = 0; alarms = 1 }))
    -- the same fingerprint, across 9 bits, one more than k
    × (fingerprint 0x11B (bits key_file) ≡ 0x5E)
    × Burst 9 (bits zero_file) (bits key_file)
    × (Burst 8 (bits zero_file) (bits key_file) → ⊥)

-- ---- degree 64

abbrev pub long_zero_file : List ℕ
long_zero_file = 0x00 ∷ 0x00 ∷ 0x00 ∷ 0x00 ∷ 0x00 ∷ 0x00 ∷ 0x00 ∷ 0x00 ∷ 0x00 ∷ []

-- the same residue modulo t^64 with the word 1B
abbrev pub long_key_file : List ℕ
long_key_file = 0x01 ∷ 0x00 ∷ 0x00 ∷ 0x00 ∷ 0x00 ∷ 0x00 ∷ 0x00 ∷ 0x00 ∷ 0x1B ∷ []

abbrev pub At64 : Type 0
At64 =
    -- keys: degree 64 and a word are taken; degree 65 is refused, and so is a word with a bit at t^k
    (accepted 0x1000000000000001B ≡ true)
    × (test_key (record { degree = 64; word = 0x1B }) ≡ Done (record { degree = 64; low = 0x1B }))
    × (number_of (test_key (record { degree = 65; word = 0x1B })) ≡ 1)
    × (number_of (test_key (record { degree = 8; word = 0x11B })) ≡ 1)
    -- no key of degree 64 is drawn
    × (number_of (draw 64 2) ≡ 3)
    -- file to fingerprint
    × (fingerprint 0x1000000000000001B (bits (0x41 ∷ 0x42 ∷ [])) ≡ 0x14142)
    -- the same fingerprint, across 65 bits, one more than k
    × (fingerprint 0x1000000000000001B (bits long_zero_file) ≡ 0x1B00)
    × (fingerprint 0x1000000000000001B (bits long_key_file) ≡ 0x1B00)
    × Burst 65 (bits long_zero_file) (bits long_key_file)
    × (Burst 64 (bits long_zero_file) (bits long_key_file) → ⊥)
