-- For inner functions: a reader of the promises need not read this page. What they promise of page marks joined, and of the bits of their
-- fields.
use Rattle.std.specs.Prelude.{◌≡◌, ◌≢◌, Bool, false, List, [], ◌∷◌, ℕ, ◌+◌, ◌-◌, ◌*◌, ◌%◌, ◌^◌, ◌≤◌, ◌<◌, leb, get_or}
use Rattle.std.specs.Int.Bits.{bit_or}
use Rattle.gf2.specs.Polynomials.{◌⊕◌, rem}
use Rattle.files.specs.Files.{mark_of}
use Rattle.lookups.specs.Groups.{looked}
use Rattle.big_endian.specs.Numbers.{numbers_at}
use Rattle.sheets.specs.Layout.{Layout}
use Rattle.sheets.specs.Sheets.{some_unreduced, joined_pages, page_length}
use Rattle.sheets.specs.Inner.{filling}
use Rattle.sheet_joining.specs.declared.Joined.{Joined}
use Rattle.sheet_joining.specs.declared.Lanes.{Lanes}

-- page marks joined behind the residue f, each page shifting by t^e; and the same by the table of that shift
unfoldable pub chained : ℕ → ℕ → ℕ → List ℕ → ℕ
chained key e f [] = f
chained key e f (g ∷ gs) = chained key e (rem key (f * 2 ^ e ⊕ g ⊕ 2 ^ e)) gs

unfoldable pub looping : List ℕ → ℕ → List ℕ → ℕ
looping words f [] = f
looping words f (g ∷ gs) = looping words (looked 8 words 8 0 f ⊕ g ⊕ get_or words 1 0) gs

-- the bits of all fields: whatever k is, they are below 2^k exactly where each field is. The bits below the highest one are left free.
abbrev pub BitsOf : List ℕ → ℕ → Type 0
BitsOf fs bits = (k : ℕ) → leb (2 ^ k) bits ≡ some_unreduced k fs

-- four lanes of q fields from a place on, the first behind 1 and the others behind 0; and the bits of all their fields
pub record LanesJoined (words : List ℕ) (place q : ℕ) (l : List ℕ) (r : Lanes) : Type 0 where
  pub a : r.a ≡ looping words 1 (numbers_at place 8 q l)
  pub b : r.b ≡ looping words 0 (numbers_at (place + 8 * q) 8 q l)
  pub c : r.c ≡ looping words 0 (numbers_at (place + 8 * q + 8 * q) 8 q l)
  pub d : r.d ≡ looping words 0 (numbers_at (place + 8 * q + 8 * q + 8 * q) 8 q l)
  pub bits : BitsOf (numbers_at place 8 (4 * q) l) r.bits

-- marks of pages of s bits joined under a key of degree k. Where a field is not below 2^k, the mark is left free.
pub record RunJoined (key k s : ℕ) (fields : List ℕ) (r : Joined) : Type 0 where
  pub mark : some_unreduced k fields ≡ false → r.mark ≡ chained key s 1 fields
  pub bits : BitsOf fields r.bits

-- one mark more, of a page of n bits. The numbers may be unreduced: their low bits count.
pub record LastJoined (key k : ℕ) (x : Joined) (last n : ℕ) (r : Joined) : Type 0 where
  pub mark : r.mark ≡ rem key (x.mark % 2 ^ k * 2 ^ n ⊕ last % 2 ^ k ⊕ 2 ^ n)
  pub bits : r.bits ≡ bit_or x.bits last

-- w of the c pages, of s bits, of a file of n bits count s bits each: all of them, or all but the last, which has what is left
pub record WholeOf (filled : Bool) (c s n w : ℕ) : Type 0 where
  pub all : w ≡ c → (i : ℕ) → i < c → page_length (filling filled) s (n - i * s) ≡ s
  pub but_last : w ≢ c → (filled ≡ false) × (w + 1 ≡ c) × (w * s ≤ n) × (n < w * s + s)
  pub few : w ≤ c

-- the page marks of a sheet joined, by its layout, for a file of n bits in pages of s bits
pub record PagesJoined (v : Layout) (key k s n : ℕ) (fields : List ℕ) (r : Joined) : Type 0 where
  pub mark : some_unreduced k fields ≡ false → r.mark ≡ (joined_pages v key s n (mark_of key []) fields).fingerprint
  pub bits : BitsOf fields r.bits
