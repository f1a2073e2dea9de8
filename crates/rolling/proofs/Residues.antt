-- Laws of the residue without the leading 1: of bytes appended and of the next window; and of the tables.
use mathlib.Core.Path.{◌≡◌, sym, ap, ◌∙◌}
use mathlib.Core.List.{List, [], ◌∷◌, ◌++◌}
use Prim.Native.Nat.{ℕ, suc, ◌+◌, ◌*◌, ◌^◌, ◌<◌}
use native.Mathlib.Nat.{add-zero, mul-one, zero-mul, zero-add, mod-eq_of_lt}
use native.Mathlib.Decide.{ℕ_discrete}
use native.Mathlib.Numerals.{add-one}
use native.Mathlib.Omega.{arith}
use borrow.Author.Tests.{eq-eqb, ne_eqb}
use lib.Dec.{eqb}
use lib.ListN.{length, get_or}
use lib.Pow.{pow-add}
use Rattle.gf2.specs.Polynomials.{◌⊕◌, ◌⊗◌, rem}
use Rattle.gf2.specs.Moduli.{polynomial, Proper}
use Rattle.gf2.specs.declared.Modulus.{Modulus}
use Rattle.gf2.proofs.Sums.{⊕_comm, ⊕_move}
use Rattle.gf2.proofs.Products.{⊗-pow}
use Rattle.gf2.proofs.Residues.{rem-zero, rem-⊕}
use Rattle.gf2.proofs.Powers.{rem-⊗-right, rem_shl}
use Rattle.gf2.proofs.Monics.{monic-pos}
use Rattle.gf2.proofs.Steps.{residue-below, residue-top}
use Rattle.multiples.specs.Rows.{Multiples, Rows}
use Rattle.files.specs.Files.{bits, value_from, fingerprint, fingerprint_from}
use Rattle.files.proofs.Values.{value-append, value-⊕, value-byte, length-bits, bits-append, rem-from}
use Rattle.files.proofs.Turning.{equal-starts}
use Rattle.rolling.specs.declared.text_windows.Windows.{Windows}
use Rattle.rolling.specs.Rolling.{window, residue, key_of, ResidueAt}
use Rattle.rolling.proofs.Window.{window-length, window_more, window-front, window-none}

one_byte : (s b : ℕ) → b < 256 → value_from s (bits (b ∷ [])) ≡ s * 256 + b
unfolding value_from bits
one_byte s b h = value-byte s b [] ∙ ap (λ (x : ℕ). s * 256 + x) (mod-eq_of_lt h)

module _ {p : ℕ} (pos : 0 < p) where
  -- among bytes of one length the leading 1 plays no part
  pub without_one : (a b : List ℕ) → length a ≡ length b → eqb (fingerprint p (bits a)) (fingerprint p (bits b)) ≡ eqb (residue p a) (residue p b)
  unfolding residue
  without_one a b e = go (ℕ_discrete (residue p a) (residue p b))
    where
      same_length : length (bits a) ≡ length (bits b)
      same_length = length-bits a ∙ ap (λ (n : ℕ). 8 * n) e ∙ sym (length-bits b)

      go : Dec (residue p a ≡ residue p b) → eqb (fingerprint p (bits a)) (fingerprint p (bits b)) ≡ eqb (residue p a) (residue p b)
      go (yes q) =
          eq-eqb (fingerprint p (bits a)) (fingerprint p (bits b)) (equal-starts 0 1 p (bits a) (bits b) pos same_length q)
          ∙ sym (eq-eqb (residue p a) (residue p b) q)
      go (no q) =
          ne_eqb (fingerprint p (bits a)) (fingerprint p (bits b)) (λ f. q (equal-starts 1 0 p (bits a) (bits b) pos same_length f))
          ∙ sym (ne_eqb (residue p a) (residue p b) q)

  -- ---- bytes appended, and the next window

  pub residue-none : residue p [] ≡ 0
  unfolding residue fingerprint_from bits value_from
  residue-none = rem-zero p

  pub residue-append : (a : List ℕ) (b : ℕ) → b < 256 → residue p (a ++ b ∷ []) ≡ rem p (residue p a * 256 + b)
  unfolding residue fingerprint_from
  residue-append a b h =
      ap (rem p) (ap (value_from 0) (bits-append a (b ∷ [])) ∙ value-append 0 (bits a) (bits (b ∷ [])))
      ∙ sym (rem-from pos (value_from 0 (bits a)) (bits (b ∷ [])))
      ∙ ap (rem p) (one_byte (rem p (value_from 0 (bits a))) b h)

  -- a power of t, eight places up
  pub shift-more : (i x r : ℕ) → x ≡ rem p (2 ^ (8 * i)) → r ≡ rem p (x * 256 + 0) → r ≡ rem p (2 ^ (8 * (i + 1)))
  shift-more i x r ex er =
      er ∙ rw (ex, add-zero)
      (rem_shl pos (2 ^ (8 * i)) 8 ∙ ap (rem p) (sym (pow-add 2 (8 * i) 8) ∙ ap (λ (n : ℕ). 2 ^ n) e))
    where
      e : 8 * i + 8 ≡ 8 * (i + 1)
      e = omega arith

  residue-front : (x : ℕ) (a : List ℕ) → x < 256 → residue p (x ∷ a) ≡ rem p (x ⊗ 2 ^ (8 * length a)) ⊕ residue p a
  unfolding residue fingerprint_from
  residue-front x a h =
      ap (rem p) (value-byte 0 x a ∙ rw (zero-mul, zero-add, mod-eq_of_lt h) (value-⊕ x (bits a)))
      ∙ rem-⊕ pos (x * 2 ^ length (bits a)) (value_from 0 (bits a))
      ∙ rw (length-bits a, ⊗-pow (8 * length a) x)

  pub residue-more : (m : ℕ) (text : List ℕ) (i : ℕ) → i + m < length text → get_or text (i + m) 0 < 256
      → residue p (window (m + 1) text i) ≡ rem p (residue p (window m text i) * 256 + get_or text (i + m) 0)
  residue-more m text i h l =
      rw (add-one m, window_more m text i h) (residue-append (window m text i) (get_or text (i + m) 0) l)

  -- the first byte, times t^(8m), goes out
  pub residue-next : (m : ℕ) (text : List ℕ) (i : ℕ) → i + m < length text → get_or text i 0 < 256
      → residue p (window m text (i + 1)) ≡ residue p (window (m + 1) text i) ⊕ rem p (get_or text i 0 ⊗ 2 ^ (8 * m))
  residue-next m text i h l =
      ⊕_move gone (residue p (window m text (i + 1))) (residue p (window (m + 1) text i)) (sym front)
      ∙ ⊕_comm gone (residue p (window (m + 1) text i))
    where
      gone : ℕ
      gone = rem p (get_or text i 0 ⊗ 2 ^ (8 * m))

      front : residue p (window (m + 1) text i) ≡ gone ⊕ residue p (window m text (i + 1))
      front =
          rw (add-one m, add-one i, window-front m text i (omega arith))
          (residue-front (get_or text i 0) (window m text (suc i)) l
          ∙ rw (window-length m text (suc i) (omega arith)))

  -- the same as the code goes: x is the residue of a window and the byte behind it, and r is made of it and the table's entry for the first byte
  pub rolled : (m : ℕ) (text outgoing : List ℕ) (i x r : ℕ) → i + m < length text → get_or text i 0 < 256
      → Multiples p (2 ^ (8 * m)) 0 256 outgoing → x ≡ residue p (window (m + 1) text i)
      → r ≡ x ⊕ get_or outgoing (get_or text i 0) 0 → r ≡ residue p (window m text (i + 1))
  rolled m text outgoing i x r h l t ex er = er ∙ rw (ex, rw zero-add at (t (get_or text i 0) l)) (sym (residue-next m text i h l))

-- ---- a window read byte by byte: x is the residue of its first j bytes

module _ (p : Modulus) (proper : Proper p) (text : List ℕ) (i : ℕ) where
  abbrev pub Read : ℕ → ℕ → Type 0
  Read j x = x ≡ residue (polynomial p) (window j text i)

  pos : 0 < polynomial p
  pos = monic-pos p.degree p.low proper.2

  pub read_none : Read 0 0
  read_none = sym (rw window-none (residue-none pos))

  pub read_below : (j x : ℕ) → Read j x → x < 2 ^ p.degree
  unfolding residue fingerprint_from
  read_below j x e = residue-below p proper x (value_from 0 (bits (window j text i))) e

  -- the byte at e comes in behind
  pub read_more : (j e x r : ℕ) → i + j ≡ e → e < length text → get_or text e 0 < 256 → Read j x → r ≡ rem (polynomial p) (x * 256 + get_or text e 0)
      → Read (j + 1) r
  read_more j e x r q h l ex er = er ∙ rw (ex, ← q) (sym (residue-more pos j text i (rw q h) (rw q l)))

  pub read_all : (j m x : ℕ) → j ≡ m → Read j x → Read m x
  read_all j m x e h = rw (← e) h

pub same_place : (w : Windows) (i j x : ℕ) → i ≡ j → ResidueAt w i x → ResidueAt w j x
same_place w i j x e h = h ∙ ap (λ (n : ℕ). residue (key_of w) (window w.m w.text.now n)) e

-- ---- the tables

-- the multiples of a residue are those of what it is the residue of
pub multiples_of : (p : Modulus) → Proper p → (c x : ℕ) (table : List ℕ) → x ≡ rem (polynomial p) c → Multiples (polynomial p) x 0 256 table
    → Multiples (polynomial p) c 0 256 table
multiples_of p h c x table e t i l =
    t i l ∙ ap (λ (y : ℕ). rem (polynomial p) (i ⊗ y)) e ∙ rem-⊗-right (monic-pos p.degree p.low h.2) i c

-- t^k is the low word, so its multiples are the one row of words that takes a byte at t^k and above off
pub one-row : (p : Modulus) → Proper p → (table : List ℕ) → Multiples (polynomial p) p.low 0 256 table → Rows 8 (polynomial p) (2 ^ p.degree) 1 table
one-row p h table t j l i b =
    let z : j ≡ 0 = omega arith in
    rw (z, mul-one (2 ^ p.degree), residue-top p.degree p.low h.2) (t i b)
