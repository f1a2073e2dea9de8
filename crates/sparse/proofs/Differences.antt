-- Laws of a loop over two parts of one length, whose difference is fed by pieces.
use mathlib.Core.Path.{◌≡◌, refl, sym, ap, ap₂, ◌∙◌}
use mathlib.Core.List.{List}
use Prim.Native.Nat.{ℕ, ◌+◌, ◌-◌, ◌*◌, ◌^◌, ◌≤◌, ◌<◌}
use native.Mathlib.Nat.{le_refl, zero-add, zero-mul}
use native.Mathlib.Omega.{arith}
use lib.ListN.{length, take, drop, length-take, length-drop, drop_of_length-le}
use lib.Seq.{take_all}
use Rattle.gf2.specs.Polynomials.{◌⊕◌, rem}
use Rattle.gf2.specs.Moduli.{polynomial, Proper}
use Rattle.gf2.specs.declared.Modulus.{Modulus}
use Rattle.gf2.proofs.Sums.{⊕-zero, ⊕_assoc, ⊕-append, ⊕-lt}
use Rattle.gf2.proofs.Residues.{rem-⊕}
use Rattle.gf2.proofs.Monics.{monic-pos}
use Rattle.gf2.proofs.Steps.{residue-below, residue-small}
use Rattle.files.specs.Files.{bits, value_from}
use Rattle.files.proofs.Values.{length-bits, value-starts, rem-from}
use Rattle.big_endian.proofs.Pieces.{piece-lt, fed-piece}

-- x stands for f and the difference of the bytes from place `from` to place i
abbrev pub Apart : Modulus → ℕ → List ℕ → List ℕ → ℕ → ℕ → ℕ → Type 0
Apart p f old new from i x =
    (x < 2 ^ p.degree)
    × (rem (polynomial p) (value_from x (bits (drop i old)) ⊕ value_from 0 (bits (drop i new)))
    ≡ rem (polynomial p) (value_from f (bits (drop from old)) ⊕ value_from 0 (bits (drop from new))))

module _ (p : Modulus) (proper : Proper p) (f : ℕ) (old new : List ℕ) (same : length old ≡ length new) (from i x : ℕ) (g : Apart p f old new from i x) where
  pos : 0 < polynomial p
  pos = monic-pos p.degree p.low proper.2

  same_bits : (j : ℕ) → length (bits (drop j old)) ≡ length (bits (drop j new))
  same_bits j = omega (arith, length-bits (drop j old), length-bits (drop j new), length-drop j old, length-drop j new, same)

  -- c bytes of either more
  pub apart : (c v w y : ℕ) → i + c ≤ length old → v ≡ value_from 0 (bits (take c (drop i old))) → w ≡ value_from 0 (bits (take c (drop i new)))
      → y ≡ rem (polynomial p) (x * 2 ^ (8 * c) + (v ⊕ w)) → Apart p f old new from (i + c) y
  apart c v w y l ev ew ey = (
    residue-below p proper y z ey,
    ap (λ (u : ℕ). rem key (value_from u xs ⊕ value_from 0 ys)) ey
        ∙ rem-⊕ pos (value_from (rem key z) xs) (value_from 0 ys)
        ∙ ap (λ (u : ℕ). u ⊕ rem key (value_from 0 ys)) (rem-from pos z xs)
        ∙ sym (rem-⊕ pos (value_from z xs) (value_from 0 ys))
        ∙ ap (rem key) (value-starts z 0 a b xs ys (same_bits (i + c)) starts)
        ∙ rem-⊕ pos (value_from a xs) (value_from b ys)
        ∙ ap₂ (λ (u t : ℕ). u ⊕ t)
        (sym (rem-from pos a xs) ∙ fed-piece old i c l pos x (rem key a) (ap (λ (u : ℕ). rem key (x * 2 ^ (8 * c) + u)) ev))
        (sym (rem-from pos b ys) ∙ fed-piece new i c other pos 0 (rem key b) (ap (λ (u : ℕ). rem key (0 * 2 ^ (8 * c) + u)) ew))
        ∙ sym (rem-⊕ pos (value_from x (bits (drop i old))) (value_from 0 (bits (drop i new))))
        ∙ g.1,
  )
    where
      key : ℕ
      key = polynomial p

      z : ℕ
      z = x * 2 ^ (8 * c) + (v ⊕ w)

      a : ℕ
      a = x * 2 ^ (8 * c) + v

      b : ℕ
      b = 0 * 2 ^ (8 * c) + w

      xs : List ℕ
      xs = bits (drop (i + c) old)

      ys : List ℕ
      ys = bits (drop (i + c) new)

      other : i + c ≤ length new
      other = omega (arith, same, l)

      low-old : v < 2 ^ (8 * c)
      low-old = piece-lt old i c v l ev

      low-new : w < 2 ^ (8 * c)
      low-new = piece-lt new i c w other ew

      starts : z ⊕ 0 ≡ a ⊕ b
      starts =
          ⊕-zero z
          ∙ sym (⊕-append x (8 * c) (v ⊕ w) (⊕-lt (8 * c) v w low-old low-new))
          ∙ sym (⊕_assoc (x * 2 ^ (8 * c)) v w)
          ∙ ap₂ (λ (u t : ℕ). u ⊕ t) (⊕-append x (8 * c) v low-old) (sym (ap (λ (u : ℕ). u + w) (zero-mul (2 ^ (8 * c))) ∙ zero-add w))

  -- nothing is left
  pub apart-all : length old ≤ i → x ≡ rem (polynomial p) (value_from f (bits (drop from old)) ⊕ value_from 0 (bits (drop from new)))
  unfolding value_from bits
  apart-all l =
      sym (residue-small p.degree p.low proper.2 x g.0)
      ∙ sym (ap (rem (polynomial p)) (⊕-zero x))
      ∙ (rw (drop_of_length-le old {i = i} l, drop_of_length-le new {i = i} (omega (arith, same, l))) at g.1)

-- ---- a loop over both parts: x, with what is left of them behind it, stands for f and their difference

abbrev pub StandsApart : Modulus → ℕ → List ℕ → List ℕ → ℕ → List ℕ → List ℕ → Type 0
StandsApart p f old new x olds news =
    (x < 2 ^ p.degree)
    × (rem (polynomial p) (value_from x (bits olds) ⊕ value_from 0 (bits news)) ≡ rem (polynomial p) (value_from f (bits old) ⊕ value_from 0 (bits new)))

-- c bytes of either more
pub stands_apart-next : (p : Modulus) → Proper p → (f : ℕ) (old new : List ℕ) (x : ℕ) (olds news : List ℕ) → length olds ≡ length news
    → StandsApart p f old new x olds news → (c v w y : ℕ) → c ≤ length olds → v ≡ value_from 0 (bits (take c olds)) → w ≡ value_from 0 (bits (take c news))
    → y ≡ rem (polynomial p) (x * 2 ^ (8 * c) + (v ⊕ w))
    → StandsApart p f old new y (take (length olds - c) (drop c olds)) (take (length news - c) (drop c news))
stands_apart-next p proper f old new x olds news same s c v w y l ev ew ey =
    rw (
      take_all (length olds - c) (drop c olds) (rw length-drop (le_refl (length olds - c))),
      take_all (length news - c) (drop c news) (rw length-drop (le_refl (length news - c))),
    ) (g.0, g.1 ∙ s.1)
  where
    g : Apart p x olds news 0 c y
    g = rw zero-add at (apart p proper x olds news same 0 0 x (s.0, refl) c v w y (omega arith) ev ew ey)

pub cut_same : (olds news : List ℕ) (c : ℕ) → length olds ≡ length news
    → length (take (length olds - c) (drop c olds)) ≡ length (take (length news - c) (drop c news))
cut_same olds news c same =
    omega (arith, length-take (length olds - c) (drop c olds), length-take (length news - c) (drop c news), length-drop c olds, length-drop c news, same)
