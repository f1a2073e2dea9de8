-- Laws of folding, for every list of exponents and every word: one byte of the quotient more, that only the last words matter, a part in blocks.
use mathlib.Core.Path.{◌≡◌, refl, sym, ap, ap₂, ◌∙◌}
use mathlib.Core.List.{List, [], ◌∷◌, ◌++◌}
use Prim.Native.Nat.{ℕ, suc, ◌+◌, ◌-◌, ◌*◌, ◌^◌, ◌≤◌, ◌<◌}
use native.Mathlib.Nat.{le_refl, zero-add, mul_assoc, mul_comm, mul-le-mul_right, mul-lt-mul_of_pos_right}
use native.Mathlib.Omega.{arith}
use lib.ListN.{length, get_or, set, take, drop, take-append-drop, length-drop, length-set, drop_of_length-le}
use lib.Seq.{paste, drop-drop, length-take-le, take-add, take_all, take-take, take-set-le, get_or-set_same}
use Rattle.std.proofs.lemmas.List.Edits.{take-paste}
use Rattle.gf2.specs.Polynomials.{◌⊕◌, ◌⊗◌, rem}
use Rattle.gf2.proofs.Sums.{⊕_shl, ⊕-lt, ⊕_swap, xor}
use Rattle.gf2.proofs.Products.{⊗-zero}
use Rattle.files.specs.Files.{bits, value_from}
use Rattle.files.proofs.Values.{value-append, value-⊕, length-bits, bits-append, rem-from}
use Rattle.big_endian.proofs.Pieces.{value-one}
use Rattle.fold_blocks.specs.Folds.{form, front, folded, added}
use Rattle.fold_blocks.proofs.Forms.{spread, rem-spread}

-- ---- k bytes more, w bits

value-more : (x : ℕ) (l : List ℕ) (n k w : ℕ) → n + k ≤ length l → w ≡ 8 * k
    → value_from x (bits (take (n + k) l)) ≡ value_from x (bits (take n l)) * 2 ^ w ⊕ value_from 0 (bits (take k (drop n l)))
value-more x l n k w h e =
    ap (λ (q : List ℕ). value_from x (bits q)) (take-add n k l)
    ∙ ap (value_from x) (bits-append (take n l) (take k (drop n l)))
    ∙ value-append x (bits (take n l)) (bits (take k (drop n l)))
    ∙ value-⊕ (value_from x (bits (take n l))) (bits (take k (drop n l)))
    ∙ ap (λ (m : ℕ). value_from x (bits (take n l)) * 2 ^ m ⊕ value_from 0 (bits (take k (drop n l)))) size
  where
    size : length (bits (take k (drop n l))) ≡ w
    size = length-bits (take k (drop n l)) ∙ ap (λ (m : ℕ). 8 * m) (length-take-le k (drop n l) (rw length-drop (omega arith))) ∙ sym e

-- one byte more
value-byte-more : (x : ℕ) (l : List ℕ) (i : ℕ) → i < length l → get_or l i 0 < 256
    → value_from x (bits (take (i + 1) l)) ≡ value_from x (bits (take i l)) * 2 ^ 8 ⊕ get_or l i 0
value-byte-more x l i h b =
    value-more x l i 1 8 (omega arith) refl
    ∙ ap (λ (v : ℕ). value_from x (bits (take i l)) * 2 ^ 8 ⊕ v) (sym (value-one l i h b))

-- ---- the first bytes of a list

pub front-zero : (q : List ℕ) → front q 0 ≡ 0
unfolding front bits value_from
front-zero q = refl

front-more : (q : List ℕ) (n k w : ℕ) → n + k ≤ length q → w ≡ 8 * k → front q (n + k) ≡ front q n * 2 ^ w ⊕ front (drop n q) k
unfolding front
front-more = value-more 0

pub front-next : (q : List ℕ) (i : ℕ) → i < length q → get_or q i 0 < 256 → front q (i + 1) ≡ front q i * 2 ^ 8 ⊕ get_or q i 0
unfolding front
front-next = value-byte-more 0

pub front_same : (p q : List ℕ) (m k : ℕ) → k ≤ m → take m p ≡ take m q → front p k ≡ front q k
unfolding front
front_same p q m k h e =
    ap (λ (l : List ℕ). value_from 0 (bits l)) (sym (take-take k m p h) ∙ ap (take k) e ∙ take-take k m q h)

-- ---- the exponents

-- all of them lower than k
unfoldable pub Lower : ℕ → List ℕ → Type 0
Lower k [] = Unit {0}
Lower k (e ∷ es) = (e < k) × Lower k es

place-le : (e k s n m : ℕ) → e < suc k → n + k * s ≤ m → n + e * s ≤ m
place-le e k s n m l h = omega (arith, mul-le-mul_right {m = e} {n = k} s (omega arith))

place-lt : (e k s i : ℕ) → 0 < s → e < k → i + e * s < i + k * s
place-lt e k s i pos l = omega (arith, mul-lt-mul_of_pos_right l pos)

-- ---- only the last words matter

module _ (k s : ℕ) (q : List ℕ) (n : ℕ) (h : n + k * s ≤ length q) where
  apart : (es : List ℕ) → Lower (suc k) es → folded es s q n ≡ front q n ⊗ form es (8 * s) ⊕ folded es s (drop n q) 0
  unfolding folded Lower form
  apart [] a = rw ⊗-zero (simp xor)
  apart (e ∷ es) a =
      ap₂ (λ (x y : ℕ). x ⊕ y) (front-more q n (e * s) (e * (8 * s)) (place-le e k s n (length q) a.0 h) (scaled e)) (apart es a.1)
      ∙ ⊕_swap (front q n * 2 ^ (e * (8 * s))) (front (drop n q) (e * s)) (front q n ⊗ form es (8 * s)) (folded es s (drop n q) 0)
      ∙ ap₂ (λ (x j : ℕ). x ⊕ (front (drop n q) j ⊕ folded es s (drop n q) 0)) (sym (spread e es (8 * s) (front q n))) (sym (zero-add (e * s)))
    where
      scaled : (e : ℕ) → e * (8 * s) ≡ 8 * (e * s)
      scaled e = omega (arith, mul_assoc e 8 s, mul_assoc 8 e s, mul_comm e 8)

  pub folded-last : (es : List ℕ) → Lower (suc k) es → 0 < form es 1 → (m : ℕ) → 8 * s ≡ 2 ^ m
      → rem (form es 1) (folded es s q n) ≡ rem (form es 1) (folded es s (drop n q) 0)
  folded-last es a pos m w =
      ap (rem (form es 1)) (apart es a ∙ ap (λ (x : ℕ). front q n ⊗ form es x ⊕ folded es s (drop n q) 0) w)
      ∙ rem-spread es pos m (front q n) (folded es s (drop n q) 0)

pub folded-same : (k s : ℕ) (p q : List ℕ) → take (k * s) p ≡ take (k * s) q → (es : List ℕ) → Lower (suc k) es → folded es s p 0 ≡ folded es s q 0
unfolding folded Lower
folded-same k s p q t [] a = refl
folded-same k s p q t (e ∷ es) a =
    ap₂ (λ (x y : ℕ). x ⊕ y) (front_same p q (k * s) (0 + e * s) (place-le e k s 0 (k * s) a.0 (omega arith)) t) (folded-same k s p q t es a.1)

-- ---- one byte of the quotient more

shifted_sum : (a b c d : ℕ) → (a * 2 ^ 8 ⊕ c) ⊕ (b * 2 ^ 8 ⊕ d) ≡ (a ⊕ b) * 2 ^ 8 ⊕ (c ⊕ d)
shifted_sum a b c d = ⊕_swap (a * 2 ^ 8) c (b * 2 ^ 8) d ∙ ap (λ (x : ℕ). x ⊕ (c ⊕ d)) (sym (⊕_shl 8 a b))

abbrev pub Bytes : List ℕ → Type 0
Bytes q = (j : ℕ) → get_or q j 0 < 256

added-lt : (s : ℕ) (q : List ℕ) → Bytes q → (i : ℕ) (es : List ℕ) → added es s q i < 256
unfolding added
added-lt s q b i [] = omega arith
added-lt s q b i (e ∷ es) = ⊕-lt 8 (get_or q (i + e * s) 0) (added es s q i) (b (i + e * s)) (added-lt s q b i es)

module _ (k s : ℕ) (pos : 0 < s) (q : List ℕ) (b : Bytes q) (i x : ℕ) (h : i + k * s < length q) where
  before : (j : ℕ) → j ≤ i + k * s → front (set q (i + k * s) x) j ≡ front q j
  before j l = front_same (set q (i + k * s) x) q (i + k * s) j l (take-set-le (i + k * s) q (i + k * s) x (omega arith))

  near : (j : ℕ) → j < i + k * s → front (set q (i + k * s) x) (j + 1) ≡ front q j * 2 ^ 8 ⊕ get_or q j 0
  near j l = before (j + 1) (omega arith) ∙ front-next q j (omega arith) (b j)

  far : x < 256 → front (set q (i + k * s) x) (i + k * s + 1) ≡ front q (i + k * s) * 2 ^ 8 ⊕ x
  far l =
      front-next (set q (i + k * s) x) (i + k * s) (rw length-set h) (rw (get_or-set_same q (i + k * s) x 0 h) l)
      ∙ ap₂ (λ (u v : ℕ). u * 2 ^ 8 ⊕ v) (before (i + k * s) (omega arith)) (get_or-set_same q (i + k * s) x 0 h)

  place : (j : ℕ) → i + 1 + j ≡ i + j + 1
  place j = omega arith

  lower-next : (es : List ℕ) → Lower k es → folded es s (set q (i + k * s) x) (i + 1) ≡ folded es s q i * 2 ^ 8 ⊕ added es s q i
  unfolding folded added Lower
  lower-next [] l = simp xor
  lower-next (e ∷ es) l =
      ap₂ (λ (u v : ℕ). u ⊕ v) (ap (front (set q (i + k * s) x)) (place (e * s)) ∙ near (i + e * s) (place-lt e k s i pos l.0)) (lower-next es l.1)
      ∙ shifted_sum (front q (i + e * s)) (folded es s q i) (get_or q (i + e * s) 0) (added es s q i)

-- the byte is chosen so that the sum of all places is the source's
folded-next : (k s : ℕ) → 0 < s → (q : List ℕ) → Bytes q → (i c : ℕ) → c < 256 → i + k * s < length q → (es : List ℕ) → Lower k es
    → folded (k ∷ es) s (set q (i + k * s) (c ⊕ added es s q i)) (i + 1) ≡ folded (k ∷ es) s q i * 2 ^ 8 ⊕ c
unfolding folded
folded-next k s pos q b i c hc h es l =
    let x = c ⊕ added es s q i in
    ap₂ (λ (u v : ℕ). u ⊕ v)
    (ap (front (set q (i + k * s) x)) (place k s pos q b i x h (k * s)) ∙ far k s pos q b i x h (⊕-lt 8 c (added es s q i) hc (added-lt s q b i es)))
    (lower-next k s pos q b i x h es l)
    ∙ shifted_sum (front q (i + k * s)) (folded es s q i) x (added es s q i)
    ∙ ap (λ (y : ℕ). (front q (i + k * s) ⊕ folded es s q i) * 2 ^ 8 ⊕ y) (simp xor)

-- the loop over a part: after i bytes
pub folding : (k s : ℕ) → 0 < s → (q src : List ℕ) (i start : ℕ) → Bytes q → i + k * s < length q → i < length src → get_or src i 0 < 256
    → (es : List ℕ) → Lower k es
    → folded (k ∷ es) s q i ≡ value_from start (bits (take i src))
    → folded (k ∷ es) s (set q (i + k * s) (get_or src i 0 ⊕ added es s q i)) (i + 1) ≡ value_from start (bits (take (i + 1) src))
folding k s pos q src i start b h l byte es low inv =
    folded-next k s pos q b i (get_or src i 0) byte h es low
    ∙ ap (λ (v : ℕ). v * 2 ^ 8 ⊕ get_or src i 0) inv
    ∙ sym (value-byte-more start src i l byte)

-- ---- the last bytes come to the front

pub kept_last : (q : List ℕ) (n k : ℕ) → n + k ≤ length q → take k (paste q 0 (drop n q) (n + k - n)) ≡ take k (drop n q)
kept_last q n k h =
    ap (λ (j : ℕ). take k (paste q 0 (drop n q) j)) e
    ∙ ap (λ (j : ℕ). take j (paste q 0 (drop n q) k)) (sym (zero-add k))
    ∙ take-paste q 0 (drop n q) k (omega arith) (rw length-drop (omega arith))
  where
    e : n + k - n ≡ k
    e = omega arith

-- ---- a part in blocks

-- all from a place on
pub rest_all : (l : List ℕ) (i : ℕ) → take (length l - i) (drop i l) ≡ drop i l
rest_all l i = take_all (length l - i) (drop i l) (rw length-drop (le_refl (length l - i)))

pub nothing_left : (key x : ℕ) (p : List ℕ) (i : ℕ) → length p ≤ i → rem key (value_from x (bits (drop i p))) ≡ rem key x
nothing_left key x p i l = rw (drop_of_length-le p {i = i} l) (unfold value_from bits in refl)

module _ {key : ℕ} (pos : 0 < key) where
  -- of what came before only the residue matters
  pub same_start : (x y : ℕ) (a : List ℕ) → rem key y ≡ rem key x → rem key (value_from y a) ≡ rem key (value_from x a)
  same_start x y a e = sym (rem-from pos y a) ∙ ap (λ (z : ℕ). rem key (value_from z a)) e ∙ rem-from pos x a

  -- y stands for x and the bytes from place i to place b
  pub block-fed : (p : List ℕ) (i b x y : ℕ) → i ≤ b → rem key y ≡ rem key (value_from x (bits (take (b - i) (drop i p))))
      → rem key (value_from y (bits (drop b p))) ≡ rem key (value_from x (bits (drop i p)))
  block-fed p i b x y l e =
      same_start (value_from x (bits (take (b - i) (drop i p)))) y (bits (drop b p)) e
      ∙ ap (rem key)
      (ap (λ (r : List ℕ). value_from (value_from x (bits (take (b - i) (drop i p)))) (bits r)) (ap (λ (j : ℕ). drop j p) end ∙ sym (drop-drop (b - i) i p))
      ∙ sym (value-append x (bits (take (b - i) (drop i p))) (bits (drop (b - i) (drop i p))))
      ∙ ap (value_from x) (sym (bits-append (take (b - i) (drop i p)) (drop (b - i) (drop i p))))
      ∙ ap (λ (r : List ℕ). value_from x (bits r)) (take-append-drop (b - i) (drop i p)))
    where
      end : b ≡ i + (b - i)
      end = omega arith

  -- y stands for x and a block, with the rest behind it
  pub block_before : (p block rest : List ℕ) (x y : ℕ) → p ≡ block ++ rest → rem key y ≡ rem key (value_from x (bits block))
      → rem key (value_from y (bits rest)) ≡ rem key (value_from x (bits p))
  block_before p block rest x y e h =
      same_start (value_from x (bits block)) y (bits rest) h
      ∙ ap (rem key)
      (sym (value-append x (bits block) (bits rest)) ∙ ap (value_from x) (sym (bits-append block rest)) ∙ ap (λ (r : List ℕ). value_from x (bits r)) (sym e))

-- nothing is left
pub nothing_behind : (key x : ℕ) (p : List ℕ) → length p ≡ 0 → rem key (value_from x (bits p)) ≡ rem key x
unfolding value_from bits
nothing_behind key x [] e = refl
nothing_behind key x (b ∷ p) e = absurd (omega arith)
