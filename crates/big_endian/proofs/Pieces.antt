-- Laws of some bytes of a part as one number, and of feeding a part by such pieces.
use mathlib.Core.Path.{◌≡◌, refl, sym, ap, ap₂, ◌∙◌}
use mathlib.Core.List.{List, [], ◌∷◌, ◌++◌}
use Prim.Native.Nat.{ℕ, ◌+◌, ◌*◌, ◌%◌, ◌^◌, ◌≤◌, ◌<◌}
use native.Mathlib.Nat.{mod-eq_of_lt}
use native.Mathlib.Omega.{arith}
use lib.ListN.{length, get_or, take, drop, take-append-drop, length-drop, drop_of_length-le}
use lib.Seq.{drop-cons, drop-drop, length-take-le, take-add}
use Rattle.std.specs.Int.{from_be_bytes, w32}
use Rattle.gf2.specs.Polynomials.{degree, rem}
use Rattle.gf2.specs.Moduli.{polynomial, Proper}
use Rattle.gf2.specs.declared.Modulus.{Modulus}
use Rattle.gf2.proofs.Residues.{rem-small}
use Rattle.gf2.proofs.Monics.{monic-pos, monic-degree}
use Rattle.gf2.proofs.Steps.{residue-below}
use Rattle.files.specs.Files.{bits, value_from}
use Rattle.files.proofs.Values.{value-append, value-split, value-lt, length-bits, bits-append, value-byte, rem-from}

-- ---- some bytes as one number

pub value-one : (p : List ℕ) (i : ℕ) → i < length p → get_or p i 0 < 256 → get_or p i 0 ≡ value_from 0 (bits (take 1 (drop i p)))
value-one p i l h =
    rw (drop-cons p i 0 l)
    (sym (value-byte 0 (get_or p i 0) [] ∙ ap (λ (x : ℕ). value_from (0 * 256 + x) (bits [])) (mod-eq_of_lt h) ∙ unfold value_from bits in (omega arith)))

-- c bytes from place i on
module _ (p : List ℕ) (i c : ℕ) (l : i + c ≤ length p) where
  length-piece : length (bits (take c (drop i p))) ≡ 8 * c
  length-piece = length-bits (take c (drop i p)) ∙ ap (λ (n : ℕ). 8 * n) (length-take-le c (drop i p) (rw length-drop (omega arith)))

  pub value-piece-lt : value_from 0 (bits (take c (drop i p))) < 2 ^ (8 * c)
  value-piece-lt = rw length-piece at (value-lt (bits (take c (drop i p))))

  -- behind x come c bytes, and then the others
  value-piece : (x : ℕ) → value_from x (bits (drop i p)) ≡ value_from (x * 2 ^ (8 * c) + value_from 0 (bits (take c (drop i p)))) (bits (drop (i + c) p))
  value-piece x =
      ap (λ (q : List ℕ). value_from x (bits q)) (sym (take-append-drop c (drop i p)))
      ∙ ap (value_from x) (bits-append (take c (drop i p)) (drop c (drop i p)))
      ∙ value-append x (bits (take c (drop i p))) (bits (drop c (drop i p)))
      ∙ ap₂ (λ (y : ℕ) (q : List ℕ). value_from y (bits q))
      (value-split x (bits (take c (drop i p))) ∙ ap (λ (n : ℕ). x * 2 ^ n + value_from 0 (bits (take c (drop i p)))) length-piece)
      (drop-drop c i p)

  -- and the residue may stand for them
  pub fed-piece : {key : ℕ} (pos : 0 < key) (x y : ℕ) → y ≡ rem key (x * 2 ^ (8 * c) + value_from 0 (bits (take c (drop i p))))
      → rem key (value_from y (bits (drop (i + c) p))) ≡ rem key (value_from x (bits (drop i p)))
  fed-piece {key} pos x y e =
      ap (λ (z : ℕ). rem key (value_from z (bits (drop (i + c) p)))) e
      ∙ rem-from pos (x * 2 ^ (8 * c) + value_from 0 (bits (take c (drop i p)))) (bits (drop (i + c) p))
      ∙ ap (rem key) (sym (value-piece x))

pub piece-lt : (p : List ℕ) (i c v : ℕ) → i + c ≤ length p → v ≡ value_from 0 (bits (take c (drop i p))) → v < 2 ^ (8 * c)
piece-lt p i c v l e = rw e (value-piece-lt p i c l)

-- c bytes as one number: a of them, and b behind them
pub value-join : (p : List ℕ) (i a b v w : ℕ) → i + a + b ≤ length p → v ≡ value_from 0 (bits (take a (drop i p)))
    → w ≡ value_from 0 (bits (take b (drop (i + a) p)))
    → v * 2 ^ (8 * b) + w ≡ value_from 0 (bits (take (a + b) (drop i p)))
value-join p i a b v w l ev ew =
    let front = take a (drop i p) in
    let back = take b (drop (i + a) p) in
    ap₂ (λ (x y : ℕ). x * 2 ^ (8 * b) + y) ev ew
    ∙ sym
    (ap (λ (q : List ℕ). value_from 0 (bits q)) (take-add a b (drop i p) ∙ ap (λ (q : List ℕ). front ++ take b q) (drop-drop a i p))
    ∙ ap (value_from 0) (bits-append front back)
    ∙ value-append 0 (bits front) (bits back)
    ∙ value-split (value_from 0 (bits front)) (bits back)
    ∙ ap (λ (n : ℕ). value_from 0 (bits front) * 2 ^ n + value_from 0 (bits back)) (length-piece p (i + a) b l))

-- four bytes, one behind the other
pub value-four : (p : List ℕ) (i : ℕ) → i + 4 ≤ length p → ((j : ℕ) → get_or p j 0 < 256)
    → from_be_bytes w32 (get_or p i 0 ∷ get_or p (i + 1) 0 ∷ get_or p (i + 2) 0 ∷ get_or p (i + 3) 0 ∷ []) ≡ value_from 0 (bits (take 4 (drop i p)))
value-four p i l f =
    let two = value-join p i 1 1 (get_or p i 0) (get_or p (i + 1) 0) (omega arith) (one i (omega arith)) (one (i + 1) (omega arith)) in
    let three = value-join p i 2 1 (get_or p i 0 * 256 + get_or p (i + 1) 0) (get_or p (i + 2) 0) (omega arith) two (one (i + 2) (omega arith)) in
    let four = value-join p i 3 1 ((get_or p i 0 * 256 + get_or p (i + 1) 0) * 256 + get_or p (i + 2) 0) (get_or p (i + 3) 0) (omega arith) three
    (one (i + 3) (omega arith)) in
    omega (arith, four)
  where
    one : (j : ℕ) → j < length p → get_or p j 0 ≡ value_from 0 (bits (take 1 (drop j p)))
    one j h = value-one p j h (f j)

pub join-lt : (p : List ℕ) (i a b v w : ℕ) → i + a + b ≤ length p → v ≡ value_from 0 (bits (take a (drop i p)))
    → w ≡ value_from 0 (bits (take b (drop (i + a) p)))
    → v * 2 ^ (8 * b) + w < 2 ^ (8 * (a + b))
join-lt p i a b v w l ev ew = piece-lt p i (a + b) (v * 2 ^ (8 * b) + w) (omega arith) (value-join p i a b v w l ev ew)

-- nothing is left
pub fed-all : {key : ℕ} (pos : 0 < key) (p : List ℕ) (i x : ℕ) → length p ≤ i → x < 2 ^ degree key → rem key (value_from x (bits (drop i p))) ≡ x
fed-all {key} pos p i x l h = rw (drop_of_length-le p {i = i} l) (unfold value_from bits in (rem-small pos x h))

-- ---- a loop over a part: x stands for f and the bytes from place `from` to place i

abbrev pub Going : Modulus → ℕ → List ℕ → ℕ → ℕ → ℕ → Type 0
Going p f part from i x =
    (x < 2 ^ p.degree) × (rem (polynomial p) (value_from x (bits (drop i part))) ≡ rem (polynomial p) (value_from f (bits (drop from part))))

-- before the first byte
pub going-first : (p : Modulus) (f : ℕ) (part : List ℕ) → f < 2 ^ p.degree → Going p f part 0 0 (f % 2 ^ p.degree)
going-first p f part l = rw (mod-eq_of_lt l) (l, refl)

module _ (p : Modulus) (proper : Proper p) (f : ℕ) (part : List ℕ) (from i x : ℕ) (g : Going p f part from i x) where
  pos : 0 < polynomial p
  pos = monic-pos p.degree p.low proper.2

  -- c bytes more
  pub going : (c v y : ℕ) → i + c ≤ length part → v ≡ value_from 0 (bits (take c (drop i part))) → y ≡ rem (polynomial p) (x * 2 ^ (8 * c) + v)
      → Going p f part from (i + c) y
  going c v y l ev ey = (
    residue-below p proper y (x * 2 ^ (8 * c) + v) ey,
    fed-piece part i c l pos x y (ey ∙ ap (λ (z : ℕ). rem (polynomial p) (x * 2 ^ (8 * c) + z)) ev) ∙ g.1,
  )

  pub going-one : (y : ℕ) → i < length part → get_or part i 0 < 256 → y ≡ rem (polynomial p) (x * 2 ^ 8 + get_or part i 0) → Going p f part from (i + 1) y
  going-one y l h ey = going 1 (get_or part i 0) y (omega arith) (value-one part i l h) ey

  pub going-four : (v y : ℕ) → i + 4 ≤ length part → v ≡ value_from 0 (bits (take 4 (drop i part))) → y ≡ rem (polynomial p) (x * 2 ^ 32 + v)
      → Going p f part from (i + 4) y
  going-four v y l ev ey = going 4 v y l ev ey

  pub going-all : length part ≤ i → x ≡ rem (polynomial p) (value_from f (bits (drop from part)))
  going-all l = sym (fed-all pos part i x l (rw (monic-degree p.degree p.low proper.2) g.0)) ∙ g.1
