-- What the code computes: a part fed bit by bit and byte by byte, two files joined and a page changed. The power of t may be reduced first.
use mathlib.Core.Path.{◌≡◌, refl, sym, ap, ap₂, subst, ◌∙◌}
use mathlib.Core.Bool.{cond}
use mathlib.Core.List.{List, [], ◌++◌, append-nil}
use Prim.Native.Nat.{ℕ, zero, suc, ◌+◌, ◌-◌, ◌*◌, ◌/◌, ◌%◌, ◌^◌, ◌≤◌, ◌<◌}
use native.Mathlib.Nat.{zero-add, zero-mul, mod-mod, mod-eq_of_lt}
use native.Mathlib.Omega.{arith}
use lib.Dec.{eqb}
use lib.ListN.{length, get_or, take, drop, length-drop}
use lib.Pow.{shr_lt}
use Rattle.gf2.specs.Polynomials.{◌⊕◌, monic, rem, ◌⊗◌}
use Rattle.gf2.proofs.Sums.{⊕_self, ⊕-zero, ⊕_assoc, ⊕_swap, ⊕_shr, ⊕_shl, ⊕-append, ⊕-lt, xor}
use Rattle.gf2.proofs.Residues.{rem-⊕}
use Rattle.gf2.proofs.Powers.{rem-⊗-pow}
use Rattle.gf2.proofs.Monics.{monic-pos}
use Rattle.gf2.proofs.Steps.{residue-small}
use Rattle.files.specs.Files.{low_bits, bits, value_from, fingerprint, Part, as_part, part_bits, fingerprint_from}
use Rattle.files.specs.Ends.{whole_bytes, end_bits}
use Rattle.files.proofs.Values.{length-bits, value-append, value_low, rem-from, value-next, value-starts}
use Rattle.files.proofs.Parts.{alike-long, part-length, whole-bits, WellUsed, whole-front, end-split, end_none, end_low}

-- ---- what is left to feed

-- the n bits of a number below 2^n
pub low-behind : (n x b : ℕ) → b < 2 ^ n → value_from x (low_bits n b) ≡ x * 2 ^ n + b
unfolding value_from
low-behind n x b l = ap (value_from x) (sym (append-nil (low_bits n b))) ∙ value_low n x b [] ∙ ap (λ (y : ℕ). x * 2 ^ n + y) (mod-eq_of_lt l)

module _ {p : ℕ} (pos : 0 < p) where
  -- the next of the n low bits of b
  pub next_bit : (x b n : ℕ) → 0 < n
      → rem p (value_from (rem p (x * 2 + b / 2 ^ (n - 1) % 2)) (low_bits (n - 1) b)) ≡ rem p (value_from x (low_bits n b))
  unfolding value_from low_bits
  next_bit x b zero h = absurd (omega arith)
  next_bit x b (suc n) h =
      let e : suc n - 1 ≡ n = omega arith in
      rw e (rem-from pos (x * 2 + b / 2 ^ n % 2) (low_bits n b) ∙ ap (λ (y : ℕ). rem p (value_from (x * 2 + y) (low_bits n b))) (sym (mod-mod (b / 2 ^ n) 2)))

  -- the next byte of a part
  pub next-byte : (x i : ℕ) (part : List ℕ) → i < length part → get_or part i 0 < 256
      → rem p (value_from (rem p (x * 256 + get_or part i 0)) (bits (drop (i + 1) part))) ≡ rem p (value_from x (bits (drop i part)))
  next-byte x i part h l =
      rem-from pos (x * 256 + get_or part i 0) (bits (drop (i + 1) part)) ∙ ap (rem p) (sym (value-next x i part h l))

-- ---- two files joined, and a page changed

module _ (k c : ℕ) (h : c < 2 ^ k) where
  pub joined_is : (s f g n : ℕ) → g < 2 ^ k → rem (monic k c) (f * 2 ^ n ⊕ g ⊕ s * 2 ^ n) ≡ rem (monic k c) ((f ⊕ s) * 2 ^ n) ⊕ g
  joined_is s f g n l =
      ap (rem (monic k c)) (sym (rw (⊕_shl n f s) (simp xor)))
      ∙ rem-⊕ (monic-pos k c h) ((f ⊕ s) * 2 ^ n) g
      ∙ ap (λ (x : ℕ). rem (monic k c) ((f ⊕ s) * 2 ^ n) ⊕ x) (residue-small k c h g l)

  pub replaced-is : (f d n : ℕ) → f < 2 ^ k
      → rem (monic k c) (f ⊕ d * 2 ^ n) ≡ f ⊕ rem (monic k c) (d ⊗ rem (monic k c) (2 ^ n))
  replaced-is f d n l = rw (rem-⊕ (monic-pos k c h) f (d * 2 ^ n), residue-small k c h f l, rem-⊗-pow (monic-pos k c h) d n)

  pub turned-is : (f n : ℕ) → f < 2 ^ k → rem (monic k c) (f ⊕ 2 ^ n) ≡ f ⊕ rem (monic k c) (2 ^ n)
  turned-is f n l = rw (rem-⊕ (monic-pos k c h) f (2 ^ n), residue-small k c h f l)

-- ---- a part: its whole bytes, and the used bits behind them

-- all bytes are whole
pub whole-behind : (q f : ℕ) (bytes : List ℕ) (u : ℕ) → u ≡ 8 → rem q (value_from f (bits bytes)) ≡ rem q (value_from f (part_bits (as_part bytes u)))
whole-behind q f bytes u e =
    ap (λ (l : List ℕ). rem q (value_from f l)) (sym (ap (λ (v : ℕ). part_bits (as_part bytes v)) e ∙ whole-bits bytes))

pub part-behind : {k : ℕ} (pos : 0 < k) (f : ℕ) (part : Part) (w x : ℕ) → w ≡ whole_bytes part → x ≡ rem k (value_from f (bits (take w part.bytes)))
    → rem k (value_from x (end_bits part)) ≡ rem k (value_from f (part_bits part))
part-behind {k} pos f part w x ew ex =
    let front = bits (take (whole_bytes part) part.bytes) in
    ap (λ (y : ℕ). rem k (value_from y (end_bits part))) (ex ∙ ap (λ (n : ℕ). rem k (value_from f (bits (take n part.bytes)))) ew)
    ∙ rem-from pos (value_from f front) (end_bits part)
    ∙ ap (rem k) (sym (value-append f front (end_bits part)) ∙ ap (value_from f) (sym (end-split part)))

-- ---- two pages of one length, fed side by side

-- the leading 1 of each falls out
pub pages-begin : {p : ℕ} (pos : 0 < p) (x y : List ℕ) → length x ≡ length y
    → rem p (value_from 0 x ⊕ value_from 0 y) ≡ fingerprint p x ⊕ fingerprint p y
unfolding fingerprint_from
pages-begin {p} pos x y e =
    ap (rem p) (value-starts 0 0 1 1 x y e (⊕_self 0 ∙ sym (⊕_self 1))) ∙ rem-⊕ pos (value_from 1 x) (value_from 1 y)

-- the difference of n more bits, which the numbers c and d have
pub pages-end : {p : ℕ} (pos : 0 < p) (x y : List ℕ) (n c d : ℕ) → c < 2 ^ n → d < 2 ^ n
    → rem p (value_from (rem p (value_from 0 x ⊕ value_from 0 y)) (low_bits n (c ⊕ d))) ≡ rem p
    (value_from 0 (x ++ low_bits n c) ⊕ value_from 0 (y ++ low_bits n d))
pages-end {p} pos x y n c d hc hd =
    rem-from pos (s ⊕ t) (low_bits n (c ⊕ d))
    ∙ ap (rem p) (low-behind n (s ⊕ t) (c ⊕ d) (⊕-lt n c d hc hd) ∙ sums ∙ ap₂ (λ (v w : ℕ). v ⊕ w) (behind x c hc) (behind y d hd))
  where
    s : ℕ
    s = value_from 0 x

    t : ℕ
    t = value_from 0 y

    behind : (z : List ℕ) (e : ℕ) → e < 2 ^ n → value_from 0 z * 2 ^ n ⊕ e ≡ value_from 0 (z ++ low_bits n e)
    behind z e h = ⊕-append (value_from 0 z) n e h ∙ sym (low-behind n (value_from 0 z) e h) ∙ sym (value-append 0 z (low_bits n e))

    sums : (s ⊕ t) * 2 ^ n + (c ⊕ d) ≡ (s * 2 ^ n ⊕ c) ⊕ (t * 2 ^ n ⊕ d)
    sums =
        sym (⊕-append (s ⊕ t) n (c ⊕ d) (⊕-lt n c d hc hd))
        ∙ ap (λ (v : ℕ). v ⊕ (c ⊕ d)) (⊕_shl n s t)
        ∙ ⊕_swap (s * 2 ^ n) (t * 2 ^ n) c d

-- two parts with one number of bytes and of used bits
module _ {p : ℕ} (pos : 0 < p) (old new : List ℕ) (u : ℕ) (e : length old ≡ length new) where
  front : ℕ
  front = whole_bytes (as_part old u)

  other-front : whole_bytes (as_part new u) ≡ front
  unfolding front
  other-front = ap (λ (n : ℕ). cond (eqb u 8) n (n - 1)) (sym e)

  same-long : length (part_bits (as_part old u)) ≡ length (part_bits (as_part new u))
  same-long = part-length (as_part old u) ∙ alike-long (as_part old u) (as_part new u) e refl ∙ sym (part-length (as_part new u))

  begin : {x y : List ℕ} → part_bits (as_part old u) ≡ x → part_bits (as_part new u) ≡ y
      → rem p (value_from 0 x ⊕ value_from 0 y) ≡ fingerprint p (part_bits (as_part old u)) ⊕ fingerprint p (part_bits (as_part new u))
  begin a b =
      ap₂ (λ (v w : List ℕ). rem p (value_from 0 v ⊕ value_from 0 w)) (sym a) (sym b)
      ∙ pages-begin pos (part_bits (as_part old u)) (part_bits (as_part new u)) same-long

  -- all bytes are whole
  pub pages-whole : u ≡ 8
      → rem p (value_from 0 (bits (take (whole_bytes (as_part old u)) old)) ⊕ value_from 0 (bits (take (whole_bytes (as_part old u)) new)))
      ≡ fingerprint p (part_bits (as_part old u)) ⊕ fingerprint p (part_bits (as_part new u))
  unfolding front
  pages-whole h = begin (whole old) (whole new ∙ ap (λ (n : ℕ). bits (take n new)) other-front)
    where
      whole : (l : List ℕ) → part_bits (as_part l u) ≡ bits (take (whole_bytes (as_part l u)) l)
      whole l =
          end-split (as_part l u)
          ∙ ap (λ (r : List ℕ). bits (take (whole_bytes (as_part l u)) l) ++ r) (end_none (as_part l u) h)
          ∙ append-nil (bits (take (whole_bytes (as_part l u)) l))

  -- the final byte is not
  pub pages-rest : WellUsed (as_part old u) → WellUsed (as_part new u) → (u ≡ 8 → ⊥)
      → get_or old (whole_bytes (as_part old u)) 0 < 256 → get_or new (whole_bytes (as_part old u)) 0 < 256
      → rem p (value_from (rem p (value_from 0 (bits (take (whole_bytes (as_part old u)) old)) ⊕ value_from 0 (bits (take (whole_bytes (as_part old u)) new))))
      (low_bits u ((get_or old (whole_bytes (as_part old u)) 0 ⊕ get_or new (whole_bytes (as_part old u)) 0) / 2 ^ (8 - u))))
      ≡ fingerprint p (part_bits (as_part old u)) ⊕ fingerprint p (part_bits (as_part new u))
  unfolding front
  pages-rest wo wn ne a b =
      ap (λ (n : ℕ). rem p (value_from (rem p (value_from 0 (bits (take front old)) ⊕ value_from 0 (bits (take front new)))) (low_bits u n)))
      (⊕_shr (8 - u) (get_or old front 0) (get_or new front 0))
      ∙ pages-end pos (bits (take front old)) (bits (take front new)) u (high old) (high new) (small a) (small b)
      ∙ begin (split old wo refl) (split new wn other-front)
    where
      high : List ℕ → ℕ
      high l = get_or l front 0 / 2 ^ (8 - u)

      small : {x : ℕ} → x < 256 → x / 2 ^ (8 - u) < 2 ^ u
      small {x} h = shr_lt {n = x} u (8 - u) (subst (λ (n : ℕ). x < 2 ^ n) (all u wo.to) h)
        where
          all : (v : ℕ) → v ≤ 8 → 8 ≡ v + (8 - v)
          all v l = omega arith

      split : (l : List ℕ) → WellUsed (as_part l u) → whole_bytes (as_part l u) ≡ front → part_bits (as_part l u) ≡ bits (take front l) ++ low_bits u (high l)
      split l w f =
          end-split (as_part l u)
          ∙ ap₂ (λ (n : ℕ) (r : List ℕ). bits (take n l) ++ r) f
          (end_low (as_part l u) w ne ∙ ap (λ (n : ℕ). low_bits u (get_or l n 0 / 2 ^ (8 - u))) (sym (whole-front (as_part l u) ne) ∙ f))

module _ {p : ℕ} (pos : 0 < p) (old new : List ℕ) (e : length old ≡ length new) where
  same_bits : (i : ℕ) → length (bits (drop i old)) ≡ length (bits (drop i new))
  same_bits i = omega (arith, length-bits (drop i old), length-bits (drop i new), length-drop i old, length-drop i new, e)

  -- the difference of the next two bytes
  pub pages-next : (x i : ℕ) → i < length old → get_or old i 0 < 256 → get_or new i 0 < 256
      → rem p (value_from (rem p (x * 256 + (get_or old i 0 ⊕ get_or new i 0))) (bits (drop (i + 1) old)) ⊕ value_from 0 (bits (drop (i + 1) new)))
      ≡ rem p (value_from x (bits (drop i old)) ⊕ value_from 0 (bits (drop i new)))
  pages-next x i l a b =
      rem-⊕ pos (value_from (rem p y) xs) (value_from 0 ys)
      ∙ ap (λ (z : ℕ). z ⊕ rem p (value_from 0 ys)) (rem-from pos y xs)
      ∙ sym (rem-⊕ pos (value_from y xs) (value_from 0 ys))
      ∙ ap (rem p)
      (value-starts y 0 (x * 256 + c) (0 * 256 + d) xs ys (same_bits (i + 1)) starts
      ∙ ap₂ (λ (v w : ℕ). v ⊕ w) (sym (value-next x i old l a)) (sym (value-next 0 i new (omega (arith, e)) b)))
    where
      c : ℕ
      c = get_or old i 0

      d : ℕ
      d = get_or new i 0

      y : ℕ
      y = x * 256 + (c ⊕ d)

      xs : List ℕ
      xs = bits (drop (i + 1) old)

      ys : List ℕ
      ys = bits (drop (i + 1) new)

      starts : y ⊕ 0 ≡ (x * 256 + c) ⊕ (0 * 256 + d)
      starts =
          ⊕-zero y
          ∙ sym (⊕-append x 8 (c ⊕ d) (⊕-lt 8 c d a b))
          ∙ sym (⊕_assoc (x * 256) c d)
          ∙ ap₂ (λ (v w : ℕ). v ⊕ w) (⊕-append x 8 c a) (sym (rw (zero-mul 256) (zero-add d)))
