-- Laws of parts: how long they are, their bits, and what number 19 leaves.
use mathlib.Core.Path.{◌≡◌, refl, sym, ap, ap₂, ◌∙◌}
use mathlib.Core.Bool.{Bool, true, false, cond, ◌&&◌, ◌||◌, not, false≢true, or-false, and-false}
use mathlib.Core.Logic.{◌⊎◌, inl, inr}
use mathlib.Core.List.{List, [], ◌∷◌, ◌++◌}
use Prim.Native.Nat.{ℕ, zero, suc, ◌+◌, ◌-◌, ◌*◌, ◌/◌, ◌%◌, ◌^◌, ◌≤◌, ◌<◌}
use native.Mathlib.Nat.{suc-add, add_comm, zero-mod}
use native.Mathlib.Decide.{dec_le, dec_lt, ℕ_discrete}
use native.Mathlib.Omega.{arith}
use lib.Dec.{leb, ltb, eqb}
use lib.ListN.{length, get_or, take, drop, take-append-drop, length-drop, drop_of_length-le}
use lib.Pow.{shr-shr}
use lib.Seq.{length-take-le, take-add, take_all, take-nil, drop-nil, take-take, take-append-le, take_at, drop_at, drop-cons, drop-drop, get_or-drop}
use borrow.Author.Tests.{ltb-false, eqb-true, not-false, le-leb, lt-leb, lt-ltb, le-ltb, eq-eqb, ne_eqb}
use Rattle.lists.proofs.Truth.{or-neither}
use Rattle.lists.proofs.Lists.{all_take, all_append}
use Rattle.files.specs.Files.{low_bits, bits, Bits, Part, as_part, whole, used_bits, part_length, part_bits, misused, bytes_for}
use Rattle.files.specs.Files.{BitsOfPart, BytesOfPart, BitsOfWhole}
use Rattle.files.specs.Ends.{whole_bytes, end_bits, counted_length}
use Rattle.files.proofs.Values.{length-bits, length-low}

-- ---- the bits of bytes cut

pub bits-drop : (n : ℕ) (a : List ℕ) → bits (drop n a) ≡ drop (8 * n) (bits a)
unfolding bits
bits-drop zero a = refl
bits-drop (suc n) [] = sym (drop_of_length-le [] {i = 8 * suc n} (omega arith))
bits-drop (suc n) (x ∷ a) =
    let e : 8 * suc n ≡ 8 + 8 * n = omega arith in
    bits-drop n a
    ∙ sym
    (rw e (sym (drop-drop (8 * n) 8 (low_bits 8 x ++ bits a)) ∙ ap (drop (8 * n)) (drop_at (low_bits 8 x) (bits a) 8 (length-low 8 x))))

pub bits-take : (n : ℕ) (a : List ℕ) → bits (take n a) ≡ take (8 * n) (bits a)
unfolding bits
bits-take zero a = refl
bits-take (suc n) [] = sym (take_all (8 * suc n) [] (omega arith))
bits-take (suc n) (x ∷ a) =
    let e : 8 * suc n ≡ 8 + 8 * n = omega arith in
    let low = length-low 8 x in
    ap (λ (l : List ℕ). low_bits 8 x ++ l) (bits-take n a)
    ∙ sym
    (rw e (take-add 8 (8 * n) (low_bits 8 x ++ bits a)
    ∙ ap₂ (λ (l m : List ℕ). l ++ take (8 * n) m) (take_at (low_bits 8 x) (bits a) 8 low) (drop_at (low_bits 8 x) (bits a) 8 low)))

-- ---- lengths

pub used-range : (u : ℕ) → (1 ≤ used_bits u) × (used_bits u ≤ 8)
unfolding used_bits
used-range u = go (dec_le 1 u) (dec_le u 8)
  where
    go : Dec (1 ≤ u) → Dec (u ≤ 8) → (1 ≤ cond (leb 1 u && leb u 8) u 8) × (cond (leb 1 u && leb u 8) u 8 ≤ 8)
    go (yes a) (yes b) = rw (le-leb 1 u a, le-leb u 8 b) (a, b)
    go (yes a) (no b) = rw (le-leb 1 u a, lt-leb u 8 (omega arith)) (omega arith, omega arith)
    go (no a) b = rw (lt-leb 1 u (omega arith)) (omega arith, omega arith)

pub used-outside : (u : ℕ) → (u < 1) ⊎ (8 < u) → used_bits u ≡ 8
unfolding used_bits
used-outside u (inl l) = rw (lt-leb 1 u l)
used-outside u (inr l) = rw (le-leb 1 u (omega arith), lt-leb u 8 l)

pub used-is : (u : ℕ) → 1 ≤ u → u ≤ 8 → used_bits u ≡ u
unfolding used_bits
used-is u lo hi = rw (le-leb 1 u lo, le-leb u 8 hi)

-- a part without bytes has no bits
pub none-long : (p : Part) → length p.bytes ≡ 0 → part_length p ≡ 0
unfolding part_length
none-long p e = ap (λ b. cond b 0 (8 * (length p.bytes - 1) + used_bits p.used)) (eq-eqb (length p.bytes) 0 e)

pub some-long : (p : Part) → 0 < length p.bytes → part_length p ≡ 8 * (length p.bytes - 1) + used_bits p.used
unfolding part_length
some-long p h = ap (λ b. cond b 0 (8 * (length p.bytes - 1) + used_bits p.used)) (ne_eqb (length p.bytes) 0 (λ e. omega arith))

-- as many bytes and as many used bits of the final one are as many bits
pub alike-long : (p q : Part) → length p.bytes ≡ length q.bytes → p.used ≡ q.used → part_length p ≡ part_length q
unfolding part_length
alike-long p q n u = ap₂ (λ (m v : ℕ). cond (eqb m 0) 0 (8 * (m - 1) + used_bits v)) n u

-- the bits are those of all bytes but the final one, and 1 to 8 more
pub part-range : (p : Part) → (part_length p ≤ 8 * length p.bytes) × (8 * length p.bytes ≤ part_length p + 7)
part-range p = go (dec_lt 0 (length p.bytes))
  where
    go : Dec (0 < length p.bytes) → (part_length p ≤ 8 * length p.bytes) × (8 * length p.bytes ≤ part_length p + 7)
    go (yes h) =
        let e = some-long p h in
        let r = used-range p.used in
        (omega (arith, e, r.0, r.1), omega (arith, e, r.0, r.1))
    go (no h) = let e = none-long p (omega arith) in (omega (arith, e), omega (arith, e))

-- as many bits as the length says
pub part-length : BitsOfPart
unfolding part_bits
part-length p = length-take-le (part_length p) (bits p.bytes) (rw (length-bits p.bytes) (part-range p).0)

-- and as many bytes
pub part_bytes : BytesOfPart
part_bytes p = omega (arith, (part-range p).0, (part-range p).1)

-- whole bytes
pub whole_long : (bytes : List ℕ) → part_length (whole bytes) ≡ 8 * length bytes
unfolding used_bits
whole_long bytes = go (dec_lt 0 (length bytes))
  where
    go : Dec (0 < length bytes) → part_length (whole bytes) ≡ 8 * length bytes
    go (yes h) = some-long (whole bytes) h ∙ omega arith
    go (no h) = none-long (whole bytes) (omega arith) ∙ omega arith

pub whole-bits : BitsOfWhole
unfolding part_bits
whole-bits bytes = take_all (part_length (whole bytes)) (bits bytes) (omega (arith, whole_long bytes, length-bits bytes))

-- to which number 19 does not apply
pub whole-used : (bytes : List ℕ) → misused (whole bytes) ≡ false
unfolding misused
whole-used bytes = rw (and-false (eqb (length bytes) 0), eq-eqb (get_or bytes (length bytes - 1) 0 % 1) 0 (omega arith))

-- ---- the length as the code counts it

pub counted_none : (p : Part) → length p.bytes ≡ 0 → 0 ≡ counted_length p
counted_none p e = omega (arith, none-long p e)

pub counted-many : (p : Part) → 2 ^ 33 < length p.bytes → 2 ^ 36 ≡ counted_length p
counted-many p h = omega (arith, (part-range p).1)

pub counted-some : (p : Part) → 0 < length p.bytes → length p.bytes ≤ 2 ^ 33 → 8 * (length p.bytes - 1) + used_bits p.used ≡ counted_length p
counted-some p h l = omega (arith, some-long p h, (used-range p.used).1)

-- ---- the part that is left behind n bytes

drop-take : (m n : ℕ) (l : List ℕ) → drop m (take n l) ≡ take (n - m) (drop m l)
drop-take zero n l = let e : n - 0 ≡ n = omega arith in sym (ap (λ (k : ℕ). take k l) e)
drop-take (suc m) zero l = let e : 0 - suc m ≡ 0 = omega arith in drop-nil (suc m) ∙ sym (ap (λ (k : ℕ). take k (drop (suc m) l)) e)
drop-take (suc m) (suc n) [] = sym (take-nil (suc n - suc m))
drop-take (suc m) (suc n) (x ∷ l) = let e : suc n - suc m ≡ n - m = omega arith in drop-take m n l ∙ sym (ap (λ (k : ℕ). take k (drop m l)) e)

pub rest-long : (bytes : List ℕ) (u n : ℕ) → n < length bytes → part_length (as_part (drop n bytes) u) ≡ part_length (as_part bytes u) - 8 * n
rest-long bytes u n h =
    let d = length-drop n bytes in
    some-long (as_part (drop n bytes) u) (omega (arith, d)) ∙ omega (arith, d, some-long (as_part bytes u) (omega arith))

pub rest-bits : (bytes : List ℕ) (u n : ℕ) → n < length bytes → part_bits (as_part (drop n bytes) u) ≡ drop (8 * n) (part_bits (as_part bytes u))
unfolding part_bits
rest-bits bytes u n h =
    ap₂ (λ (m : ℕ) (l : List ℕ). take m l) (rest-long bytes u n h) (bits-drop n bytes)
    ∙ sym (drop-take (8 * n) (part_length (as_part bytes u)) (bits bytes))

-- ---- every bit is a bit

low-bits : (n b : ℕ) → Bits (low_bits n b)
unfolding low_bits
low-bits zero b = tt
low-bits (suc n) b = (omega arith, low-bits n b)

pub bits_are : (bytes : List ℕ) → Bits (bits bytes)
unfolding bits
bits_are [] = tt
bits_are (b ∷ bytes) = all_append (λ x. x < 2) (low_bits 8 b) (bits bytes) (low-bits 8 b) (bits_are bytes)

pub part-bits_are : (p : Part) → Bits (part_bits p)
unfolding part_bits
part-bits_are p = all_take (λ x. x < 2) (part_length p) (bits p.bytes) (bits_are p.bytes)

-- ---- what number 19 leaves

-- the used bits are 1 to 8, and 8 of a part without bytes; the unused bits are zeros
pub record WellUsed (p : Part) : Type 0 where
  pub from : 1 ≤ p.used
  pub to : p.used ≤ 8
  pub none : length p.bytes ≡ 0 → p.used ≡ 8
  pub zeros : get_or p.bytes (length p.bytes - 1) 0 % 2 ^ (8 - p.used) ≡ 0

-- what each test of `misused` says
pub used-below : (p : Part) → p.used < 1 → misused p ≡ true
unfolding misused
used-below p l = rw (lt-ltb p.used 1 l)

pub used-above : (p : Part) → 1 ≤ p.used → 8 < p.used → misused p ≡ true
unfolding misused
used-above p f l = rw (le-ltb p.used 1 f, lt-ltb 8 p.used l)

pub used-none : (p : Part) → 1 ≤ p.used → p.used ≤ 8 → length p.bytes ≡ 0 → misused p ≡ not (eqb p.used 8)
unfolding misused
used-none p f t z = go p.bytes z
  where
    go : (bytes : List ℕ) → length bytes ≡ 0 → misused (as_part bytes p.used) ≡ not (eqb p.used 8)
    go [] e = rw (le-ltb p.used 1 f, le-ltb 8 p.used t, zero-mod) (or-false (not (eqb p.used 8)))
    go (b ∷ bytes) e = absurd (omega arith)

pub used-some : (p : Part) → 1 ≤ p.used → p.used ≤ 8 → 0 < length p.bytes
    → misused p ≡ not (eqb (get_or p.bytes (length p.bytes - 1) 0 % 2 ^ (8 - p.used)) 0)
unfolding misused
used-some p f t s = rw (le-ltb p.used 1 f, le-ltb 8 p.used t, ne_eqb (length p.bytes) 0 (λ e. omega arith))

pub well-used : (p : Part) → misused p ≡ false → WellUsed p
unfolding misused
well-used p e =
    let n = length p.bytes in
    let u = p.used in
    let d = eqb (get_or p.bytes (n - 1) 0 % 2 ^ (8 - u)) 0 in
    let a = or-neither (ltb u 1 || ltb 8 u || (eqb n 0 && not (eqb u 8))) (not d) e in
    let b = or-neither (ltb u 1 || ltb 8 u) (eqb n 0 && not (eqb u 8)) a.0 in
    let c = or-neither (ltb u 1) (ltb 8 u) b.0 in
    record {
      from = ltb-false u 1 c.0;
      to = ltb-false 8 u c.1;
      none = λ z. eqb-true u 8 (not-false (eqb u 8) (and_second (eqb n 0) (not (eqb u 8)) b.1 (eq-eqb n 0 z)));
      zeros = eqb-true _ 0 (not-false d a.1);
    }
  where
    and_second : (x y : Bool) → (x && y) ≡ false → x ≡ true → y ≡ false
    and_second true y h t = h
    and_second false y h t = absurd (false≢true t)

-- and conversely
pub well-clear : (p : Part) → WellUsed p → misused p ≡ false
well-clear p w = go (dec_lt 0 (length p.bytes))
  where
    go : Dec (0 < length p.bytes) → misused p ≡ false
    go (yes h) = used-some p w.from w.to h ∙ ap not (eq-eqb _ 0 w.zeros)
    go (no h) = let z : length p.bytes ≡ 0 = omega arith in used-none p w.from w.to z ∙ ap not (eq-eqb p.used 8 (w.none z))

-- two such parts of one length have as many bytes, and as many used bits
pub same-used : (p q : Part) → WellUsed p → WellUsed q → part_length p ≡ part_length q → (length p.bytes ≡ length q.bytes) × (p.used ≡ q.used)
same-used p q hp hq e = go (dec_lt 0 (length p.bytes))
  where
    bytes : length p.bytes ≡ length q.bytes
    bytes = sym (part_bytes p) ∙ ap bytes_for e ∙ part_bytes q

    go : Dec (0 < length p.bytes) → (length p.bytes ≡ length q.bytes) × (p.used ≡ q.used)
    go (yes h) =
        let a = some-long p h ∙ ap (λ (x : ℕ). 8 * (length p.bytes - 1) + x) (used-is p.used hp.from hp.to) in
        let b = some-long q (omega (arith, bytes)) ∙ ap (λ (x : ℕ). 8 * (length q.bytes - 1) + x) (used-is q.used hq.from hq.to) in
        (bytes, omega (arith, a, b, e, bytes))
    go (no h) = (bytes, hp.none (omega arith) ∙ sym (hq.none (omega (arith, bytes))))

-- ---- the whole bytes, and the used bits behind them

-- all bytes, or all but the final one
pub whole-all : (p : Part) → p.used ≡ 8 → whole_bytes p ≡ length p.bytes
whole-all p e = ap (λ b. cond b (length p.bytes) (length p.bytes - 1)) (eq-eqb p.used 8 e)

pub whole-front : (p : Part) → (p.used ≡ 8 → ⊥) → whole_bytes p ≡ length p.bytes - 1
whole-front p n = ap (λ b. cond b (length p.bytes) (length p.bytes - 1)) (ne_eqb p.used 8 n)

whole-within : (p : Part) → 8 * whole_bytes p ≤ part_length p
whole-within p = go (ℕ_discrete p.used 8) (dec_lt 0 (length p.bytes))
  where
    go : Dec (p.used ≡ 8) → Dec (0 < length p.bytes) → 8 * whole_bytes p ≤ part_length p
    go (yes e) (yes h) =
        let u = used-is p.used (omega (arith, e)) (omega (arith, e)) in
        omega (arith, whole-all p e, some-long p h, u, e)
    go (yes e) (no h) = omega (arith, whole-all p e)
    go (no n) (yes h) = omega (arith, whole-front p n, some-long p h)
    go (no n) (no h) = omega (arith, whole-front p n)

pub end-split : (p : Part) → part_bits p ≡ bits (take (whole_bytes p) p.bytes) ++ end_bits p
unfolding part_bits
end-split p =
    sym (take-append-drop (8 * whole_bytes p) (part_bits p))
    ∙ ap (λ (l : List ℕ). l ++ end_bits p)
    (take-take (8 * whole_bytes p) (part_length p) (bits p.bytes) (whole-within p) ∙ sym (bits-take (whole_bytes p) p.bytes))

pub end_none : (p : Part) → p.used ≡ 8 → end_bits p ≡ []
end_none p e =
    drop_of_length-le (part_bits p) {i = 8 * whole_bytes p} (omega (arith, part-length p, whole-all p e, (part-range p).0))

-- the high bits of a number
low-high : (u v b : ℕ) → take u (low_bits (u + v) b) ≡ low_bits u (b / 2 ^ v)
unfolding low_bits
low-high zero v b = refl
low-high (suc u) v b =
    ap (λ (n : ℕ). take (suc u) (low_bits n b)) (suc-add u v)
    ∙ ap₂ {C = List ℕ} (λ (x : ℕ) (l : List ℕ). x % 2 ∷ l) (ap (λ (n : ℕ). b / 2 ^ n) (add_comm u v) ∙ sym (shr-shr b v u)) (low-high u v b)

pub some_bytes : (p : Part) → WellUsed p → (p.used ≡ 8 → ⊥) → 0 < length p.bytes
some_bytes p w n = go (dec_lt 0 (length p.bytes))
  where
    go : Dec (0 < length p.bytes) → 0 < length p.bytes
    go (yes h) = h
    go (no h) = absurd (n (w.none (omega arith)))

pub end_low : (p : Part) → WellUsed p → (p.used ≡ 8 → ⊥)
    → end_bits p ≡ low_bits p.used (get_or p.bytes (length p.bytes - 1) 0 / 2 ^ (8 - p.used))
unfolding part_bits bits
end_low p w n =
    let u = p.used in
    let some = some_bytes p w n in
    let m = length p.bytes - 1 in
    let b = get_or p.bytes m 0 in
    let long : part_length p - 8 * m ≡ u = omega (arith, some-long p some, used-is u w.from w.to) in
    ap (λ (i : ℕ). drop (8 * i) (part_bits p)) (whole-front p n)
    ∙ drop-take (8 * m) (part_length p) (bits p.bytes)
    ∙ ap₂ (λ (k : ℕ) (l : List ℕ). take k l) long (sym (bits-drop m p.bytes) ∙ ap bits (drop-cons p.bytes m 0 (omega arith)))
    ∙ take-append-le u (low_bits 8 b) (bits (drop (suc m) p.bytes)) (rw (length-low 8 b) w.to)
    ∙ ap (λ (k : ℕ). take u (low_bits k b)) (all u w.to)
    ∙ low-high u (8 - u) b
  where
    all : (u : ℕ) → u ≤ 8 → 8 ≡ u + (8 - u)
    all u h = omega arith

-- at most the final byte is not whole
pub whole-range : (p : Part) → (whole_bytes p ≤ length p.bytes) × (length p.bytes ≤ whole_bytes p + 1)
whole-range p = go (eqb p.used 8)
  where
    go : (b : Bool) → let w = cond b (length p.bytes) (length p.bytes - 1) in (w ≤ length p.bytes) × (length p.bytes ≤ w + 1)
    go true = (omega arith, omega arith)
    go false = (omega arith, omega arith)

-- bytes among the whole ones: their bits are a piece of the part's
pub whole-piece : (p : Part) (at n : ℕ) → at + n ≤ whole_bytes p → take (8 * n) (drop (8 * at) (part_bits p)) ≡ bits (take n (drop at p.bytes))
unfolding part_bits
whole-piece p at n h =
    ap (take (8 * n)) (drop-take (8 * at) (part_length p) (bits p.bytes))
    ∙ take-take (8 * n) (part_length p - 8 * at) (drop (8 * at) (bits p.bytes)) (omega (arith, whole-within p))
    ∙ sym (bits-take n (drop at p.bytes) ∙ ap (take (8 * n)) (bits-drop at p.bytes))

-- ---- number 19 of the part that is left behind n bytes: the final byte is the same

pub rest-misused : (bytes : List ℕ) (u n : ℕ) → n < length bytes → misused (as_part (drop n bytes) u) ≡ misused (as_part bytes u)
unfolding misused
rest-misused bytes u n h =
    let long = length-drop n bytes in
    let last : n + (length (drop n bytes) - 1) ≡ length bytes - 1 = omega (arith, long) in
    ap₂ (λ (b : Bool) (x : ℕ). ltb u 1 || ltb 8 u || (b && not (eqb u 8)) || not (eqb (x % 2 ^ (8 - u)) 0))
    (ne_eqb (length (drop n bytes)) 0 (λ e. omega (arith, long, e)) ∙ sym (ne_eqb (length bytes) 0 (λ e. omega (arith, e))))
    (get_or-drop n bytes (length (drop n bytes) - 1) 0 ∙ ap (λ (i : ℕ). get_or bytes i 0) last)
