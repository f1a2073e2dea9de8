-- Laws of page marks joined and of the bits of their fields: one field a turn, and in lanes.
use mathlib.Core.Path.{◌≡◌, refl, sym, ap, ap₂, ◌∙◌}
use mathlib.Core.Bool.{Bool, true, false, cond, ◌||◌, or_assoc, or-false}
use mathlib.Core.List.{List, [], ◌∷◌, ◌++◌}
use Prim.Native.Nat.{ℕ, suc, ◌+◌, ◌-◌, ◌*◌, ◌%◌, ◌^◌, ◌≤◌, ◌<◌, min}
use native.Mathlib.Nat.{lt_of_lt_of_le, zero-add, add_comm, mul_assoc, mul-zero, mul-one, mul-suc, suc-mul, zero-mul, sub-zero, mul-le-mul_right}
use native.Mathlib.Nat.{mod-lt, mod-eq_of_lt, one-mul}
use native.Mathlib.Omega.{arith}
use lib.Bits.{bit_or}
use lib.Dec.{leb}
use lib.ListN.{length, get_or}
use lib.Pow.{pow_pos, pow_mono, pow-lt, pow-add}
use borrow.Author.Tests.{lt-leb, leb-false}
use Rattle.gf2.specs.Polynomials.{◌⊕◌, ◌⊗◌, rem, degree}
use Rattle.gf2.specs.Moduli.{polynomial, Proper}
use Rattle.gf2.specs.declared.Modulus.{Modulus}
use Rattle.gf2.proofs.Sums.{zero-⊕, ⊕-zero, ⊕_assoc, ⊕_shl}
use Rattle.gf2.proofs.Residues.{rem_lt, rem-small, rem-⊕}
use Rattle.gf2.proofs.Powers.{rem_shl, rem-⊗-pow}
use Rattle.gf2.proofs.Monics.{monic-pos, monic-degree, of_degree-one}
use Rattle.gf2.proofs.Steps.{or_leb}
use Rattle.lists.proofs.Truth.{or-neither, or-left_comm}
use Rattle.files.specs.declared.Mark.{Mark}
use Rattle.files.specs.Files.{mark_of, joined, joined_from}
use Rattle.files.proofs.Marks.{empty-mark}
use Rattle.lookups.specs.Groups.{looked}
use Rattle.shifts.specs.Shifts.{Shifts}
use Rattle.shifts.proofs.Products.{joined_by_table}
use Rattle.big_endian.specs.Numbers.{number_at, numbers_at}
use Rattle.sheets.specs.Layout.{Layout}
use Rattle.sheets.specs.Sheets.{some_unreduced, page_length, joined_pages}
use Rattle.big_endian.proofs.Numbers.{numbers-next, numbers-done, numbers-append, length-numbers_at}
use Rattle.sheet_joining.specs.declared.Joined.{Joined}
use Rattle.sheet_joining.specs.declared.Lanes.{Lanes}
use Rattle.sheet_joining.specs.Joining.{chained, looping, BitsOf, LanesJoined, RunJoined, LastJoined, PagesJoined}

-- ---- as the code goes: one field a turn

pub looping-next : (words : List ℕ) (x place n g y : ℕ) (l : List ℕ) → 0 < n → g ≡ number_at place 8 l → y ≡ looked 8 words 8 0 x ⊕ g ⊕ get_or words 1 0
    → looping words x (numbers_at place 8 n l) ≡ looping words y (numbers_at (place + 8) 8 (n - 1) l)
unfolding looping
looping-next words x place n g y l h eg ey = rw (numbers-next place 8 n l h, ey, eg)

pub looping-done : (words : List ℕ) (x place n : ℕ) (l : List ℕ) → n ≡ 0 → looping words x (numbers_at place 8 n l) ≡ x
unfolding looping
looping-done words x place n l e = rw (numbers-done place 8 n l e)

-- ---- reduced fields

pub reduced-first : (k f : ℕ) (fs : List ℕ) → some_unreduced k (f ∷ fs) ≡ false → (f < 2 ^ k) × (some_unreduced k fs ≡ false)
unfolding some_unreduced
reduced-first k f fs e = let o = or-neither (leb (2 ^ k) f) (some_unreduced k fs) e in (leb-false (2 ^ k) f o.0, o.1)

unreduced-first : (k f : ℕ) (fs : List ℕ) → some_unreduced k (f ∷ fs) ≡ (leb (2 ^ k) f || some_unreduced k fs)
unfolding some_unreduced
unreduced-first k f fs = refl

unreduced-append : (k : ℕ) (fs gs : List ℕ) → some_unreduced k (fs ++ gs) ≡ (some_unreduced k fs || some_unreduced k gs)
unfolding some_unreduced
unreduced-append k [] gs = refl
unreduced-append k (f ∷ fs) gs =
    ap (λ (b : Bool). leb (2 ^ k) f || b) (unreduced-append k fs gs) ∙ sym (or_assoc (leb (2 ^ k) f) (some_unreduced k fs) (some_unreduced k gs))

pub reduced-split : (k : ℕ) (fs gs : List ℕ) → some_unreduced k (fs ++ gs) ≡ false → (some_unreduced k fs ≡ false) × (some_unreduced k gs ≡ false)
reduced-split k fs gs e = or-neither (some_unreduced k fs) (some_unreduced k gs) (sym (unreduced-append k fs gs) ∙ e)

-- n fields from each of four places on
abbrev pub four_lanes : ℕ → ℕ → ℕ → List ℕ → List ℕ
four_lanes place lane n l =
    numbers_at place 8 n l ++ numbers_at (place + lane) 8 n l ++ numbers_at (place + lane + lane) 8 n l ++ numbers_at (place + lane + lane + lane) 8 n l

four_lanes_lem : (place q : ℕ) (l : List ℕ) → numbers_at place 8 (4 * q) l ≡ four_lanes place (8 * q) q l
four_lanes_lem place q l =
    let e : 4 * q ≡ q + q + q + q = omega arith in
    let c : place + 8 * (q + q) ≡ place + 8 * q + 8 * q = omega arith in
    let d : place + 8 * (q + q + q) ≡ place + 8 * q + 8 * q + 8 * q = omega arith in
    rw (e, numbers-append place 8 (q + q + q) q l, numbers-append place 8 (q + q) q l, numbers-append place 8 q q l, c, d)

-- all n fields: four lanes of q and the rest
rest-behind : (place n q from : ℕ) (l : List ℕ) → 4 * q ≤ n → from ≡ place + 32 * q
    → numbers_at place 8 n l ≡ numbers_at place 8 (4 * q) l ++ numbers_at from 8 (n - 4 * q) l
rest-behind place n q from l h d =
    let e : 4 * q + (n - 4 * q) ≡ n = omega arith in
    let p : place + 8 * (4 * q) ≡ from = omega arith in
    ap (λ (m : ℕ). numbers_at place 8 m l) (sym e) ∙ rw p at (numbers-append place 8 (4 * q) (n - 4 * q) l)

-- ---- the bits of all fields: those that are gathered stand for their fields

pub bits-next : (k bits place n g : ℕ) (l : List ℕ) → 0 < n → g ≡ number_at place 8 l
    → some_unreduced k (bit_or bits g ∷ numbers_at (place + 8) 8 (n - 1) l) ≡ some_unreduced k (bits ∷ numbers_at place 8 n l)
unfolding some_unreduced
bits-next k bits place n g l h e = rw (numbers-next place 8 n l h, ← e, or_leb k bits g) (or_assoc (leb (2 ^ k) bits) (leb (2 ^ k) g) _)

pub bits-done : (k bits : ℕ) (fs : List ℕ) → fs ≡ [] → leb (2 ^ k) bits ≡ some_unreduced k (bits ∷ fs)
unfolding some_unreduced
bits-done k bits fs e = rw e (sym (or-false (leb (2 ^ k) bits)))

-- none is gathered yet
pub bits_none : (k : ℕ) (fs : List ℕ) → some_unreduced k (0 ∷ fs) ≡ some_unreduced k fs
unfolding some_unreduced
bits_none k fs = rw (lt-leb (2 ^ k) 0 (pow_pos k))

-- the bits and four lanes, each by itself
bits-apart : (k bits : ℕ) (s t u v : List ℕ)
    → some_unreduced k (bits ∷ (s ++ t ++ u ++ v)) ≡ (leb (2 ^ k) bits ||
    (some_unreduced k s || (some_unreduced k t || (some_unreduced k u || some_unreduced k v))))
bits-apart k bits s t u v = simp (unreduced-first, unreduced-append, or_assoc)

-- four fields a turn
pub bits-four : (k bits place lane n e f g h : ℕ) (l : List ℕ) → 0 < n → e ≡ number_at place 8 l → f ≡ number_at (place + lane) 8 l
    → g ≡ number_at (place + lane + lane) 8 l → h ≡ number_at (place + lane + lane + lane) 8 l
    → some_unreduced k (bit_or bits (bit_or (bit_or (bit_or e f) g) h) ∷ four_lanes (place + 8) lane (n - 1) l) ≡ some_unreduced k
    (bits ∷ four_lanes place lane n l)
bits-four k bits place lane n e f g h l p ee ef eg eh =
    let b : place + 8 + lane ≡ place + lane + 8 = omega arith in
    let c : place + 8 + lane + lane ≡ place + lane + lane + 8 = omega arith in
    let d : place + 8 + lane + lane + lane ≡ place + lane + lane + lane + 8 = omega arith in
    rw (bits-apart k (bit_or bits (bit_or (bit_or (bit_or e f) g) h)), bits-apart k bits, d, c, b)
    (rw (numbers-next place 8 n l p, numbers-next (place + lane) 8 n l p, numbers-next (place + lane + lane) 8 n l p)
    (rw (numbers-next (place + lane + lane + lane) 8 n l p, ← ee, ← ef, ← eg, ← eh) (simp (unreduced-first, or_leb, or_assoc, or-left_comm))))

pub bits-four-done : (k bits start place lane n q : ℕ) (l : List ℕ) → n ≡ 0
    → some_unreduced k (bits ∷ four_lanes place lane n l) ≡ some_unreduced k (0 ∷ four_lanes start (8 * q) q l)
    → leb (2 ^ k) bits ≡ some_unreduced k (numbers_at start 8 (4 * q) l)
bits-four-done k bits start place lane n q l e h =
    bits-done k bits (four_lanes place lane n l) (simp (numbers-done, e))
    ∙ h
    ∙ bits_none k (four_lanes start (8 * q) q l)
    ∙ ap (some_unreduced k) (sym (four_lanes_lem start q l))

-- four lanes and the rest: all fields
pub bits-all : (words l : List ℕ) (place n q from : ℕ) (x : Lanes) (y : ℕ) → 4 * q ≤ n → from ≡ place + 32 * q → LanesJoined words place q l x
    → BitsOf (x.bits ∷ numbers_at from 8 (n - 4 * q) l) y → BitsOf (numbers_at place 8 n l) y
unfolding some_unreduced
bits-all words l place n q from x y h d four b k =
    b k
    ∙ ap (λ (z : Bool). z || some_unreduced k (numbers_at from 8 (n - 4 * q) l)) (four.bits k)
    ∙ sym (ap (some_unreduced k) (rest-behind place n q from l h d) ∙ unreduced-append k (numbers_at place 8 (4 * q) l) (numbers_at from 8 (n - 4 * q) l))

-- one field more at the end
pub bits-last : (fs : List ℕ) (bits f : ℕ) → BitsOf fs bits → BitsOf (fs ++ f ∷ []) (bit_or bits f)
unfolding some_unreduced
bits-last fs bits f b k = rw (unreduced-append k fs (f ∷ []), or_leb k bits f, b k, or-false (leb (2 ^ k) f))

-- ---- the chain

module _ {key : ℕ} (pos : 0 < key) (e : ℕ) where
  pub chained_append : (f : ℕ) (u v : List ℕ) → chained key e f (u ++ v) ≡ chained key e (chained key e f u) v
  unfolding chained
  chained_append f [] v = refl
  chained_append f (g ∷ u) v = chained_append (rem key (f * 2 ^ e ⊕ g ⊕ 2 ^ e)) u v

  pub chained-lt : (f : ℕ) (gs : List ℕ) → f < 2 ^ degree key → chained key e f gs < 2 ^ degree key
  unfolding chained
  chained-lt f [] h = h
  chained-lt f (g ∷ gs) h = chained-lt (rem key (f * 2 ^ e ⊕ g ⊕ 2 ^ e)) gs (rem_lt pos (f * 2 ^ e ⊕ g ⊕ 2 ^ e))

  shifted_sum : (a b w : ℕ) → rem key ((a ⊕ b) * 2 ^ w) ≡ rem key (a * 2 ^ w) ⊕ rem key (b * 2 ^ w)
  shifted_sum a b w = ap (rem key) (⊕_shl w a b) ∙ rem-⊕ pos (a * 2 ^ w) (b * 2 ^ w)

  -- what stands in front of a run is shifted by it
  pub chained-start : (f : ℕ) (gs : List ℕ) → f < 2 ^ degree key → chained key e f gs ≡ rem key (f * 2 ^ (e * length gs)) ⊕ chained key e 0 gs
  unfolding chained
  chained-start f [] h = sym (⊕-zero (rem key (f * 2 ^ (e * 0))) ∙ rw (mul-zero e, mul-one) (rem-small pos f h))
  chained-start f (g ∷ gs) h =
      let n = length gs in
      let c = g ⊕ 2 ^ e in
      let none : 0 * 2 ^ e ⊕ g ⊕ 2 ^ e ≡ c = rw (zero-mul, zero-⊕) in
      let up : f * 2 ^ e * 2 ^ (e * n) ≡ f * 2 ^ (e * suc n) = rw (mul-suc e n, add_comm (e * n) e, pow-add 2 e (e * n)) (mul_assoc f (2 ^ e) (2 ^ (e * n))) in
      chained-start (rem key (f * 2 ^ e ⊕ g ⊕ 2 ^ e)) gs (rem_lt pos (f * 2 ^ e ⊕ g ⊕ 2 ^ e))
      ∙ ap (λ (x : ℕ). x ⊕ chained key e 0 gs)
      (rem_shl pos (f * 2 ^ e ⊕ g ⊕ 2 ^ e) (e * n)
      ∙ ap (λ (x : ℕ). rem key (x * 2 ^ (e * n))) (⊕_assoc (f * 2 ^ e) g (2 ^ e))
      ∙ shifted_sum (f * 2 ^ e) c (e * n)
      ∙ ap (λ (x : ℕ). rem key x ⊕ rem key (c * 2 ^ (e * n))) up)
      ∙ ⊕_assoc (rem key (f * 2 ^ (e * suc n))) (rem key (c * 2 ^ (e * n))) (chained key e 0 gs)
      ∙ ap (λ (x : ℕ). rem key (f * 2 ^ (e * suc n)) ⊕ x)
      (sym
      (chained-start (rem key (0 * 2 ^ e ⊕ g ⊕ 2 ^ e)) gs (rem_lt pos (0 * 2 ^ e ⊕ g ⊕ 2 ^ e))
      ∙ ap (λ (x : ℕ). x ⊕ chained key e 0 gs) (rem_shl pos (0 * 2 ^ e ⊕ g ⊕ 2 ^ e) (e * n) ∙ ap (λ (x : ℕ). rem key (x * 2 ^ (e * n))) none)))

  -- by the table
  pub looping-chained : (words : List ℕ) → Shifts key e words → degree key ≤ 64 → (f : ℕ) (gs : List ℕ) → f < 2 ^ degree key
      → some_unreduced (degree key) gs ≡ false
      → looping words f gs ≡ chained key e f gs
  unfolding looping chained
  looping-chained words s d f [] h r = refl
  looping-chained words s d f (g ∷ gs) h r =
      let o = reduced-first (degree key) g gs r in
      let step = joined_by_table pos e words s f g (lt_of_lt_of_le h (pow_mono {i = degree key} {j = 64} d)) o.0 in
      ap (λ (x : ℕ). looping words x gs) step ∙ looping-chained words s d (rem key (f * 2 ^ e ⊕ g ⊕ 2 ^ e)) gs (rem_lt pos (f * 2 ^ e ⊕ g ⊕ 2 ^ e)) o.1

-- ---- lanes

-- a lane of q fields, each for itself behind 0, joined behind what has the residue x
module _ (p : Modulus) (md : Proper p) (e : ℕ) where
  chain_lt : (x : ℕ) (u : List ℕ) → x ≡ chained (polynomial p) e 1 u → x < 2 ^ p.degree
  chain_lt x u ex =
      let deg = monic-degree p.degree p.low md.2 in
      rw ex (rw deg at (chained-lt (monic-pos p.degree p.low md.2) e 1 u (rw deg (pow-lt {i = 0} {j = p.degree} md.0))))

  pub lane-behind : (q : ℕ) (u v : List ℕ) (x y t r : ℕ) → length v ≡ q → x ≡ chained (polynomial p) e 1 u → y ≡ chained (polynomial p) e 0 v
      → t ≡ rem (polynomial p) (2 ^ (e * q))
      → r ≡ rem (polynomial p) (x % 2 ^ p.degree ⊗ t) ⊕ y → r ≡ chained (polynomial p) e 1 (u ++ v)
  lane-behind q u v x y t r l ex ey et er =
      let pos = monic-pos p.degree p.low md.2 in
      let small : chained (polynomial p) e 1 u < 2 ^ degree (polynomial p) = rw (monic-degree p.degree p.low md.2, ← ex) (chain_lt x u ex) in
      er
      ∙ ap₂ (λ (a b : ℕ). a ⊕ b) (ap₂ (λ (a b : ℕ). rem (polynomial p) (a ⊗ b)) (mod-eq_of_lt (chain_lt x u ex) ∙ ex) et ∙ rem-⊗-pow pos
      (chained (polynomial p) e 1 u) (e * q)) ey
      ∙ ap (λ (n : ℕ). rem (polynomial p) (chained (polynomial p) e 1 u * 2 ^ (e * n)) ⊕ chained (polynomial p) e 0 v) (sym l)
      ∙ sym (chained-start pos e (chained (polynomial p) e 1 u) v small)
      ∙ sym (chained_append pos e 1 u v)

-- the low bits of a number are below 2^k
pub low-lt : (k x y : ℕ) → x ≡ y % 2 ^ k → x < 2 ^ k
low-lt k x y e = rw e (mod-lt y (pow_pos k))

-- the low bits of a number, times a power of t
pub times_low : (p : Modulus) (a la t b r : ℕ) → la ≡ a % 2 ^ p.degree → r ≡ rem (polynomial p) (la ⊗ t) ⊕ b
    → r ≡ rem (polynomial p) (a % 2 ^ p.degree ⊗ t) ⊕ b
times_low p a la t b r e d = d ∙ ap (λ (z : ℕ). rem (polynomial p) (z ⊗ t) ⊕ b) e

-- four lanes of q fields and the rest, n fields in all
module _ (p : Modulus) (md : Proper p) (s place n q from : ℕ) (fits : 4 * q ≤ n) (behind : from ≡ place + 32 * q) (l words : List ℕ)
    (sh : Shifts (polynomial p) (8 * s) words) (r : some_unreduced p.degree (numbers_at place 8 n l) ≡ false)
    (x : Lanes) (four : LanesJoined words place q l x) (t : ℕ)
    (et : t ≡ rem (polynomial p) (2 ^ (8 * s * q))) where
  lane_a : List ℕ
  lane_a = numbers_at place 8 q l

  lane_b : List ℕ
  lane_b = numbers_at (place + 8 * q) 8 q l

  lane_c : List ℕ
  lane_c = numbers_at (place + 8 * q + 8 * q) 8 q l

  lane_d : List ℕ
  lane_d = numbers_at (place + 8 * q + 8 * q + 8 * q) 8 q l

  rest : List ℕ
  rest = numbers_at from 8 (n - 4 * q) l

  all-fields : numbers_at place 8 n l ≡ lane_a ++ lane_b ++ lane_c ++ lane_d ++ rest
  unfolding lane_a lane_b lane_c lane_d rest
  all-fields = rest-behind place n q from l fits behind ∙ ap (λ (m : List ℕ). m ++ rest) (four_lanes_lem place q l)

  pos : 0 < polynomial p
  pos = monic-pos p.degree p.low md.2

  deg : degree (polynomial p) ≡ p.degree
  deg = monic-degree p.degree p.low md.2

  -- by the table is as by the residues, where the fields are reduced
  by_table : (f : ℕ) (gs : List ℕ) → f < 2 ^ p.degree → some_unreduced p.degree gs ≡ false → looping words f gs ≡ chained (polynomial p) (8 * s) f gs
  by_table f gs h u = looping-chained pos (8 * s) words sh (rw deg md.1) f gs (rw deg h) (rw deg u)

  reduced : (some_unreduced p.degree lane_a ≡ false) × (some_unreduced p.degree lane_b ≡ false) × (some_unreduced p.degree lane_c ≡ false)
      × (some_unreduced p.degree lane_d ≡ false) × (some_unreduced p.degree rest ≡ false)
  reduced =
      let d = reduced-split p.degree (lane_a ++ lane_b ++ lane_c ++ lane_d) rest (rw all-fields at r) in
      let c = reduced-split p.degree (lane_a ++ lane_b ++ lane_c) lane_d d.0 in
      let b = reduced-split p.degree (lane_a ++ lane_b) lane_c c.0 in
      let a = reduced-split p.degree lane_a lane_b b.0 in
      (a.0, a.1, b.1, c.1, d.1)

  is-a : x.a ≡ chained (polynomial p) (8 * s) 1 lane_a
  unfolding lane_a
  is-a = four.a ∙ by_table 1 lane_a (pow-lt {i = 0} {j = p.degree} md.0) reduced.0

  is_ab : (ab : ℕ) → ab ≡ rem (polynomial p) (x.a % 2 ^ p.degree ⊗ t) ⊕ x.b → ab ≡ chained (polynomial p) (8 * s) 1 (lane_a ++ lane_b)
  unfolding lane_b
  is_ab ab e =
      lane-behind p md (8 * s) q lane_a lane_b x.a x.b t ab (length-numbers_at (place + 8 * q) 8 q l) is-a
      (four.b ∙ by_table 0 lane_b (pow_pos p.degree) reduced.1) et e

  is_abc : (ab abc : ℕ) → ab ≡ rem (polynomial p) (x.a % 2 ^ p.degree ⊗ t) ⊕ x.b → abc ≡ rem (polynomial p) (ab % 2 ^ p.degree ⊗ t) ⊕ x.c
      → abc ≡ chained (polynomial p) (8 * s) 1 (lane_a ++ lane_b ++ lane_c)
  unfolding lane_c
  is_abc ab abc e f =
      lane-behind p md (8 * s) q (lane_a ++ lane_b) lane_c ab x.c t abc (length-numbers_at (place + 8 * q + 8 * q) 8 q l) (is_ab ab e)
      (four.c ∙ by_table 0 lane_c (pow_pos p.degree) reduced.2) et f

  is_abcd : (ab abc abcd : ℕ) → ab ≡ rem (polynomial p) (x.a % 2 ^ p.degree ⊗ t) ⊕ x.b → abc ≡ rem (polynomial p) (ab % 2 ^ p.degree ⊗ t) ⊕ x.c
      → abcd ≡ rem (polynomial p) (abc % 2 ^ p.degree ⊗ t) ⊕ x.d → abcd ≡ chained (polynomial p) (8 * s) 1 (lane_a ++ lane_b ++ lane_c ++ lane_d)
  unfolding lane_d
  is_abcd ab abc abcd e f g =
      lane-behind p md (8 * s) q (lane_a ++ lane_b ++ lane_c) lane_d abc x.d t abcd (length-numbers_at (place + 8 * q + 8 * q + 8 * q) 8 q l)
      (is_abc ab abc e f)
      (four.d ∙ by_table 0 lane_d (pow_pos p.degree) reduced.3) et g

  pub all-joined : (ab abc abcd y : ℕ) → ab ≡ rem (polynomial p) (x.a % 2 ^ p.degree ⊗ t) ⊕ x.b → abc ≡ rem (polynomial p) (ab % 2 ^ p.degree ⊗ t) ⊕ x.c
      → abcd ≡ rem (polynomial p) (abc % 2 ^ p.degree ⊗ t) ⊕ x.d
      → y ≡ looping words abcd (numbers_at from 8 (n - 4 * q) l)
      → y ≡ chained (polynomial p) (8 * s) 1 (numbers_at place 8 n l)
  unfolding rest
  all-joined ab abc abcd y e f g h =
      let d = is_abcd ab abc abcd e f g in
      h
      ∙ by_table abcd rest (chain_lt p md (8 * s) abcd (lane_a ++ lane_b ++ lane_c ++ lane_d) d) reduced.4
      ∙ ap (λ (z : ℕ). chained (polynomial p) (8 * s) z rest) d
      ∙ sym (chained_append pos (8 * s) 1 (lane_a ++ lane_b ++ lane_c ++ lane_d) rest)
      ∙ ap (chained (polynomial p) (8 * s) 1) (sym all-fields)

-- few fields: one lane
pub few-joined : (p : Modulus) → Proper p → (s place n : ℕ) (l words : List ℕ) → Shifts (polynomial p) (8 * s) words
    → some_unreduced p.degree (numbers_at place 8 n l) ≡ false
    → looping words 1 (numbers_at place 8 n l) ≡ chained (polynomial p) (8 * s) 1 (numbers_at place 8 n l)
few-joined p md s place n l words sh r =
    let deg = monic-degree p.degree p.low md.2 in
    looping-chained (monic-pos p.degree p.low md.2) (8 * s) words sh (rw deg md.1) 1 (numbers_at place 8 n l)
    (rw deg (pow-lt {i = 0} {j = p.degree} md.0)) (rw deg r)

-- ---- a sheet's pages, by its version

-- each of c pages counts s bits, with `left` bits of the file from the first on
abbrev Counts : Layout → ℕ → ℕ → ℕ → Type 0
Counts v s left c = (i : ℕ) → i < c → page_length v s (left - i * s) ≡ s

-- so it is where pages are filled up,
pub filled-counts : (v : Layout) → v.filled ≡ true → (s left c : ℕ) → Counts v s left c
filled-counts v f s left c i l = rw f

-- and where so many bits are left
pub whole-counts : (v : Layout) (s left c : ℕ) → c * s ≤ left → Counts v s left c
whole-counts v s left c h i l = go v.filled
  where
    go : (b : Bool) → cond b s (min s (left - i * s)) ≡ s
    go true = refl
    go false = omega (arith, suc-mul i s, mul-le-mul_right s l, h)

joined-chained : (v : Layout) (key s left : ℕ) (m : Mark) (fs : List ℕ) → Counts v s left (length fs)
    → (joined_pages v key s left m fs).fingerprint ≡ chained key s m.fingerprint fs
unfolding joined_pages joined_from chained
joined-chained v key s left m [] h = refl
joined-chained v key s left m (f ∷ fs) h =
    joined-chained v key s (left - s) (joined key m (record { fingerprint = f; length = page_length v s left })) fs next
    ∙ ap (λ (n : ℕ). chained key s (rem key (m.fingerprint * 2 ^ n ⊕ f ⊕ 1 * 2 ^ n)) fs)
    (ap (page_length v s) (sym (rw (zero-mul s) (sub-zero left))) ∙ h 0 (omega arith))
    ∙ ap (λ (z : ℕ). chained key s (rem key (m.fingerprint * 2 ^ s ⊕ f ⊕ z)) fs) (one-mul (2 ^ s))
  where
    next : Counts v s (left - s) (length fs)
    next i l = let e : left - s - i * s ≡ left - suc i * s = omega (arith, suc-mul i s) in ap (page_length v s) e ∙ h (suc i) (omega (arith, l))

joined-append : (v : Layout) (key s left : ℕ) (m : Mark) (fs gs : List ℕ)
    → joined_pages v key s left m (fs ++ gs) ≡ joined_pages v key s (left - length fs * s) (joined_pages v key s left m fs) gs
unfolding joined_pages
joined-append v key s left m [] gs = ap (λ (n : ℕ). joined_pages v key s n m gs) (sym (rw (zero-mul s) (sub-zero left)))
joined-append v key s left m (f ∷ fs) gs =
    let e : left - s - length fs * s ≡ left - suc (length fs) * s = omega (arith, suc-mul (length fs) s) in
    let first = joined key m (record { fingerprint = f; length = page_length v s left }) in
    joined-append v key s (left - s) first fs gs ∙ ap (λ (n : ℕ). joined_pages v key s n (joined_pages v key s (left - s) first fs) gs) e

module _ (p : Modulus) (md : Proper p) (v : Layout) (s n : ℕ) where
  empty : (mark_of (polynomial p) []).fingerprint ≡ 1
  empty = ap (λ (m : Mark). m.fingerprint) (empty-mark (polynomial p) (of_degree-one p.degree p.low md.0 md.2))

  -- pages that count s bits each
  run : (fs : List ℕ) → Counts v s n (length fs)
      → chained (polynomial p) s 1 fs ≡ (joined_pages v (polynomial p) s n (mark_of (polynomial p) []) fs).fingerprint
  run fs h = ap (λ (z : ℕ). chained (polynomial p) s z fs) (sym empty) ∙ sym (joined-chained v (polynomial p) s n (mark_of (polynomial p) []) fs h)

  -- and a last one, shorter than the others
  last-run : v.filled ≡ false → (fs : List ℕ) (x g y left : ℕ) → length fs * s + left ≡ n → left < s → x ≡ chained (polynomial p) s 1 fs
      → g < 2 ^ p.degree → y ≡ rem (polynomial p) (x % 2 ^ p.degree * 2 ^ left ⊕ g % 2 ^ p.degree ⊕ 2 ^ left)
      → y ≡ (joined_pages v (polynomial p) s n (mark_of (polynomial p) []) (fs ++ g ∷ [])).fingerprint
  unfolding joined_pages joined_from
  last-run f fs x g y left e short ex lg ey =
      let whole = joined_pages v (polynomial p) s n (mark_of (polynomial p) []) fs in
      let counts : page_length v s (n - length fs * s) ≡ left = rw f (omega arith) in
      ey
      ∙ rw (mod-eq_of_lt (chain_lt p md s x fs ex), mod-eq_of_lt lg)
      (ap (λ (z : ℕ). rem (polynomial p) (x * 2 ^ left ⊕ g ⊕ z)) (sym (one-mul (2 ^ left)))
      ∙ ap₂ (λ (z m : ℕ). rem (polynomial p) (z * 2 ^ m ⊕ g ⊕ 1 * 2 ^ m)) (ex ∙ run fs (whole-counts v s n (length fs) (omega arith))) (sym counts))
      ∙ ap (λ (m : Mark). m.fingerprint) (sym (joined-append v (polynomial p) s n (mark_of (polynomial p) []) fs (g ∷ [])))

-- ---- the same of what the code has

module _ {p : Modulus} (md : Proper p) (v : Layout) (s n : ℕ) (fields : List ℕ) where
  pub run-joined : (c : ℕ) (r : Joined) → Counts v s n c → RunJoined (polynomial p) p.degree s (numbers_at 0 8 c fields) r
      → PagesJoined v (polynomial p) p.degree s n (numbers_at 0 8 c fields) r
  run-joined c r count h =
      let long = length-numbers_at 0 8 c fields in
      record { mark = λ u. h.mark u ∙ run p md v s n (numbers_at 0 8 c fields) (rw long count); bits = h.bits }

  one_more : (c : ℕ) → numbers_at 0 8 (c + 1) fields ≡ numbers_at 0 8 c fields ++ number_at (8 * c) 8 fields ∷ []
  unfolding numbers_at
  one_more c = numbers-append 0 8 c 1 fields ∙ ap (λ (m : ℕ). numbers_at 0 8 c fields ++ number_at m 8 fields ∷ []) (zero-add (8 * c))

  pub last-joined : (c left g : ℕ) (x r : Joined) → v.filled ≡ false → c * s + left ≡ n → left < s → g ≡ number_at (8 * c) 8 fields
      → RunJoined (polynomial p) p.degree s (numbers_at 0 8 c fields) x → LastJoined (polynomial p) p.degree x g left r
      → PagesJoined v (polynomial p) p.degree s n (numbers_at 0 8 (c + 1) fields) r
  last-joined c left g x r f e short eg h l =
      let fs = numbers_at 0 8 c fields in
      rw (one_more c, ← eg)
      (record {
        mark = mark;
        bits = rw l.bits (bits-last fs x.bits g h.bits);
      })
    where
      mark : some_unreduced p.degree (numbers_at 0 8 c fields ++ g ∷ []) ≡ false
          → r.mark ≡ (joined_pages v (polynomial p) s n (mark_of (polynomial p) []) (numbers_at 0 8 c fields ++ g ∷ [])).fingerprint
      mark u =
          let fs = numbers_at 0 8 c fields in
          let o = reduced-split p.degree fs (g ∷ []) u in
          last-run p md v s n f fs x.mark g r.mark left (rw (length-numbers_at 0 8 c fields) e) short (h.mark o.0)
          (reduced-first p.degree g [] o.1).0
          l.mark
