-- Laws of the key in its field: what is written reads back and what is read is written so, as a number and as a pair.
use mathlib.Core.Path.{◌≡◌, sym, ap, ap₂, ◌∙◌}
use mathlib.Core.Bool.{Bool, true, false, cond, true≢false}
use mathlib.Core.List.{List}
use Prim.Native.Nat.{ℕ, zero, suc, ◌+◌, ◌*◌, ◌/◌, ◌%◌, ◌^◌, ◌≤◌, ◌<◌}
use native.Mathlib.Nat.{div-add-mod', lt_of_lt_of_le, zero-lt-suc}
use native.Mathlib.Omega.{arith}
use lib.Arith.{digits_lt, digits_div, digits_mod}
use lib.Dec.{lit<}
use lib.ListN.{length}
use lib.Pow.{pow_mono, pow_pos}
use lib.Seq.{sets}
use Rattle.gf2.specs.Polynomials.{monic}
use Rattle.gf2.proofs.Monics.{word-degree}
use Rattle.acceptance.specs.declared.Key.{Key}
use Rattle.acceptance.specs.Keys.{polynomial_of, key_of, outside}
use Rattle.acceptance.proofs.Laws.{in_range, range-key, whole-key, word-outside}
use Rattle.big_endian.specs.Numbers.{bytes_of, number_at}
use Rattle.sheets.specs.Layout.{Layout, key_number, key_from}
use Rattle.sheets.specs.Claims.{PairHeld}
use Rattle.big_endian.proofs.Numbers.{length-bytes_of, bytes-first, number-first, number_lt, sets_behind}

pub key-pos : (x : Key) → 0 < polynomial_of x
unfolding monic
key-pos x = omega (arith, pow_pos x.degree)

-- the width of the field
abbrev pub key_width : Layout → ℕ
key_width v = cond v.paired 9 8

pub key_narrow : (v : Layout) → key_width v ≤ 9
key_narrow v = go v.paired
  where
    go : (b : Bool) → cond b 9 8 ≤ 9
    go true = omega arith
    go false = omega arith

key-eq : {a b : Key} → a.degree ≡ b.degree → a.word ≡ b.word → a ≡ b
key-eq {a} {b} e d = ap₂ {C = Key} (λ (k w : ℕ). record { degree = k; word = w }) e d

-- ---- a key to which number 1 does not apply

module _ (x : Key) (h : outside x ≡ false) where
  word_small : x.word < 2 ^ 64
  word_small = let r = in_range x h in lt_of_lt_of_le r.2 (pow_mono {i = x.degree} {j = 64} r.1)

  -- it fits its field
  pub key_fits : (b : Bool) → x.degree ≤ cond b 64 63 → key_number b x < 2 ^ (8 * cond b 9 8)
  unfolding key_number monic
  key_fits true l = digits_lt {q = x.degree} {m = 256} {r = x.word} {c = 2 ^ 64} (omega arith) word_small
  key_fits false l = let p : 2 ^ x.degree ≤ 2 ^ 63 = pow_mono {i = x.degree} {j = 63} l in omega (arith, (in_range x h).2)

  -- and reads back
  pub key_back : (b : Bool) → key_from b (key_number b x) ≡ x
  unfolding key_number key_from
  key_back true = key-eq (digits_div x.degree word_small) (digits_mod x.degree word_small)
  key_back false = sym (range-key x h)

-- ---- a number in the field, read as such a key

some : (n : ℕ) → outside (key_of n) ≡ false → 0 < n
some zero e = absurd (true≢false (sym (word-outside 0 (lit< tt)) ∙ e))
some (suc n) e = zero-lt-suc n

pub number-back : (b : Bool) (n : ℕ) → outside (key_from b n) ≡ false → key_number b (key_from b n) ≡ n
unfolding key_number key_from
number-back true n h = div-add-mod' n (2 ^ 64)
number-back false n h = whole-key n (some n h)

pub degree-held : (b : Bool) (n : ℕ) → outside (key_from b n) ≡ false → n < 2 ^ (8 * cond b 9 8) → (key_from b n).degree ≤ cond b 64 63
unfolding key_from
degree-held true n h l = (in_range (record { degree = n / 2 ^ 64; word = n % 2 ^ 64 }) h).1
degree-held false n h l = omega (arith, word-degree n (some n h) l)

-- ---- a pair, byte by byte

pub pair_held : PairHeld
unfolding key_number
pair_held x l = bytes-first 8 x.degree x.word l

-- as the code stores it
pub store_pair : (b : Bool) (x : Key) (w place : ℕ) (l l' after : List ℕ) → b ≡ true → w ≡ 9 → x.word < 2 ^ 64
    → l' ≡ sets l place (bytes_of 1 x.degree) → after ≡ sets l' (place + 1) (bytes_of 8 x.word)
    → after ≡ sets l place (bytes_of w (key_number b x))
store_pair b x w place l l' after p n h e d =
    d
    ∙ ap (λ (m : List ℕ). sets m (place + 1) (bytes_of 8 x.word)) e
    ∙ sets_behind (bytes_of 1 x.degree) (bytes_of 8 x.word) l place (place + 1) (ap (λ (n : ℕ). place + n) (sym (length-bytes_of 1 x.degree)))
    ∙ ap (sets l place) (sym (pair_held x h) ∙ ap₂ (λ (m : ℕ) (c : Bool). bytes_of m (key_number c x)) (sym n) (sym p))

-- as the code reads it, and a number
pub pair_read : (b : Bool) (place : ℕ) (l : List ℕ) → b ≡ true → place + 9 ≤ length l
    → ◌≡◌ {A = Key} (record { degree = number_at place 1 l; word = number_at (place + 1) 8 l }) (key_from b (number_at place 9 l))
unfolding key_from
pair_read b place l p h =
    let two : number_at place 9 l ≡ number_at place 1 l * 2 ^ 64 + number_at (place + 1) 8 l = number-first place 8 l h in
    let low : number_at (place + 1) 8 l < 2 ^ 64 = number_lt (place + 1) 8 l (omega arith) in
    sym
    (ap (λ (c : Bool). key_from c (number_at place 9 l)) p
    ∙ key-eq (ap (λ (m : ℕ). m / 2 ^ 64) two ∙ digits_div (number_at place 1 l) low) (ap (λ (m : ℕ). m % 2 ^ 64) two ∙ digits_mod (number_at place 1 l) low))

pub number_read : (b : Bool) (n : ℕ) → b ≡ false → key_of n ≡ key_from b n
unfolding key_from
number_read b n p = sym (ap (λ (c : Bool). key_from c n) p)
