-- Laws of the key's line: the value of a byte, one digit more, a top digit and a word, which tests make it a key, and how many bytes decide it.
use mathlib.Core.Path.{◌≡◌, refl, sym, ap, ap₂, ◌∙◌}
use mathlib.Core.Bool.{Bool, true, false, cond, ◌&&◌, and-false}
use mathlib.Core.List.{List, [], ◌∷◌, ◌++◌}
use mathlib.Core.Logic.{◌⊎◌, inl, inr}
use Prim.Native.Nat.{ℕ, zero, suc, ◌+◌, ◌-◌, ◌*◌, ◌^◌, ◌≤◌, ◌<◌, min}
use lib.Pow.{pow-add}
use native.Mathlib.Nat.{le_trans, le-add_right, mul-le-mul_right, zero-add, add-zero, add_assoc, zero-mul, mul-one, mul_assoc, mul_comm, add-mul}
use native.Mathlib.Nat.{pow-zero, pow-suc, min-zero, zero-min, suc-min-suc, min-eq_left, min-eq_right}
use native.Mathlib.Decide.{dec_le, dec_lt}
use native.Mathlib.Numerals.{add-one}
use native.Mathlib.Omega.{arith}
use lib.Dec.{leb, ltb, eqb}
use lib.ListN.{length, get_or, take, drop, length-take, length-drop, length-append}
use lib.Seq.{drop-cons, take_all, take-take, take-append-le, take-append_seam, take-append-add}
use borrow.Author.Tests.{eq-eqb, ne_eqb, ltb-true, lt-ltb, le-ltb, le-leb, lt-leb}
use Rattle.lists.proofs.Truth.{and_both}
use Rattle.gf2.specs.Polynomials.{monic}
use Rattle.acceptance.specs.declared.Key.{Key}
use Rattle.acceptance.specs.Keys.{key_of}
use Rattle.acceptance.proofs.Laws.{within-range, range-key}
use Rattle.key_lines.specs.KeyLines.{digit, all_digits, hex_from, line_of, key_before, index_of, key_line}
use Rattle.key_lines.specs.Deciding.{undecided}
use Rattle.key_lines.specs.declared.LineError.{LineError}
use Rattle.key_lines.specs.declared.LineError.TheVariants.{NoKey, TooLarge}
use Rattle.std.specs.Prelude.{Option, Some, None, Result, Ok, Err, ◌≢◌, MatchOption, unwrap_or}
use Rattle.std.specs.List.{list_all, AllWithin, HoldsAt}
use Rattle.std.proofs.lemmas.Iterator.{index_from_first}

-- the value of a byte, by the range that holds it
pub digit_under : (b : ℕ) → b < 48 → digit b ≡ 16
unfolding digit
digit_under b h = simp (lt-leb 48 b h, lt-leb 97 b (omega arith))

pub digit_decimal : (b : ℕ) → 48 ≤ b → b ≤ 57 → digit b ≡ b - 48
unfolding digit
digit_decimal b l h = simp (le-leb 48 b l, le-leb b 57 h)

pub digit-between : (b : ℕ) → 57 < b → b < 97 → digit b ≡ 16
unfolding digit
digit-between b l h = simp (lt-leb b 57 l, and-false (leb 48 b), lt-leb 97 b h)

pub digit_letter : (b : ℕ) → 97 ≤ b → b ≤ 102 → digit b ≡ b - 97 + 10
unfolding digit
digit_letter b l h = simp (lt-leb b 57 (omega arith), and-false (leb 48 b), le-leb 97 b l, le-leb b 102 h) (omega arith)

pub digit-over : (b : ℕ) → 102 < b → digit b ≡ 16
unfolding digit
digit-over b h = simp (lt-leb b 57 (omega arith), and-false (leb 48 b), lt-leb b 102 h, and-false (leb 97 b))

module _ (line : List ℕ) (i : ℕ) (h : i < length line) where
  pub digits-next : all_digits (drop i line) ≡ (ltb (digit (get_or line i 0)) 16 && all_digits (drop (i + 1) line))
  unfolding all_digits
  digits-next = rw (add-one, drop-cons line i 0 h)

  pub hex_next : (s : ℕ) → hex_from s (drop i line) ≡ hex_from (s * 16 + digit (get_or line i 0)) (drop (i + 1) line)
  unfolding hex_from
  hex_next s = rw (add-one, drop-cons line i 0 h)

  pub digit-here : all_digits (drop i line) ≡ true → (digit (get_or line i 0) < 16) × (all_digits (drop (i + 1) line) ≡ true)
  digit-here e =
      let both = and_both (ltb (digit (get_or line i 0)) 16) (all_digits (drop (i + 1) line)) (sym digits-next ∙ e) in
      (ltb-true (digit (get_or line i 0)) 16 both.0, both.1)

  pub digits-behind : digit (get_or line i 0) < 16 → all_digits (drop (i + 1) line) ≡ all_digits (drop i line)
  digits-behind h = sym (rw (lt-ltb (digit (get_or line i 0)) 16 h) at digits-next)

-- std's words for the loops of the code
pub digits-all : (line : List ℕ) → list_all (λ b. ltb (digit b) 16) line ≡ all_digits line
unfolding all_digits
digits-all [] = refl
digits-all (b ∷ bs) = ap (λ t. ltb (digit b) 16 && t) (digits-all bs)

-- the first newline, as std's search finds it
pub newline-found : (input : List ℕ) (r : Option ℕ)
    → MatchOption r (AllWithin (λ x. x ≢ 10) input 0 (length input))
    (λ n. (n < length input) × HoldsAt (λ x. x ≡ 10) input n × AllWithin (λ x. x ≢ 10) input 0 n)
    → MatchOption r (length input ≤ index_of 10 input) (λ n. (n < length input) × (n ≡ index_of 10 input))
unfolding index_of
newline-found input r h = go r h (index_from_first (index_of 10) (λ x. x ≡ 10) (λ x. x ≢ 10) none hit miss input r h)
  where
    none : index_of 10 [] ≡ 0
    none = refl

    hit : (x : ℕ) (xs : List ℕ) → x ≡ 10 → index_of 10 (x ∷ xs) ≡ 0
    hit x xs e = rw (eq-eqb x 10 e) refl

    miss : (x : ℕ) (xs : List ℕ) → x ≢ 10 → index_of 10 (x ∷ xs) ≡ index_of 10 xs + 1
    miss x xs e = rw (ne_eqb x 10 e) (omega arith)

    go : (r : Option ℕ)
        → MatchOption r (AllWithin (λ x. x ≢ 10) input 0 (length input))
        (λ n. (n < length input) × HoldsAt (λ x. x ≡ 10) input n × AllWithin (λ x. x ≢ 10) input 0 n)
        → index_of 10 input ≡ unwrap_or r (length input)
        → MatchOption r (length input ≤ index_of 10 input) (λ n. (n < length input) × (n ≡ index_of 10 input))
    go None h e = omega (arith, e)
    go (Some n) h e = (h.0, sym e)

pub not-true : (b : Bool) → (b ≡ true → ⊥) → b ≡ false
not-true true f = absurd (f refl)
not-true false f = refl

-- room for a digit more
pub hex_lt : (s d i : ℕ) → s < 2 ^ (4 * i) → d < 16 → s * 16 + d < 2 ^ (4 * (i + 1))
hex_lt s d i h l = let e : 4 * (i + 1) ≡ 4 * i + 4 = omega arith in rw (e, pow-add) (omega arith)

-- ---- a top digit and a word

-- digits behind the number s: s moves up a digit with each
hex_behind : (s : ℕ) (xs : List ℕ) → hex_from s xs ≡ s * 16 ^ length xs + hex_from 0 xs
unfolding hex_from
hex_behind s [] = simp (pow-zero, mul-one, add-zero)
hex_behind s (x ∷ xs) =
    hex_behind (s * 16 + digit x) xs
    ∙ moved s (digit x) (16 ^ length xs) (hex_from 0 xs)
    ∙ ap₂ (λ (y z : ℕ). s * y + z) (sym (pow-suc 16 (length xs))) (sym (hex_behind (0 * 16 + digit x) xs))
  where
    moved : (s d q r : ℕ) → (s * 16 + d) * q + r ≡ s * (q * 16) + ((0 * 16 + d) * q + r)
    moved s d q r = simp (add-mul, mul_assoc, mul_comm 16 q, zero-mul, zero-add, add_assoc)

-- of seventeen
pub hex_top : (line : List ℕ) → length line ≡ 17 → hex_from 0 line ≡ digit (get_or line 0 0) * 2 ^ 64 + hex_from 0 (drop 1 line)
unfolding hex_from
hex_top [] l = absurd (omega arith)
hex_top (x ∷ xs) l =
    let e : length xs ≡ 16 = omega arith in
    hex_behind (0 * 16 + digit x) xs ∙ ap (λ (n : ℕ). (0 * 16 + digit x) * 16 ^ n + hex_from 0 xs) e ∙ simp (zero-mul, zero-add)

-- the digits below the top one
pub digits-below : (line : List ℕ) → take (length line - 1) (drop 1 line) ≡ drop 1 line
digits-below line = take_all (length line - 1) (drop 1 line) (omega (arith, length-drop 1 line))

-- what seventeen digits write, by the top digit and the word
pub line_written : (line : List ℕ) (top word : ℕ) → length line ≡ 17 → top ≡ digit (get_or line 0 0)
    → word ≡ hex_from 0 (take (length line - 1) (drop 1 line)) → hex_from 0 line ≡ top * 2 ^ 64 + word
line_written line top word long e f =
    hex_top line long ∙ ap₂ (λ (x w : ℕ). x * 2 ^ 64 + w) (sym e) (sym (f ∙ ap (hex_from 0) (digits-below line)))

-- a top digit above 1
pub top_large : (d w : ℕ) → 2 ≤ d → 2 ^ 65 ≤ d * 2 ^ 64 + w
top_large d w h = le_trans (mul-le-mul_right (2 ^ 64) h) (le-add_right (d * 2 ^ 64) w)

-- a number that writes a key, and one that is too large
pub line_small : (v at : ℕ) → v < 2 ^ 65 → line_of v at ≡ Ok (key_of v, at)
unfolding line_of
line_small v at h = rw (lt-ltb v (2 ^ 65) h)

pub line_large : (v at : ℕ) → 2 ^ 65 ≤ v → line_of v at ≡ Err TooLarge
unfolding line_of
line_large v at h = rw (le-ltb v (2 ^ 65) h)

-- the key of degree 64 with the word w
pub top_key : (w : ℕ) → w < 2 ^ 64 → key_of (1 * 2 ^ 64 + w) ≡ record { degree = 64; word = w }
unfolding monic
top_key w h = let x : Key = record { degree = 64; word = w } in sym (range-key x (within-range x (omega arith) (omega arith) h))

-- ---- the tests

module _ (n : ℕ) (input : List ℕ) where
  pub no_newline : length input ≤ n → key_before n input ≡ Err NoKey
  unfolding key_before
  no_newline h = rw (le-ltb n (length input) h)

  pub empty-line : n < 1 → key_before n input ≡ Err NoKey
  unfolding key_before
  empty-line h = rw (lt-leb 1 n h, and-false (ltb n (length input)))

  pub long-line : 17 < n → key_before n input ≡ Err NoKey
  unfolding key_before
  long-line h = rw (lt-leb n 17 h, and-false (leb 1 n), and-false (ltb n (length input)))

  pub other-bytes : all_digits (take n input) ≡ false → key_before n input ≡ Err NoKey
  unfolding key_before
  other-bytes e = rw (e, and-false (ltb n (length input) && (leb 1 n && leb n 17)))

  pub key-digits : n < length input → 1 ≤ n → n ≤ 17 → all_digits (take n input) ≡ true → key_before n input ≡ line_of (hex_from 0 (take n input)) (n + 1)
  unfolding key_before
  key-digits h lo hi e = rw (lt-ltb n (length input) h, le-leb 1 n lo, le-leb n 17 hi, e)

-- by the place of the first newline, where there is one
pub line_at : (input : List ℕ) (r : ℕ) → r ≡ index_of 10 input → key_line input ≡ key_before r input
unfolding key_line
line_at input r e = ap (λ (n : ℕ). key_before n input) (sym e)

pub unended : (input : List ℕ) → length input ≤ index_of 10 input → key_line input ≡ Err NoKey
unfolding key_line
unended input h = no_newline (index_of 10 input) input h

module _ (input : List ℕ) (n : ℕ) (at : (n < length input) × (n ≡ index_of 10 input)) where
  key-before : key_line input ≡ key_before n input
  key-before = line_at input n at.1

  pub line-length : (n < 1) ⊎ (17 < n) → key_line input ≡ Err NoKey
  line-length (inl h) = key-before ∙ empty-line n input h
  line-length (inr h) = key-before ∙ long-line n input h

  pub line-other : all_digits (take n input) ≡ false → key_line input ≡ Err NoKey
  line-other e = key-before ∙ other-bytes n input e

-- the line has 1 to 17 digits, which write a top digit and a word
pub record Written (input : List ℕ) (n top word : ℕ) : Type 0 where
  pub at : (n < length input) × (n ≡ index_of 10 input)
  pub low : 1 ≤ n
  pub high : n ≤ 17
  pub digits : (all_digits (take n input) ≡ true) × (hex_from 0 (take n input) ≡ top * 2 ^ 64 + word)

module _ {input : List ℕ} {n top word : ℕ} (w : Written input n top word) where
  line-digits : key_line input ≡ line_of (top * 2 ^ 64 + word) (n + 1)
  line-digits = key-before input n w.at ∙ key-digits n input w.at.0 w.low w.high w.digits.0 ∙ ap (λ v. line_of v (n + 1)) w.digits.1

  pub line-0 : top ≡ 0 → word < 2 ^ 64 → key_line input ≡ Ok (key_of word, n + 1)
  line-0 e l =
      line-digits
      ∙ ap (λ t. line_of (t * 2 ^ 64 + word) (n + 1)) e
      ∙ ap (λ v. line_of v (n + 1)) (zero-add word)
      ∙ line_small word (n + 1) (omega arith)

  pub line-1 : top ≡ 1 → word < 2 ^ 64 → key_line input ≡ Ok (record { degree = 64; word = word }, n + 1)
  line-1 e l =
      line-digits
      ∙ ap (λ t. line_of (t * 2 ^ 64 + word) (n + 1)) e
      ∙ line_small (1 * 2 ^ 64 + word) (n + 1) (omega arith)
      ∙ ap (λ x. Ok (x, n + 1)) (top_key word l)

  pub line-large : 2 ≤ top → key_line input ≡ Err TooLarge
  line-large l = line-digits ∙ line_large (top * 2 ^ 64 + word) (n + 1) (top_large top word l)

-- what a line says
abbrev pub Line : Type 0
Line = Result (Key × ℕ) LineError

no_key_lem : {x : Key} {at : ℕ} → ◌≡◌ {A = Line} (Err NoKey) (Ok (x, at)) → ⊥
no_key_lem f = let z : ◌≡◌ {A = ℕ} 0 1 = cc in omega arith

too_large : {x : Key} {at : ℕ} → ◌≡◌ {A = Line} (Err TooLarge) (Ok (x, at)) → ⊥
too_large f = let z : ◌≡◌ {A = ℕ} 0 1 = cc in omega arith

-- the file begins within the input or at its end
pub key-within : (input : List ℕ) (x : Key) (at : ℕ) → key_line input ≡ Ok (x, at) → at ≤ length input
unfolding key_line key_before line_of
key-within input x at e = go (ltb n (length input)) (leb 1 n && leb n 17) (all_digits (take n input)) (ltb v (2 ^ 65)) refl e
  where
    n : ℕ
    n = index_of 10 input

    v : ℕ
    v = hex_from 0 (take n input)

    place : Line → ℕ
    place (Ok k) = k.1
    place (Err r) = 0

    go : (a b c d : Bool) → ltb n (length input) ≡ a
        → ◌≡◌ {A = Line} (cond (a && b && c) (cond d (Ok (key_of v, n + 1)) (Err TooLarge)) (Err NoKey)) (Ok (x, at)) → at ≤ length input
    go true true true true t f = let g : n + 1 ≡ at = ap place f in omega (arith, ltb-true n (length input) t)
    go true true true false t f = absurd (too_large f)
    go true true false d t f = absurd (no_key_lem f)
    go true false c d t f = absurd (no_key_lem f)
    go false b c d t f = absurd (no_key_lem f)

-- ---- the first 18 bytes decide the key's line

index_more : (t : Bool) (m i j : ℕ) → i ≡ min m j → cond t 0 (suc i) ≡ min (suc m) (cond t 0 (suc j))
index_more true m i j e = sym (min-zero (suc m))
index_more false m i j e = ap suc e ∙ sym (suc-min-suc m j)

index_take : (b m : ℕ) (xs : List ℕ) → index_of b (take m xs) ≡ min m (index_of b xs)
unfolding index_of
index_take b zero xs = sym (zero-min (index_of b xs))
index_take b (suc m) [] = sym (min-zero (suc m))
index_take b (suc m) (x ∷ xs) = index_more (eqb x b) m (index_of b (take m xs)) (index_of b xs) (index_take b m xs)

-- a line of at most 17 bytes, in 18 bytes and in the whole
line_same : (n : ℕ) (input : List ℕ) → n < 18 → key_before n (take 18 input) ≡ key_before n input
unfolding key_before
line_same n input h = rw (take-take n 18 input (omega arith), length-take 18 input, room)
  where
    room : ltb n (min 18 (length input)) ≡ ltb n (length input)
    room = go (dec_lt n (length input))
      where
        go : Dec (n < length input) → ltb n (min 18 (length input)) ≡ ltb n (length input)
        go (yes q) = rw (lt-ltb n (length input) q) (lt-ltb n (min 18 (length input)) (omega arith))
        go (no q) = rw (le-ltb n (length input) (omega arith)) (le-ltb n (min 18 (length input)) (omega arith))

pub head_decides : (input : List ℕ) → key_line (take 18 input) ≡ key_line input
unfolding key_line
head_decides input = go (dec_le (index_of 10 input) 17)
  where
    n : ℕ
    n = index_of 10 input

    go : Dec (n ≤ 17) → key_before (index_of 10 (take 18 input)) (take 18 input) ≡ key_before n input
    go (no q) =
        let e : index_of 10 (take 18 input) ≡ 18 = index_take 10 18 input ∙ min-eq_left (omega arith) in
        rw (e, long-line 18 (take 18 input) (omega arith)) (sym (long-line n input (omega arith)))
    go (yes q) =
        let e : index_of 10 (take 18 input) ≡ n = index_take 10 18 input ∙ min-eq_right (omega arith) in
        rw e (line_same n input (omega arith))

-- ---- what comes behind a line does not change what it says

line_stays : (n : ℕ) (input more : List ℕ) → n < length input → key_before n (input ++ more) ≡ key_before n input
unfolding key_before
line_stays n input more h =
    rw (take-append-le n input more (omega arith), lt-ltb n (length input) h, lt-ltb n (length (input ++ more)) (omega (arith, length-append input more)))

index_stays : (b : ℕ) (input more : List ℕ) → index_of b input < length input → index_of b (input ++ more) ≡ index_of b input
index_stays b input more h =
    let e : index_of b input ≡ min (length input) (index_of b (input ++ more))
    = ap (index_of b) (sym (take-append_seam input more)) ∙ index_take b (length input) (input ++ more) in
    omega arith

pub line_settled : (input more : List ℕ) (l : Line) → (l ≡ Err NoKey → ⊥) → key_line input ≡ l → key_line (input ++ more) ≡ l
unfolding key_line
line_settled input more l some e = go (dec_lt (index_of 10 input) (length input))
  where
    go : Dec (index_of 10 input < length input) → key_before (index_of 10 (input ++ more)) (input ++ more) ≡ l
    go (yes h) = rw (index_stays 10 input more h) (line_stays (index_of 10 input) input more h ∙ e)
    go (no h) = absurd (some (sym e ∙ no_newline (index_of 10 input) input (omega arith)))

pub key-stays : (input more : List ℕ) (x : Key) (at : ℕ) → key_line input ≡ Ok (x, at) → key_line (input ++ more) ≡ Ok (x, at)
key-stays input more x at e = line_settled input more (Ok (x, at)) (λ f. no_key_lem (sym f)) e

pub large_stays : (input more : List ℕ) → key_line input ≡ Err TooLarge → key_line (input ++ more) ≡ Err TooLarge
large_stays input more e = line_settled input more (Err TooLarge) apart e
  where
    apart : ◌≡◌ {A = Line} (Err TooLarge) (Err NoKey) → ⊥
    apart f = let z : ◌≡◌ {A = ℕ} 0 1 = cc in omega arith

-- ---- bytes that decide the line

front-other : (b c d : Bool) → (c ≡ false → d ≡ false) → (b && c) ≡ false → (b && d) ≡ false
front-other true c d h e = h e
front-other false c d h e = refl

digits-front : (xs ys : List ℕ) → all_digits xs ≡ false → all_digits (xs ++ ys) ≡ false
unfolding all_digits
digits-front [] ys e = absurd (let z : ◌≡◌ {A = ℕ} 0 1 = cc in omega arith)
digits-front (x ∷ xs) ys e = front-other (ltb (digit x) 16) (all_digits xs) (all_digits (xs ++ ys)) (λ f. digits-front xs ys f) e

-- the two tests, by the length
pub many-decided : (input : List ℕ) → 18 ≤ length input → undecided input ≡ false
unfolding undecided
many-decided input h = rw (le-ltb (length input) 18 h)

pub few-undecided : (input : List ℕ) → length input < 18 → undecided input ≡ all_digits input
unfolding undecided
few-undecided input h = rw (lt-ltb (length input) 18 h)

-- eighteen bytes
long-decided : (input more : List ℕ) → 18 ≤ length input → key_line (input ++ more) ≡ key_line input
long-decided input more h = sym (head_decides (input ++ more)) ∙ ap key_line (take-append-le 18 input more h) ∙ head_decides input

-- a byte that is no digit, the newline too
other-decided : (input more : List ℕ) → all_digits input ≡ false → key_line (input ++ more) ≡ key_line input
unfolding key_line
other-decided input more e = go (dec_lt (index_of 10 input) (length input))
  where
    go : Dec (index_of 10 input < length input) → key_before (index_of 10 (input ++ more)) (input ++ more) ≡ key_before (index_of 10 input) input
    go (yes h) = rw (index_stays 10 input more h) (line_stays (index_of 10 input) input more h)
    go (no h) =
        let n = index_of 10 (input ++ more) in
        let at : index_of 10 input ≡ min (length input) n
        = ap (index_of 10) (sym (take-append_seam input more)) ∙ index_take 10 (length input) (input ++ more) in
        let behind : n ≡ length input + (n - length input) = omega (arith, at) in
        let front = ap (λ (k : ℕ). take k (input ++ more)) behind ∙ take-append-add input more (n - length input) in
        other-bytes n (input ++ more) (ap all_digits front ∙ digits-front input (take (n - length input) more) e)
        ∙ sym (no_newline (index_of 10 input) input (omega arith))

pub decided-stays : (input more : List ℕ) → undecided input ≡ false → key_line (input ++ more) ≡ key_line input
decided-stays input more e = go (dec_le 18 (length input))
  where
    go : Dec (18 ≤ length input) → key_line (input ++ more) ≡ key_line input
    go (yes h) = long-decided input more h
    go (no h) = other-decided input more (sym (few-undecided input (omega arith)) ∙ e)

-- bytes that do not decide it are fewer than 18
pub undecided-short : (input : List ℕ) → undecided input ≡ true → length input < 18
unfolding undecided
undecided-short input e = ltb-true (length input) 18 (and_both (ltb (length input) 18) (all_digits input) e).0
