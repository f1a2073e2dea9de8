-- Laws of numbers as bytes: what is written in w bytes reads back, and bytes that are read are what the number is written as.
use mathlib.Core.Path.{◌≡◌, refl, sym, ap, ap₂, ◌∙◌}
use mathlib.Core.List.{List, [], ◌∷◌, ◌++◌, zip_with, flatten, append_assoc}
use Prim.Native.Nat.{ℕ, zero, suc, ◌+◌, ◌-◌, ◌*◌, ◌/◌, ◌%◌, ◌^◌, ◌≤◌, ◌<◌}
use native.Mathlib.Nat.{suc-add, add-suc, mul-one, zero-mul, mul-zero, mul_assoc, zero-add, mul-add-div_right, mul-add-mod_self_right, add-zero, mod-one}
use native.Mathlib.Nat.{div-one, mod-mod, mod-eq_of_lt, mul-suc, add_assoc, add_comm}
use native.Mathlib.Numerals.{add-one}
use native.Mathlib.Omega.{arith}
use borrow.Rule.Slice.PartMut.{put_mid}
use lib.Arith.{digits_div}
use lib.ListN.{length, get_or, set, take, drop, length-append, length-drop}
use lib.Pow.{pow_pos, mod-pow-add, pow-add}
use lib.Seq.{sets, sets-eq, drop-cons, take_at, drop_at, take-add, take-suc, drop-drop, length-take-le}
use Rattle.lists.specs.Lists.{All}
use Rattle.lists.proofs.Lists.{all_take, all_drop}
use Rattle.files.specs.Files.{bits, value_from, Bytes}
use Rattle.files.proofs.Values.{value-append, value-byte, value-split, value-lt, length-bits, bits-append}
use Rattle.big_endian.specs.Numbers.{bytes_of, fields_of, number_at, numbers_at, bytes_in}

-- ---- lengths

pub length-bytes_of : (w x : ℕ) → length (bytes_of w x) ≡ w
unfolding bytes_of
length-bytes_of zero x = refl
length-bytes_of (suc w) x = ap suc (length-bytes_of w x)

pub length-fields_of : (w : ℕ) (xs : List ℕ) → length (fields_of w xs) ≡ w * length xs
unfolding fields_of
length-fields_of w [] = sym (mul-zero w)
length-fields_of w (x ∷ xs) =
    length-append (bytes_of w x) (fields_of w xs) ∙ rw (length-bytes_of w x, length-fields_of w xs, mul-suc) (add_comm w (w * length xs))

pub length-numbers_at : (place w c : ℕ) (l : List ℕ) → length (numbers_at place w c l) ≡ c
unfolding numbers_at
length-numbers_at place w zero l = refl
length-numbers_at place w (suc c) l = ap suc (length-numbers_at (place + w) w c l)

-- ---- written, then read

low-next : (w x : ℕ) → x % 2 ^ (8 * suc w) ≡ x / 2 ^ (8 * w) % 256 * 2 ^ (8 * w) + x % 2 ^ (8 * w)
low-next w x = ap (λ (n : ℕ). x % 2 ^ n) (mul-suc 8 w ∙ add_comm (8 * w) 8) ∙ mod-pow-add x 8 (8 * w)

pub pow-next : (w : ℕ) → 2 ^ (8 * suc w) ≡ 256 * 2 ^ (8 * w)
pow-next w = ap (λ (n : ℕ). 2 ^ n) (mul-suc 8 w ∙ add_comm (8 * w) 8) ∙ pow-add 2 8 (8 * w)

-- w bytes of a number come in as its low bits
pub value-bytes_of : (w s x : ℕ) → value_from s (bits (bytes_of w x)) ≡ s * 2 ^ (8 * w) + x % 2 ^ (8 * w)
unfolding bytes_of bits value_from
value-bytes_of zero s x = simp (mul-one, mod-one, add-zero)
value-bytes_of (suc w) s x =
    value-byte s (x / 2 ^ (8 * w) % 256) (bytes_of w x)
    ∙ value-bytes_of w (s * 256 + x / 2 ^ (8 * w) % 256 % 256) x
    ∙ rw (mod-mod (x / 2 ^ (8 * w)) 256, low-next w x, pow-next w) (omega arith)

pub number_seam : (p q : List ℕ) (place w x : ℕ) → length p ≡ place → x < 2 ^ (8 * w) → number_at place w (p ++ (bytes_of w x ++ q)) ≡ x
unfolding number_at
number_seam p q place w x e h =
    ap (λ (l : List ℕ). value_from 0 (bits (take w l))) (drop_at p (bytes_of w x ++ q) place e)
    ∙ ap (λ (l : List ℕ). value_from 0 (bits l)) (take_at (bytes_of w x) q w (length-bytes_of w x))
    ∙ value-bytes_of w 0 x
    ∙ simp (zero-mul, zero-add) (mod-eq_of_lt h)

-- what stands behind w bytes
pub number_behind : (u l : List ℕ) (n place w : ℕ) → length u ≡ n → number_at (n + place) w (u ++ l) ≡ number_at place w l
unfolding number_at
number_behind u l n place w e =
    ap (λ (r : List ℕ). value_from 0 (bits (take w r))) (sym (drop-drop place n (u ++ l)) ∙ ap (drop place) (drop_at u l n e))

pub numbers_seam : (xs p q : List ℕ) (place w : ℕ) → length p ≡ place → All (λ x. x < 2 ^ (8 * w)) xs
    → numbers_at place w (length xs) (p ++ (fields_of w xs ++ q)) ≡ xs
unfolding numbers_at fields_of
numbers_seam [] p q place w e h = refl
numbers_seam (x ∷ xs) p q place w e h =
    ap₂ {C = List ℕ} (λ (y : ℕ) (ys : List ℕ). y ∷ ys)
    (ap (λ (l : List ℕ). number_at place w (p ++ l)) (append_assoc (bytes_of w x) (fields_of w xs) q)
    ∙ number_seam p (fields_of w xs ++ q) place w x e h.0)
    (ap (λ (l : List ℕ). numbers_at (place + w) w (length xs) l) regroup
    ∙ numbers_seam xs (p ++ bytes_of w x) q (place + w) w (length-append p (bytes_of w x) ∙ rw (e, length-bytes_of w x)) h.1)
  where
    regroup : p ++ (bytes_of w x ++ fields_of w xs ++ q) ≡ p ++ bytes_of w x ++ (fields_of w xs ++ q)
    regroup = simp append_assoc

-- ---- read, then written

-- the number in bytes is below 2^(8 × their number)
pub value-bound : (l : List ℕ) → value_from 0 (bits l) < 2 ^ (8 * length l)
value-bound l = rw (← (length-bits l)) (value-lt (bits l))

pub number_lt : (place w : ℕ) (l : List ℕ) → place + w ≤ length l → number_at place w l < 2 ^ (8 * w)
unfolding number_at
number_lt place w l h =
    let e : length (take w (drop place l)) ≡ w = length-take-le w (drop place l) (rw (length-drop place l) (omega arith)) in
    rw e at (value-bound (take w (drop place l)))

-- what stands above changes no low byte
bytes-above : (w s x : ℕ) → bytes_of w (s * 2 ^ (8 * w) + x) ≡ bytes_of w x
unfolding bytes_of
bytes-above zero s x = refl
bytes-above (suc w) s x =
    ap₂ {C = List ℕ} (λ (b : ℕ) (l : List ℕ). b ∷ l)
    (ap (λ (y : ℕ). y / 2 ^ (8 * w) % 256) shift ∙ rw (mul-add-div_right (pow_pos (8 * w)) (s * 256) x) (mul-add-mod_self_right s 256 (x / 2 ^ (8 * w))))
    (ap (bytes_of w) shift ∙ bytes-above w (s * 256) x)
  where
    shift : s * 2 ^ (8 * suc w) + x ≡ s * 256 * 2 ^ (8 * w) + x
    shift = rw (pow-next w, mul_assoc s 256 (2 ^ (8 * w)))

pub bytes-value : (l : List ℕ) → Bytes l → bytes_of (length l) (value_from 0 (bits l)) ≡ l
unfolding bytes_of
bytes-value [] h = refl
bytes-value (b ∷ l) h =
    rw number (ap₂ {C = List ℕ} (λ (b : ℕ) (l : List ℕ). b ∷ l) first (bytes-above (length l) b (value_from 0 (bits l)) ∙ bytes-value l h.1))
  where
    number : value_from 0 (bits (b ∷ l)) ≡ b * 2 ^ (8 * length l) + value_from 0 (bits l)
    number =
        value-byte 0 b l
        ∙ ap (λ (x : ℕ). value_from x (bits l)) (zero-add (b % 256) ∙ mod-eq_of_lt h.0)
        ∙ rw (← (length-bits l)) (value-split b (bits l))

    first : (b * 2 ^ (8 * length l) + value_from 0 (bits l)) / 2 ^ (8 * length l) % 256 ≡ b
    first = ap (λ (x : ℕ). x % 256) (digits_div b (value-bound l)) ∙ mod-eq_of_lt h.0

-- a field that is read is written as the bytes that stand there
module _ (sheet : List ℕ) (h : Bytes sheet) where
  pub bytes-number : (place w : ℕ) → place + w ≤ length sheet → bytes_of w (number_at place w sheet) ≡ take w (drop place sheet)
  unfolding number_at
  bytes-number place w l =
      let e : length (take w (drop place sheet)) ≡ w = length-take-le w (drop place sheet) (rw (length-drop place sheet) (omega arith)) in
      rw e at (bytes-value (take w (drop place sheet)) (all_take (λ b. b < 256) w (drop place sheet) (all_drop (λ b. b < 256) place sheet h)))

  pub fields-numbers : (c place w : ℕ) → place + w * c ≤ length sheet → fields_of w (numbers_at place w c sheet) ≡ take (w * c) (drop place sheet)
  unfolding fields_of numbers_at
  fields-numbers zero place w l = rw (mul-zero w)
  fields-numbers (suc c) place w l =
      rw (bytes-number place w (omega (arith, mul-suc w c)), fields-numbers c (place + w) w (omega (arith, mul-suc w c)), mul-suc w c, add_comm (w * c) w)
      (sym (take-add w (w * c) (drop place sheet) ∙ ap (λ (l : List ℕ). take w (drop place sheet) ++ take (w * c) l) (drop-drop w place sheet)))

-- ---- one byte, and w behind it

pub bytes-first : (w b x : ℕ) → x < 2 ^ (8 * w) → bytes_of (suc w) (b * 2 ^ (8 * w) + x) ≡ bytes_of 1 b ++ bytes_of w x
unfolding bytes_of
bytes-first w b x l = ap₂ {C = List ℕ} (λ (y : ℕ) (ys : List ℕ). y ∷ ys) (ap (λ (y : ℕ). y % 256) (digits_div b l ∙ sym (div-one b))) (bytes-above w b x)

pub number-first : (place w : ℕ) (l : List ℕ) → place + suc w ≤ length l
    → number_at place (suc w) l ≡ number_at place 1 l * 2 ^ (8 * w) + number_at (place + 1) w l
unfolding number_at value_from bits
number-first place w l h =
    let b = get_or l place 0 in
    let r = take w (drop (suc place) l) in
    let long : length r ≡ w = length-take-le w (drop (suc place) l) (rw (length-drop (suc place) l) (omega arith)) in
    rw (drop-cons l place 0 (omega arith), add-one place)
    (value-byte 0 b r
    ∙ value-split (0 * 256 + b % 256) (bits r)
    ∙ ap₂ (λ (x n : ℕ). x * 2 ^ n + value_from 0 (bits r)) (sym (value-byte 0 b [])) (length-bits r ∙ ap (λ (n : ℕ). 8 * n) long))

-- ---- as the code goes

none-behind : (x : ℕ) → value_from x (bits []) ≡ x
unfolding value_from bits
none-behind x = refl

-- one byte more
pub value-more : (i : ℕ) (l : List ℕ) → i < length l → get_or l i 0 < 256
    → value_from 0 (bits (take (i + 1) l)) ≡ value_from 0 (bits (take i l)) * 256 + get_or l i 0
value-more i l h b =
    let x = value_from 0 (bits (take i l)) in
    let more = get_or l i 0 ∷ [] in
    ap (λ (q : List ℕ). value_from 0 (bits q)) (ap (λ (n : ℕ). take n l) (add-one i) ∙ take-suc l i 0 h)
    ∙ ap (value_from 0) (bits-append (take i l) more)
    ∙ value-append 0 (bits (take i l)) (bits more)
    ∙ value-byte x (get_or l i 0) []
    ∙ none-behind (x * 256 + get_or l i 0 % 256)
    ∙ ap (λ (y : ℕ). x * 256 + y) (mod-eq_of_lt b)

pub value-front-lt : (i : ℕ) (l : List ℕ) → i ≤ length l → value_from 0 (bits (take i l)) < 2 ^ (8 * i)
value-front-lt i l h = rw (length-take-le i l h) at (value-bound (take i l))

-- the last of the bytes that a number has
pub last-bytes : (k w x : ℕ) → drop k (bytes_of (k + w) x) ≡ bytes_of w x
unfolding bytes_of
last-bytes zero w x = ap (λ (n : ℕ). bytes_of n x) (zero-add w)
last-bytes (suc k) w x = ap (λ (n : ℕ). drop (suc k) (bytes_of n x)) (suc-add k w) ∙ last-bytes k w x

-- a part of a slice that bytes are copied to
pub put-bytes : (l vs : List ℕ) (a k : ℕ) → k ≡ length vs → a + k ≤ length l → put_mid a k l vs ≡ sets l a vs
put-bytes l vs a k e h =
    ap (λ (r : List ℕ). take a l ++ (vs ++ r)) (drop-drop k a l ∙ ap (λ (n : ℕ). drop (a + n) l) e)
    ∙ sym (append_assoc (take a l) vs (drop (a + length vs) l))
    ∙ sym (sets-eq vs l a (rw (← e) h))

pub numbers-next : (place w n : ℕ) (l : List ℕ) → 0 < n → numbers_at place w n l ≡ number_at place w l ∷ numbers_at (place + w) w (n - 1) l
unfolding numbers_at
numbers-next place w zero l h = absurd (omega arith)
numbers-next place w (suc n) l h = let e : suc n - 1 ≡ n = omega arith in rw e

pub numbers-done : (place w n : ℕ) (l : List ℕ) → n ≡ 0 → numbers_at place w n l ≡ []
unfolding numbers_at
numbers-done place w n l e = rw e

-- m fields, and n behind them
pub numbers-append : (place w m n : ℕ) (l : List ℕ) → numbers_at place w (m + n) l ≡ numbers_at place w m l ++ numbers_at (place + w * m) w n l
unfolding numbers_at
numbers-append place w zero n l =
    ap₂ (λ (p c : ℕ). numbers_at p w c l) (sym (rw (mul-zero w) (add-zero place))) (zero-add n)
numbers-append place w (suc m) n l =
    let e : place + w + w * m ≡ place + w * suc m = omega (arith, mul-suc w m) in
    ap (λ (c : ℕ). numbers_at place w c l) (suc-add m n)
    ∙ ap (λ (r : List ℕ). number_at place w l ∷ r)
    (numbers-append (place + w) w m n l ∙ ap (λ (p : ℕ). numbers_at (place + w) w m l ++ numbers_at p w n l) e)

pub numbers-last : (place w c : ℕ) (l : List ℕ) → numbers_at place w (c + 1) l ≡ numbers_at place w c l ++ number_at (place + w * c) w l ∷ []
unfolding numbers_at
numbers-last place w c l = numbers-append place w c 1 l

-- the fields of a part of the sheet
pub number-part : (p place w : ℕ) (l : List ℕ) → number_at place w (drop p l) ≡ number_at (p + place) w l
unfolding number_at
number-part p place w l = ap (λ (r : List ℕ). value_from 0 (bits (take w r))) (drop-drop place p l)

pub numbers-part : (p place w n : ℕ) (l : List ℕ) → numbers_at place w n (drop p l) ≡ numbers_at (p + place) w n l
unfolding numbers_at
numbers-part p place w zero l = refl
numbers-part p place w (suc n) l =
    ap₂ {C = List ℕ} (λ (x : ℕ) (xs : List ℕ). x ∷ xs) (number-part p place w l)
    (numbers-part p (place + w) w n l ∙ ap (λ (m : ℕ). numbers_at m w n l) (sym (add_assoc p place w)))

-- the part itself
pub numbers_of_part : (p w n : ℕ) (l : List ℕ) → numbers_at 0 w n (drop p l) ≡ numbers_at p w n l
numbers_of_part p w n l = numbers-part p 0 w n l ∙ ap (λ (q : ℕ). numbers_at q w n l) (add-zero p)

-- ---- stores behind each other

pub fields-append : (w : ℕ) (us vs : List ℕ) → fields_of w (us ++ vs) ≡ fields_of w us ++ fields_of w vs
unfolding fields_of
fields-append w [] vs = refl
fields-append w (u ∷ us) vs = ap (λ (l : List ℕ). bytes_of w u ++ l) (fields-append w us vs) ∙ sym
    (append_assoc (bytes_of w u) (fields_of w us) (fields_of w vs))

sets_append : (u v l : List ℕ) (i : ℕ) → sets (sets l i u) (i + length u) v ≡ sets l i (u ++ v)
sets_append [] v l i = ap (λ (n : ℕ). sets l n v) (add-zero i)
sets_append (a ∷ u) v l i =
    ap (λ (n : ℕ). sets (sets (set l i a) (suc i) u) n v) (add-suc i (length u) ∙ sym (suc-add i (length u))) ∙ sets_append u v (set l i a) (suc i)

pub sets_behind : (u v l : List ℕ) (i j : ℕ) → j ≡ i + length u → sets (sets l i u) j v ≡ sets l i (u ++ v)
sets_behind u v l i j e = ap (λ (n : ℕ). sets (sets l i u) n v) e ∙ sets_append u v l i

-- a whole sheet at the front
pub sets_front : (u l : List ℕ) (n : ℕ) → length u ≡ n → n ≤ length l → sets l 0 u ≡ u ++ drop n l
sets_front u l n e h = sets-eq u l 0 (rw (zero-add, e) h) ∙ ap (λ (m : ℕ). u ++ drop m l) (zero-add (length u) ∙ e)

pub fields-behind : (w f : ℕ) (fs l : List ℕ) (i : ℕ) → sets (sets l i (bytes_of w f)) (i + w) (fields_of w fs) ≡ sets l i (fields_of w (f ∷ fs))
unfolding fields_of
fields-behind w f fs l i = sets_behind (bytes_of w f) (fields_of w fs) l i (i + w) (ap (λ (n : ℕ). i + n) (sym (length-bytes_of w f)))

-- the fields in front of the fingerprints: one store more
pub store_field : (ws xs : List ℕ) (w x place : ℕ) (l l' after : List ℕ) → l' ≡ sets l place (bytes_of w x) → after ≡ sets l' (place + w) (bytes_in ws xs)
    → after ≡ sets l place (bytes_in (w ∷ ws) (x ∷ xs))
unfolding bytes_in zip_with flatten
store_field ws xs w x place l l' after e d =
    d
    ∙ ap (λ (b : List ℕ). sets b (place + w) (bytes_in ws xs)) e
    ∙ sets_behind (bytes_of w x) (bytes_in ws xs) l place (place + w) (ap (λ (n : ℕ). place + n) (sym (length-bytes_of w x)))

pub store_none : (xs : List ℕ) (place : ℕ) (l : List ℕ) → l ≡ sets l place (bytes_in [] xs)
unfolding bytes_in zip_with flatten
store_none xs place l = refl

-- one of the numbers
pub numbers-one : (c place w i : ℕ) (l : List ℕ) → i < c → get_or (numbers_at place w c l) i 0 ≡ number_at (place + w * i) w l
unfolding numbers_at
numbers-one zero place w i l h = absurd (omega arith)
numbers-one (suc c) place w zero l h = ap (λ (n : ℕ). number_at n w l) (sym (rw (mul-zero w) (add-zero place)))
numbers-one (suc c) place w (suc i) l h =
    numbers-one c (place + w) w i l (omega arith) ∙ ap (λ (n : ℕ). number_at n w l) (omega (arith, mul-suc w i))

-- fields that were stored, read back
pub numbers-stored : (us vs b : List ℕ) (place w : ℕ) → place + w * length (us ++ vs) ≤ length b → All (λ u. u < 2 ^ (8 * w)) us
    → numbers_at place w (length us) (sets b place (fields_of w (us ++ vs))) ≡ us
numbers-stored us vs b place w h small =
    let long : length (fields_of w (us ++ vs)) ≡ w * length (us ++ vs) = length-fields_of w (us ++ vs) in
    let rest = drop (place + length (fields_of w (us ++ vs))) b in
    ap (numbers_at place w (length us))
    (sets-eq (fields_of w (us ++ vs)) b place (omega arith)
    ∙ append_assoc (take place b) (fields_of w (us ++ vs)) rest
    ∙ ap (λ (l : List ℕ). take place b ++ l) (ap (λ (l : List ℕ). l ++ rest) (fields-append w us vs) ∙ append_assoc (fields_of w us) (fields_of w vs) rest))
    ∙ numbers_seam us (take place b) (fields_of w vs ++ rest) place w (length-take-le place b (omega arith)) small
