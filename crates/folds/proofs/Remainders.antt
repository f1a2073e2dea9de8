-- Laws of the start, which is a block of its own, and of the words that are left, which become a string of bytes.
use mathlib.Core.Path.{◌≡◌, refl, sym, ap, ap₂, ◌∙◌}
use mathlib.Core.List.{List, [], ◌∷◌}
use Prim.Native.Nat.{ℕ, zero, suc, ◌+◌, ◌*◌, ◌/◌, ◌%◌, ◌^◌, ◌≤◌, ◌<◌}
use native.Mathlib.Nat.{add-zero}
use native.Mathlib.Omega.{arith}
use lib.ListN.{length, get_or, set, take, drop, replicate, length-set}
use lib.Seq.{drop-drop, take-set-le, drop-set-lt, get_or-drop, get_or-take, get_or-set_same}
use Rattle.std.specs.Int.{w64, to_be_bytes}
use Rattle.gf2.specs.Polynomials.{◌⊕◌}
use Rattle.gf2.proofs.Sums.{⊕_shl, ⊕-lt, ⊕_swap, xor}
use Rattle.files.specs.Files.{bits, value_from}
use Rattle.files.proofs.Values.{value-byte}
use Rattle.fold_blocks.specs.Folds.{front, folded}
use Rattle.fold_blocks.proofs.Folding.{Bytes, front-next, front_same}

-- ---- the first bytes added to others: n bytes from place `at` on, i of them done

get_d_behind : (p q : List ℕ) (i : ℕ) → drop i p ≡ drop i q → get_or p i 0 ≡ get_or q i 0
get_d_behind p q i e =
    ap (λ (j : ℕ). get_or p j 0) (sym (add-zero i)) ∙ sym (get_or-drop i p 0 0) ∙ ap (λ (r : List ℕ). get_or r 0 0) e ∙ get_or-drop i q 0 0
    ∙ ap (λ (j : ℕ). get_or q j 0) (add-zero i)

module _ (q₀ q : List ℕ) (b : Bytes q) (at n i : ℕ) (few : n ≤ at) (l : i < n) (len : length q ≡ length q₀) (h : at + n ≤ length q₀)
    (before_at : take at q ≡ take at q₀) (behind : drop (at + i) q ≡ drop (at + i) q₀) where
  abbrev here : ℕ
  here = get_or q₀ (at + i) 0 ⊕ get_or q₀ i 0

  same_here : get_or q (at + i) 0 ≡ get_or q₀ (at + i) 0
  same_here = get_d_behind q q₀ (at + i) behind

  same_first : get_or q i 0 ≡ get_or q₀ i 0
  same_first = sym (get_or-take at q i 0 (omega arith)) ∙ ap (λ (r : List ℕ). get_or r i 0) before_at ∙ get_or-take at q₀ i 0 (omega arith)

  here_lt : get_or q₀ (at + i) 0 < 256
  here_lt = rw same_here at (b (at + i))

  first-lt : get_or q₀ i 0 < 256
  first-lt = rw same_first at (b i)

  sum-here : get_or q (at + i) 0 ⊕ get_or q i 0 ≡ here
  sum-here = ap₂ (λ (x y : ℕ). x ⊕ y) same_here same_first

  pub added-before : take at (set q (at + i) (get_or q (at + i) 0 ⊕ get_or q i 0)) ≡ take at q₀
  added-before = take-set-le at q (at + i) (get_or q (at + i) 0 ⊕ get_or q i 0) (omega arith) ∙ before_at

  pub added-behind : drop (at + (i + 1)) (set q (at + i) (get_or q (at + i) 0 ⊕ get_or q i 0)) ≡ drop (at + (i + 1)) q₀
  added-behind =
      drop-set-lt (at + (i + 1)) q (at + i) (get_or q (at + i) 0 ⊕ get_or q i 0) (omega arith)
      ∙ drop-one-more q
      ∙ ap (drop 1) behind
      ∙ sym (drop-one-more q₀)
    where
      drop-one-more : (r : List ℕ) → drop (at + (i + 1)) r ≡ drop 1 (drop (at + i) r)
      drop-one-more r = let e : at + (i + 1) ≡ at + i + 1 = omega arith in ap (λ (j : ℕ). drop j r) e ∙ sym (drop-drop 1 (at + i) r)

  pub added_next : front q (at + i) ≡ front q₀ (at + i) ⊕ front q₀ i
      → front (set q (at + i) (get_or q (at + i) 0 ⊕ get_or q i 0)) (at + (i + 1)) ≡ front q₀ (at + (i + 1)) ⊕ front q₀ (i + 1)
  added_next inv =
      let x = get_or q (at + i) 0 ⊕ get_or q i 0 in
      let e : at + (i + 1) ≡ at + i + 1 = omega arith in
      let small : x < 256 = rw sum-here (⊕-lt 8 (get_or q₀ (at + i) 0) (get_or q₀ i 0) here_lt first-lt) in
      let inside : at + i < length q = omega arith in
      ap (front (set q (at + i) x)) e
      ∙ front-next (set q (at + i) x) (at + i) (rw length-set inside) (rw (get_or-set_same q (at + i) x 0 inside) small)
      ∙ ap₂ (λ (u v : ℕ). u * 2 ^ 8 ⊕ v)
      (front_same (set q (at + i) x) q (at + i) (at + i) (omega arith) (take-set-le (at + i) q (at + i) x (omega arith)) ∙ inv)
      (get_or-set_same q (at + i) x 0 inside ∙ sum-here)
      ∙ ap (λ (u : ℕ). u ⊕ here) (⊕_shl 8 (front q₀ (at + i)) (front q₀ i))
      ∙ ⊕_swap (front q₀ (at + i) * 2 ^ 8) (front q₀ i * 2 ^ 8) (get_or q₀ (at + i) 0) (get_or q₀ i 0)
      ∙ ap₂ (λ (u v : ℕ). u ⊕ v)
      (sym (front-next q₀ (at + i) (omega arith) here_lt) ∙ ap (front q₀) (sym e))
      (sym (front-next q₀ i (omega arith) first-lt))

-- ---- the start

-- the bytes of f from t^n on are those from t^m on and one more
push : (f n m : ℕ) (file : List ℕ) → f / n / 256 ≡ f / m → value_from (f / m) (bits (f / n % 256 ∷ file)) ≡ value_from (f / n) (bits file)
push f n m file e =
    value-byte (f / m) (f / n % 256) file ∙ ap (λ (y : ℕ). value_from y (bits file)) (omega arith)

none : (f : ℕ) → value_from f (bits []) ≡ f
unfolding bits value_from
none f = refl

-- the eight bytes of a number, the highest first
pub value-digits : (f : ℕ) → f < 2 ^ 64 → value_from 0 (bits (to_be_bytes w64 f)) ≡ f
value-digits f small =
    ap (λ (x : ℕ). value_from x (bits (to_be_bytes w64 f))) zero-left
    ∙ push f 72057594037927936 18446744073709551616 _ (omega arith)
    ∙ push f 281474976710656 72057594037927936 _ (omega arith)
    ∙ push f 1099511627776 281474976710656 _ (omega arith)
    ∙ push f 4294967296 1099511627776 _ (omega arith)
    ∙ push f 16777216 4294967296 _ (omega arith)
    ∙ push f 65536 16777216 _ (omega arith)
    ∙ push f 256 65536 _ (omega arith)
    ∙ last
    ∙ none f
  where
    zero-left : 0 ≡ f / 18446744073709551616
    zero-left = omega arith

    last : value_from (f / 256) (bits (f % 256 ∷ [])) ≡ value_from f (bits [])
    last = value-byte (f / 256) (f % 256) [] ∙ ap (λ (y : ℕ). value_from y (bits [])) (omega arith)

front-zeros : (n k : ℕ) → front (replicate n 0) k ≡ 0
unfolding front bits value_from
front-zeros n zero = refl
front-zeros zero (suc k) = refl
front-zeros (suc n) (suc k) = value-byte 0 0 (take k (replicate n 0)) ∙ front-zeros n k

-- at first the bytes stand for nothing
pub folded-zeros : (es : List ℕ) (s n : ℕ) → folded es s (replicate n 0) 0 ≡ 0
unfolding folded
folded-zeros [] s n = refl
folded-zeros (e ∷ es) s n = rw (front-zeros n (0 + e * s), folded-zeros es s n) (simp xor)
