-- The odd part of a word is 0 where the word is a square; the word folded is 0 where it is l² ⊕ l for some l.
use mathlib.Core.Path.{◌≡◌, refl, sym, ap, ap₂, ◌∙◌}
use Prim.Native.Nat.{ℕ, zero, suc, ◌+◌, ◌-◌, ◌*◌, ◌/◌, ◌%◌, ◌^◌, ◌<◌}
use native.Mathlib.Nat.{mul_comm, pow-suc, lt_of_lt_of_le}
use native.Mathlib.Omega.{arith}
use lib.Arith.{lt-one}
use lib.Bits.{bit_and}
use lib.Dec.{lit≤}
use lib.Pow.{pow_pos, pow_mono, shr_lt}
use Rattle.gf2.specs.Polynomials.{◌⊕◌, ◌⊗◌, long_product}
use Rattle.gf2.proofs.Sums.{⊕-zero, ⊕_assoc, ⊕_self, ⊕_shr, ⊕-low, ⊕-lt, ⊕-eq, ⊕-half, bits-eq, xor}
use Rattle.gf2.proofs.Products.{mod_2, ring}
use Rattle.irreducibility.specs.Squares.{even_root, odd_part, folded}
use Rattle.gf2.proofs.Linear.{Additive, at_zero, same, none, after, both, shifted, masked, squared, equal}

-- ---- the root

root-half : (n x : ℕ) → even_root (suc n) x / 2 ≡ even_root n (x / 4)
unfolding even_root
root-half n x = omega (arith, mod_2 x)

root-low : (n x : ℕ) → even_root (suc n) x % 2 ≡ x % 2
unfolding even_root
root-low n x = omega (arith, mod_2 x)

root-sum-low : (n a b : ℕ) → even_root (suc n) (a ⊕ b) % 2 ≡ (even_root (suc n) a ⊕ even_root (suc n) b) % 2
root-sum-low n a b =
    root-low n (a ⊕ b) ∙ ⊕-low a b
    ∙ omega (arith, root-low n a, root-low n b, ⊕-low (even_root (suc n) a) (even_root (suc n) b))

root-sum : (n a b : ℕ) → even_root n (a ⊕ b) ≡ even_root n a ⊕ even_root n b
unfolding even_root
root-sum zero a b = sym (⊕_self 0)
root-sum (suc n) a b = bits-eq (half (root-sum n (a / 4) (b / 4))) (root-sum-low n a b)
  where
    half : even_root n (a / 4 ⊕ b / 4) ≡ even_root n (a / 4) ⊕ even_root n (b / 4)
        → even_root (suc n) (a ⊕ b) / 2 ≡ (even_root (suc n) a ⊕ even_root (suc n) b) / 2
    half e =
        root-half n (a ⊕ b) ∙ ap (even_root n) (⊕_shr 2 a b) ∙ e
        ∙ sym (⊕-half (even_root (suc n) a) (even_root (suc n) b) ∙ ap₂ (λ (x y : ℕ). x ⊕ y) (root-half n a) (root-half n b))

pub root-additive : (n : ℕ) → Additive (even_root n)
root-additive n = record { sum = root-sum n }

pub root-lt : (n m x : ℕ) → x < 2 ^ (2 * m) → even_root n x < 2 ^ m
unfolding even_root
root-lt zero m x l = pow_pos m
root-lt (suc n) zero x l =
    let z : x / 4 ≡ 0 = omega (arith, lt-one l) in
    omega (arith, lt-one l, ap (even_root n) z ∙ at_zero (root-additive n))
root-lt (suc n) (suc m) x l =
    let e : 2 * suc m ≡ 2 * m + 2 = omega arith in
    rw pow-suc (omega (arith, mod_2 x, root-lt n m (x / 4) (shr_lt (2 * m) 2 (rw e at l))))

-- ---- the masks of the code

-- two groups of bits are closed up to one
abbrev pub close : ℕ → ℕ → ℕ → ℕ
close s m x = bit_and (x ⊕ x / 2 ^ s) m

close-additive : (s m : ℕ) → Additive (close s m)
close-additive s m = after (masked m) (both same (shifted s))

abbrev pub closed : ℕ → ℕ
closed x =
    close 16 0xFFFFFFFF (close 8 0xFFFF0000FFFF (close 4 0xFF00FF00FF00FF
    (close 2 0xF0F0F0F0F0F0F0F (close 1 0x3333333333333333 (bit_and x 0x5555555555555555)))))

pub closed-root : (x : ℕ) → x < 2 ^ 64 → closed x ≡ even_root 32 x
unfolding ◌⊕◌ even_root
closed-root =
    equal
    (after (close-additive 16 0xFFFFFFFF)
    (after (close-additive 8 0xFFFF0000FFFF)
    (after (close-additive 4 0xFF00FF00FF00FF)
    (after (close-additive 2 0xF0F0F0F0F0F0F0F) (after (close-additive 1 0x3333333333333333) (masked 0x5555555555555555))))))
    (root-additive 32)
    64
    tt

-- ---- the odd part

odd-additive : Additive odd_part
unfolding odd_part
odd-additive = masked 0xAAAAAAAAAAAAAAAA

odd_is : (x : ℕ) → x < 2 ^ 64 → odd_part x ≡ x ⊕ even_root 32 x ⊗ even_root 32 x
unfolding odd_part even_root ◌⊕◌ ◌⊗◌ long_product
odd_is = equal odd-additive (both same (after squared (root-additive 32))) 64 tt

odd-square : (l : ℕ) → l < 2 ^ 32 → odd_part (l ⊗ l) ≡ 0
unfolding odd_part ◌⊕◌ ◌⊗◌ long_product
odd-square = equal (after odd-additive squared) none 32 tt

root-square : (l : ℕ) → l < 2 ^ 32 → even_root 32 (l ⊗ l) ≡ l
unfolding even_root ◌⊕◌ ◌⊗◌ long_product
root-square = equal (after (root-additive 32) squared) same 32 tt

-- ---- folding

fold-additive : (n : ℕ) → Additive (folded n)
unfolding folded
fold-additive zero = same
fold-additive (suc n) = both odd-additive (after (fold-additive n) (root-additive 32))

-- one step, as the code counts
pub fold_next : (n x s : ℕ) → 0 < n → s ⊕ folded n x ≡ s ⊕ odd_part x ⊕ folded (n - 1) (even_root 32 x)
unfolding folded
fold_next zero x s h = absurd (omega arith)
fold_next (suc n) x s h = let e : suc n - 1 ≡ n = omega arith in rw e (sym (⊕_assoc s (odd_part x) (folded n (even_root 32 x))))

pub fold_done : (x : ℕ) → folded 0 x ≡ x
unfolding folded
fold_done x = refl

-- folding takes l² ⊕ l off, with this l
lower : ℕ → ℕ → ℕ
lower zero x = 0
lower (suc n) x = even_root 32 x ⊕ lower n (even_root 32 x)

fold_is : (n x : ℕ) → x < 2 ^ 64 → folded n x ≡ x ⊕ (lower n x ⊗ lower n x ⊕ lower n x)
unfolding folded lower
fold_is zero x l = simp ring
fold_is (suc n) x l =
    ap₂ (λ (a b : ℕ). a ⊕ b) (odd_is x l) (fold_is n (even_root 32 x) (lt_of_lt_of_le (root-lt 32 32 x l) (pow_mono {i = 32} {j = 64} (lit≤ tt))))
    ∙ expand x (even_root 32 x) (lower n (even_root 32 x))
  where
    expand : (x r m : ℕ) → x ⊕ r ⊗ r ⊕ (r ⊕ (m ⊗ m ⊕ m)) ≡ x ⊕ ((r ⊕ m) ⊗ (r ⊕ m) ⊕ (r ⊕ m))
    expand x r m = simp ring

lower-lt : (n h x : ℕ) → x < 2 ^ (2 * h) → lower n x < 2 ^ h
unfolding lower
lower-lt zero h x l = pow_pos h
lower-lt (suc n) h x l =
    let r = root-lt 32 h x l in
    ⊕-lt h (even_root 32 x) (lower n (even_root 32 x)) r (lower-lt n h (even_root 32 x) (lt_of_lt_of_le r (pow_mono (omega arith))))

bit-stays : (x : ℕ) → x < 2 → odd_part x ⊕ even_root 32 x ≡ x
unfolding odd_part even_root ◌⊕◌
bit-stays = equal (both odd-additive (root-additive 32)) same 1 tt

-- once a number below 2 is reached, nothing more moves
stable : (n x : ℕ) → x < 2 ^ 2 ^ n → folded (suc n) x ≡ folded n x
unfolding folded
stable zero x l = bit-stays x l
stable (suc n) x l = ap (λ (y : ℕ). odd_part x ⊕ y) (stable n (even_root 32 x) (root-lt 32 (2 ^ n) x (rw (mul_comm, ← pow-suc) l)))

-- ---- where each is 0

-- r is additive, and 0 at the words l² ⊕ δ l and at no others
pub record Kernel (δ r : ℕ → ℕ) : Type 0 where
  pub δ-additive : Additive δ
  pub δ-lt : (k x : ℕ) → x < 2 ^ k → δ x < 2 ^ k
  pub additive : Additive r
  pub zero-at : (l : ℕ) → l < 2 ^ 32 → r (l ⊗ l ⊕ δ l) ≡ 0
  pub only_at : (x h : ℕ) → x < 2 ^ 64 → x < 2 ^ (2 * h) → r x ≡ 0 → (l : ℕ) × (l < 2 ^ h) × (x ≡ l ⊗ l ⊕ δ l)

pub odd_kernel : Kernel (λ x. 0) odd_part
odd_kernel =
    record {
      δ-additive = none;
      δ-lt = λ k x l. pow_pos k;
      additive = odd-additive;
      zero-at = λ l m. ap odd_part (⊕-zero (l ⊗ l)) ∙ odd-square l m;
      only_at = λ x h w l e. (
        even_root 32 x,
        root-lt 32 h x l,
        ⊕-eq x (even_root 32 x ⊗ even_root 32 x) (sym (odd_is x w) ∙ e)
            ∙ sym (⊕-zero (even_root 32 x ⊗ even_root 32 x)),
      );
    }

fold-zero : (l : ℕ) → l < 2 ^ 32 → folded 6 (l ⊗ l ⊕ l) ≡ 0
unfolding folded
fold-zero l m =
    ap₂ (λ (a b : ℕ). a ⊕ b)
    (odd-additive.sum (l ⊗ l) l ∙ ap (λ (a : ℕ). a ⊕ odd_part l) (odd-square l m))
    (ap (folded 5) ((root-additive 32).sum (l ⊗ l) l ∙ ap (λ (a : ℕ). a ⊕ even_root 32 l) (root-square l m)) ∙ (fold-additive 5).sum l (even_root 32 l))
    ∙ rearrange (odd_part l) (folded 5 l) (folded 5 (even_root 32 l)) (stable 5 l m)
  where
    rearrange : (a b c : ℕ) → a ⊕ c ≡ b → 0 ⊕ a ⊕ (b ⊕ c) ≡ 0
    rearrange a b c e = rw (← e) (simp xor)

pub fold_kernel : Kernel (λ x. x) (folded 6)
fold_kernel =
    record {
      δ-additive = same;
      δ-lt = λ k x l. l;
      additive = fold-additive 6;
      zero-at = fold-zero;
      only_at = λ x h w l e. (lower 6 x, lower-lt 6 h x l, ⊕-eq x (lower 6 x ⊗ lower 6 x ⊕ lower 6 x) (sym (fold_is 6 x w) ∙ e));
    }
