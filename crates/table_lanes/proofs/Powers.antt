-- Laws of squares and products by look-ups.
use mathlib.Core.Path.{◌≡◌, refl, sym, ap, ap₂, ◌∙◌}
use mathlib.Core.List.{List}
use Prim.Native.Nat.{ℕ, zero, suc, ◌+◌, ◌-◌, ◌*◌, ◌/◌, ◌%◌, ◌^◌, ◌≤◌, ◌<◌}
use native.Mathlib.Nat.{lt_of_lt_of_le, add-zero, mod-lt, mul-suc, pow-succ', div-one, div-eq_of_lt}
use native.Mathlib.Decide.{dec_lt}
use native.Mathlib.Omega.{arith}
use lib.ListN.{length, get_or}
use lib.Pow.{pow-add, pow_pos, pow_mono, shr_lt, shr-shr, split}
use Rattle.std.specs.Int.{byte_at, bytes_high_first}
use Rattle.gf2.specs.Polynomials.{◌⊕◌, ◌⊗◌, rem}
use Rattle.gf2.specs.Moduli.{polynomial, Proper}
use Rattle.gf2.specs.declared.Modulus.{Modulus}
use Rattle.gf2.proofs.Sums.{⊕-append, ⊕_assoc, ⊕-zero}
use Rattle.gf2.proofs.Products.{zero-⊗, ⊗_comm, ⊗_shl, ⊕-⊗}
use Rattle.gf2.proofs.Squares.{square-append}
use Rattle.gf2.proofs.Degrees.{⊗-lt}
use Rattle.gf2.proofs.Residues.{rem-⊕}
use Rattle.gf2.proofs.Powers.{rem_shl, rem-behind}
use Rattle.gf2.proofs.Monics.{monic-pos}
use Rattle.gf2.proofs.Steps.{residue-small}
use Rattle.multiples.specs.Rows.{Rows}
use Rattle.multiples.proofs.Following.{first-multiple}
use Rattle.lookups.specs.Groups.{looked}
use Rattle.table_lanes.specs.Lanes.{TwoRows, behind}

-- ---- a square by halves

-- the square of the high half is below the degree
pub high-below : (k x : ℕ) → k ≤ 64 → x < 2 ^ k → x / 2 ^ 32 ⊗ (x / 2 ^ 32) < 2 ^ k
high-below k x w l = go (dec_lt k 32)
  where
    go : Dec (k < 32) → x / 2 ^ 32 ⊗ (x / 2 ^ 32) < 2 ^ k
    go (yes h) =
        let z : x / 2 ^ 32 ≡ 0 = div-eq_of_lt (lt_of_lt_of_le l (pow_mono {i = k} {j = 32} (omega arith))) in
        rw (z, zero-⊗) (pow_pos k)
    go (no h) =
        let e : k ≡ (k - 32) + 32 = omega arith in
        let b : x / 2 ^ 32 < 2 ^ (k - 32) = shr_lt (k - 32) 32 (rw e at l) in
        lt_of_lt_of_le
        (⊗-lt (x / 2 ^ 32) (x / 2 ^ 32) (k - 32) (k - 32) b (lt_of_lt_of_le b (pow_mono {i = k - 32} {j = suc (k - 32)} (omega arith))))
        (pow_mono (omega arith))

-- the low half four bytes at a time behind the high one
pub square-halves : {p : ℕ} (pos : 0 < p) (x low : ℕ) → low ≡ x % 2 ^ 32 ⊗ (x % 2 ^ 32)
    → rem p (rem p (x / 2 ^ 32 ⊗ (x / 2 ^ 32) * 2 ^ 32 + low / 2 ^ 32) * 2 ^ 32 + low % 2 ^ 32) ≡ rem p (x ⊗ x)
square-halves {p} pos x low e =
    let high = x / 2 ^ 32 ⊗ (x / 2 ^ 32) in
    let half = mod-lt x (pow_pos 32) in
    rem-behind pos (high * 2 ^ 32 + low / 2 ^ 32) 32 (low % 2 ^ 32) (mod-lt low (pow_pos 32))
    ∙ ap (rem p)
    (together high low
    ∙ sym (⊕-append high 64 low (rw e (⊗-lt (x % 2 ^ 32) (x % 2 ^ 32) 32 32 half (omega (arith, half)))))
    ∙ ap (λ (y : ℕ). high * 2 ^ 64 ⊕ y) e
    ∙ sym (square-append (x / 2 ^ 32) 32 (x % 2 ^ 32) half)
    ∙ ap (λ (y : ℕ). y ⊗ y) (split x 32))
  where
    together : (h y : ℕ) → (h * 2 ^ 32 + y / 2 ^ 32) * 2 ^ 32 + y % 2 ^ 32 ≡ h * 2 ^ 64 + y
    together h y = omega arith

-- ---- a product by the bytes of one factor from the highest: one byte more

pub product-byte : {p : ℕ} (pos : 0 < p) (x t i y z : ℕ) → 8 ≤ i → y ≡ rem p (x / 2 ^ i ⊗ t)
    → z ≡ rem p (x / 2 ^ (i - 8) % 256 ⊗ t)
    → rem p (y * 2 ^ 8 + 0) ⊕ z ≡ rem p (x / 2 ^ (i - 8) ⊗ t)
product-byte {p} pos x t i y z l ey ez =
    ap₂ (λ (a b : ℕ). rem p a ⊕ b) (add-zero (y * 2 ^ 8) ∙ ap (λ (a : ℕ). a * 2 ^ 8) ey) ez
    ∙ ap (λ (a : ℕ). a ⊕ rem p (h % 2 ^ 8 ⊗ t)) (rem_shl pos (x / 2 ^ i ⊗ t) 8 ∙ ap (rem p) shifted)
    ∙ sym (rem-⊕ pos (h / 2 ^ 8 * 2 ^ 8 ⊗ t) (h % 2 ^ 8 ⊗ t))
    ∙ ap (rem p)
    (sym (⊕-⊗ (h / 2 ^ 8 * 2 ^ 8) (h % 2 ^ 8) t)
    ∙ ap (λ (a : ℕ). a ⊗ t) (⊕-append (h / 2 ^ 8) 8 (h % 2 ^ 8) (mod-lt h (pow_pos 8)) ∙ split h 8))
  where
    h : ℕ
    h = x / 2 ^ (i - 8)

    above : x / 2 ^ i ≡ h / 2 ^ 8
    above = let e : i ≡ (i - 8) + 8 = omega arith in ap (λ (n : ℕ). x / 2 ^ n) e ∙ sym (shr-shr x (i - 8) 8)

    shifted : x / 2 ^ i ⊗ t * 2 ^ 8 ≡ h / 2 ^ 8 * 2 ^ 8 ⊗ t
    shifted =
        ap (λ (a : ℕ). a ⊗ t * 2 ^ 8) above
        ∙ ap (λ (a : ℕ). a * 2 ^ 8) (⊗_comm (h / 2 ^ 8) t)
        ∙ sym (⊗_shl 8 t (h / 2 ^ 8))
        ∙ ⊗_comm t (h / 2 ^ 8 * 2 ^ 8)

-- the words of the two halves of a byte, as the code adds them
pub look_halves : (rows : List ℕ) (f b : ℕ) → b < 256 → f ⊕ get_or rows (b % 16) 0 ⊕ get_or rows (16 + b / 16) 0 ≡ f ⊕ looked 4 rows 2 0 b
unfolding looked
look_halves rows f b l =
    let e : b / 16 % 16 ≡ b / 16 = omega arith in
    let z : 0 * 16 + b % 16 ≡ b % 16 = omega arith in
    rw (z, e, ⊕-zero) (⊕_assoc f (get_or rows (b % 16) 0) (get_or rows (16 + b / 16) 0))

-- byte i of k, the highest first, is what stands from its place on
bytes-pow : (k : ℕ) → 256 ^ k ≡ 2 ^ (8 * k)
bytes-pow zero = refl
bytes-pow (suc k) =
    let e : 8 * suc k ≡ 8 + 8 * k = omega (arith, mul-suc 8 k) in
    pow-succ' 256 k ∙ ap (λ (m : ℕ). 256 * m) (bytes-pow k) ∙ sym (ap (λ (n : ℕ). 2 ^ n) e ∙ pow-add 2 8 (8 * k))

low-byte : (k n : ℕ) → byte_at k n ≡ n / 2 ^ (8 * k) % 256
low-byte zero n = ap (λ (m : ℕ). m % 256) (sym (div-one n))
low-byte (suc k) n = ap (λ (m : ℕ). n / m % 256) (bytes-pow (suc k))

pub high-byte : (k n i : ℕ) → i < k → get_or (bytes_high_first k n) i 0 ≡ n / 2 ^ (8 * k - 8 * i - 8) % 256
high-byte zero n i l = absurd (omega arith)
high-byte (suc k) n zero l = low-byte k n ∙ ap (λ (m : ℕ). n / 2 ^ m % 256) (omega (arith, mul-suc 8 k))
high-byte (suc k) n (suc i) l = high-byte k n i (omega arith) ∙ ap (λ (m : ℕ). n / 2 ^ m % 256) (omega (arith, mul-suc 8 k, mul-suc 8 i))

-- ---- lanes joined by two rows of multiples

-- word 1 of the rows that were made is the factor
pub two-rows : (p : Modulus) → Proper p → (t : ℕ) → t < 2 ^ p.degree → (rows : List ℕ) → length rows ≡ 32 → Rows 4 (polynomial p) t 2 rows
    → (get_or rows 1 0 ≡ t) × TwoRows p rows
two-rows p proper t l rows long made =
    let pos = monic-pos p.degree p.low proper.2 in
    let e = first-multiple pos 4 t 2 rows (omega arith) (omega arith) made ∙ residue-small p.degree p.low proper.2 t l in
    (e, (long, rw e made))

pub joined : (p : Modulus) (t w a b c d x y z : ℕ) → w ≡ t → x ≡ rem (polynomial p) (a ⊗ w) → y ≡ rem (polynomial p) ((x ⊕ b) ⊗ w)
    → z ≡ rem (polynomial p) ((y ⊕ c) ⊗ w)
    → z ⊕ d ≡ behind p t (behind p t (behind p t a b) c) d
joined p t w a b c d x y z ew ex ey ez = rw (ez, ey, ex, ew)
