-- The cut: what stands at t^k and above in a number is cut into groups of w bits, and each group is replaced by its word of the table.
-- For every degree and every width of group.
use mathlib.Core.Path.{◌≡◌, refl, sym, ap, ap₂, ◌∙◌}
use mathlib.Core.List.{List}
use Prim.Native.Nat.{ℕ, zero, suc, ◌+◌, ◌-◌, ◌*◌, ◌/◌, ◌%◌, ◌^◌, ◌≤◌, ◌<◌}
use native.Mathlib.Nat.{lt_of_lt_of_le, zero-add, add_comm, mul_comm, mod-eq_of_lt, mul-zero, mul-one, mul-suc, mod-lt}
use native.Mathlib.Omega.{arith}
use lib.Arith.{lt-one, digits_lt}
use lib.ListN.{get_or}
use lib.Pow.{pow_pos, pow_mono, pow-add, shr_lt, shr-shr, split, high, low, mod-pow-add, mod-mod-pow, field, shl-shr}
use Rattle.gf2.specs.Polynomials.{◌⊕◌, ◌⊗◌, rem}
use Rattle.gf2.specs.Moduli.{polynomial, Proper}
use Rattle.gf2.specs.declared.Modulus.{Modulus}
use Rattle.gf2.proofs.Sums.{⊕-append, ⊕_comm, ⊕_assoc, ⊕-zero, ⊕-mod}
use Rattle.gf2.proofs.Products.{zero-⊗, ⊗_comm, ⊗_shl, ⊗-pow, ⊕-⊗}
use Rattle.gf2.proofs.Powers.{rem-⊗-right}
use Rattle.gf2.proofs.Residues.{rem-zero, rem-⊕}
use Rattle.gf2.proofs.Monics.{monic-pos}
use Rattle.gf2.proofs.Steps.{residue-lt, residue-small}
use Rattle.multiples.specs.Rows.{Rows}
use Rattle.lookups.specs.Groups.{looked}

-- what stands at t^(n + j) and above in a number with n new low digits, and what stands below
module _ (f v n j : ℕ) (h : v < 2 ^ n) where
  pub above : (f * 2 ^ n + v) / 2 ^ (n + j) ≡ f / 2 ^ j
  above = sym (shr-shr (f * 2 ^ n + v) n j) ∙ ap (λ (x : ℕ). x / 2 ^ j) (high f n h)

  pub below : (f * 2 ^ n + v) % 2 ^ (n + j) ≡ f % 2 ^ j * 2 ^ n + v
  below =
      ap (λ (m : ℕ). (f * 2 ^ n + v) % 2 ^ m) (add_comm n j)
      ∙ mod-pow-add (f * 2 ^ n + v) j n
      ∙ ap₂ (λ (x y : ℕ). x % 2 ^ j * 2 ^ n + y) (high f n h) (low f n h)

-- of n new low digits behind the n lowest of x: what stands below t^(n + j), where j is no more than n
kept : (x v n j : ℕ) → v < 2 ^ n → j ≤ n → (x % 2 ^ n * 2 ^ n + v) % 2 ^ (n + j) ≡ x % 2 ^ j * 2 ^ n + v
kept x v n j h l =
    let e : n ≡ (n - j) + j = omega arith in
    below (x % 2 ^ n) v n j h ∙ ap (λ (y : ℕ). y * 2 ^ n + v) (ap (λ (m : ℕ). x % 2 ^ m % 2 ^ j) e ∙ mod-mod-pow x (n - j) j)

-- what stands below t^k, by two shifts of a word
pub shifted-out : (x k : ℕ) → k ≤ 64 → x * 2 ^ (64 - k) % 2 ^ 64 / 2 ^ (64 - k) ≡ x % 2 ^ k
shifted-out x k l =
    let e : 64 ≡ k + (64 - k) = omega arith in
    ap (λ (m : ℕ). x * 2 ^ (64 - k) % 2 ^ m / 2 ^ (64 - k)) e ∙ field (x * 2 ^ (64 - k)) k (64 - k) ∙ ap (λ (y : ℕ). y % 2 ^ k) (shl-shr x (64 - k))

-- what stands below fits a word
pub below-fits : (f v n j : ℕ) → v < 2 ^ n → j + n ≤ 64 → f % 2 ^ j * 2 ^ n + v < 2 ^ 64
below-fits f v n j h l = lt_of_lt_of_le (rw (← (pow-add 2 j n)) at (digits_lt {q = f % 2 ^ j} {m = 2 ^ j} (mod-lt f (pow_pos j)) h))
    (pow_mono {i = j + n} {j = 64} l)

shift-over : (w h y : ℕ) → h ⊗ (y * 2 ^ w) ≡ h * 2 ^ w ⊗ y
shift-over w h y = ⊗_shl w h y ∙ ap (λ (z : ℕ). z * 2 ^ w) (⊗_comm h y) ∙ sym (⊗_shl w y h) ∙ ⊗_comm y (h * 2 ^ w)

-- the low w bits of h and the others, times y
digits : (w h y : ℕ) → h % 2 ^ w ⊗ y ⊕ h / 2 ^ w ⊗ (y * 2 ^ w) ≡ h ⊗ y
digits w h y =
    ap (λ (z : ℕ). h % 2 ^ w ⊗ y ⊕ z) (shift-over w (h / 2 ^ w) y)
    ∙ sym (⊕-⊗ (h % 2 ^ w) (h / 2 ^ w * 2 ^ w) y)
    ∙ ap (λ (z : ℕ). z ⊗ y) (⊕_comm (h % 2 ^ w) (h / 2 ^ w * 2 ^ w) ∙ ⊕-append (h / 2 ^ w) w (h % 2 ^ w) (mod-lt h (pow_pos w)) ∙ split h w)

module _ (w : ℕ) {key : ℕ} (pos : 0 < key) (x c : ℕ) (words : List ℕ) (rows : Rows w key x c words) where
  -- n groups of w bits, the lowest looked up in row j
  groups : (n j h : ℕ) → j + n ≤ c → h < 2 ^ (w * n) → looked w words n j h ≡ rem key (h ⊗ (x * 2 ^ (w * j)))
  unfolding looked
  groups zero j h l b = rw (lt-one (rw mul-zero at b), zero-⊗) (sym (rem-zero key))
  groups (suc n) j h l b =
      ap₂ (λ (y z : ℕ). y ⊕ z) (rows j (omega arith) (h % 2 ^ w) (mod-lt h (pow_pos w)) ∙ rem-⊗-right pos (h % 2 ^ w) (x * 2 ^ (w * j)))
      (groups n (suc j) (h / 2 ^ w) (omega arith) (shr_lt {n = h} (w * n) w (rw mul-suc at b)) ∙ ap (λ (y : ℕ). rem key (h / 2 ^ w ⊗ y)) next)
      ∙ sym (rem-⊕ pos (h % 2 ^ w ⊗ (x * 2 ^ (w * j))) (h / 2 ^ w ⊗ (x * 2 ^ (w * j) * 2 ^ w)))
      ∙ ap (rem key) (digits w h (x * 2 ^ (w * j)))
    where
      next : x * 2 ^ (w * suc j) ≡ x * 2 ^ (w * j) * 2 ^ w
      next = rw (mul-suc, pow-add) (omega arith)

  pub looked-all : (n h : ℕ) → n ≤ c → h < 2 ^ (w * n) → looked w words n 0 h ≡ rem key (h ⊗ x)
  looked-all n h l b = groups n 0 h (omega arith) b ∙ ap (λ (y : ℕ). rem key (h ⊗ y)) (rw (mul-zero w) (mul-one x))

-- by the rows of a power of t
pub looked-shift : (w : ℕ) {key : ℕ} (pos : 0 < key) (e c : ℕ) (words : List ℕ) → Rows w key (2 ^ e) c words → (n h : ℕ) → n ≤ c → h < 2 ^ (w * n)
    → looked w words n 0 h ≡ rem key (h * 2 ^ e)
looked-shift w {key} pos e c words rows n h l b = looked-all w pos (2 ^ e) c words rows n h l b ∙ ap (rem key) (⊗-pow e h)

-- the groups above the n-th are not looked up
looked-low : (w : ℕ) (words : List ℕ) (n j h : ℕ) → looked w words n j h ≡ looked w words n j (h % 2 ^ (w * n))
unfolding looked
looked-low w words zero j h = refl
looked-low w words (suc n) j h =
    rw (mul-suc, mod-mod-pow h (w * n) w, field h (w * n) w)
    (ap (λ (y : ℕ). get_or words (j * 2 ^ w + h % 2 ^ w) 0 ⊕ y) (looked-low w words n (suc j) (h / 2 ^ w)))

module _ (w : ℕ) (p : Modulus) (proper : Proper p) (words : List ℕ) (c : ℕ) (rows : Rows w (polynomial p) (2 ^ p.degree) c words) where
  abbrev k : ℕ
  k = p.degree

  pos : 0 < polynomial p
  pos = monic-pos p.degree p.low proper.2

  -- n groups of w bits at t^k and above, and what stands below
  cut : (n v : ℕ) → n ≤ c → v < 2 ^ (w * n + k)
      → v % 2 ^ k ⊕ looked w words n 0 (v / 2 ^ k) ≡ rem (polynomial p) v
  cut n v l b =
      ap₂ (λ (x y : ℕ). x ⊕ y) (sym (residue-small k p.low proper.2 (v % 2 ^ k) (mod-lt v (pow_pos k))))
      (looked-shift w pos k c words rows n (v / 2 ^ k) l (shr_lt {n = v} (w * n) k b))
      ∙ sym (rem-⊕ pos (v % 2 ^ k) (v / 2 ^ k * 2 ^ k))
      ∙ ap (rem (polynomial p))
      (⊕_comm (v % 2 ^ k) (v / 2 ^ k * 2 ^ k)
      ∙ ⊕-append (v / 2 ^ k) k (v % 2 ^ k) (mod-lt v (pow_pos k))
      ∙ split v k)

  -- the same of v behind f, n groups of w bits
  module _ (n f v : ℕ) (l : n ≤ c) (hf : f < 2 ^ p.degree) (hv : v < 2 ^ (w * n)) where
    behind-lt : f * 2 ^ (w * n) + v < 2 ^ (w * n + k)
    behind-lt = rw (pow-add 2 (w * n) k, mul_comm (2 ^ (w * n)) (2 ^ k)) (digits_lt hf hv)

    -- where the degree is no less than the bits behind, from f alone: x is the rest of f
    pub cut_high : (j x : ℕ) → p.degree ≡ w * n + j → x ≡ f % 2 ^ j
        → (x * 2 ^ (w * n) + v) ⊕ looked w words n 0 (f / 2 ^ j) ≡ rem (polynomial p) (f * 2 ^ (w * n) + v)
    cut_high j x e ex =
        ap (λ (y : ℕ). (y * 2 ^ (w * n) + v) ⊕ looked w words n 0 (f / 2 ^ j)) ex
        ∙ ap₂ (λ (x y : ℕ). x ⊕ looked w words n 0 y)
        (sym (below f v (w * n) j hv) ∙ ap (λ (m : ℕ). (f * 2 ^ (w * n) + v) % 2 ^ m) (sym e))
        (sym (above f v (w * n) j hv) ∙ ap (λ (m : ℕ). (f * 2 ^ (w * n) + v) / 2 ^ m) (sym e))
        ∙ cut n (f * 2 ^ (w * n) + v) l behind-lt

  -- v behind x, of which the coefficients below t^k count alone, as they do in the result
  module _ (n x v : ℕ) (l : n ≤ c) (hv : v < 2 ^ (w * n)) where
    abbrev f : ℕ
    f = x % 2 ^ p.degree

    f_lt : f < 2 ^ p.degree
    f_lt = mod-lt x (pow_pos k)

    looked-lt : (h : ℕ) → looked w words n 0 h < 2 ^ p.degree
    looked-lt h =
        rw (looked-low w words n 0 h, looked-shift w pos k c words rows n (h % 2 ^ (w * n)) l (mod-lt h (pow_pos (w * n))))
        (residue-lt k p.low proper.2 (h % 2 ^ (w * n) * 2 ^ k))

    loose : (y h : ℕ) → y % 2 ^ p.degree ≡ (f * 2 ^ (w * n) + v) % 2 ^ p.degree → h % 2 ^ (w * n) ≡ (f * 2 ^ (w * n) + v) / 2 ^ p.degree
        → (y ⊕ looked w words n 0 h) % 2 ^ p.degree ≡ rem (polynomial p) (f * 2 ^ (w * n) + v)
    loose y h ey eh =
        ⊕-mod k y (looked w words n 0 h)
        ∙ ap₂ (λ (a b : ℕ). a ⊕ b) ey (mod-eq_of_lt (looked-lt h) ∙ looked-low w words n 0 h ∙ ap (looked w words n 0) eh)
        ∙ cut n (f * 2 ^ (w * n) + v) l (behind-lt n f v l f_lt hv)

    -- the number with v below, as a word of 2 w n bits has it
    abbrev y : ℕ
    y = x % 2 ^ (w * n) * 2 ^ (w * n) + v

    pub cut_low : p.degree ≤ w * n → (y ⊕ looked w words n 0 (y / 2 ^ p.degree)) % 2 ^ p.degree ≡ rem (polynomial p) (f * 2 ^ (w * n) + v)
    cut_low le =
        let e : y % 2 ^ (w * n + k) ≡ f * 2 ^ (w * n) + v = kept x v (w * n) k hv le in
        loose y (y / 2 ^ k) (sym (mod-mod-pow y (w * n) k) ∙ ap (λ (z : ℕ). z % 2 ^ k) e) (sym (field y (w * n) k) ∙ ap (λ (z : ℕ). z / 2 ^ k) e)

    pub cut-loose : (j : ℕ) → p.degree ≡ w * n + j → j ≤ w * n
        → (y ⊕ looked w words n 0 (x / 2 ^ j)) % 2 ^ p.degree ≡ rem (polynomial p) (f * 2 ^ (w * n) + v)
    cut-loose j e le = loose y (x / 2 ^ j) low_part top_part
      where
        stays : f % 2 ^ j ≡ x % 2 ^ j
        stays = ap (λ (m : ℕ). x % 2 ^ m % 2 ^ j) e ∙ mod-mod-pow x (w * n) j

        low_part : y % 2 ^ k ≡ (f * 2 ^ (w * n) + v) % 2 ^ k
        low_part =
            ap (λ (m : ℕ). y % 2 ^ m) e ∙ kept x v (w * n) j hv le
            ∙ sym (ap (λ (m : ℕ). (f * 2 ^ (w * n) + v) % 2 ^ m) e ∙ below f v (w * n) j hv ∙ ap (λ (z : ℕ). z * 2 ^ (w * n) + v) stays)

        top_part : x / 2 ^ j % 2 ^ (w * n) ≡ (f * 2 ^ (w * n) + v) / 2 ^ k
        top_part =
            sym (field x (w * n) j) ∙ ap (λ (m : ℕ). x % 2 ^ m / 2 ^ j) (sym e)
            ∙ sym (ap (λ (m : ℕ). (f * 2 ^ (w * n) + v) / 2 ^ m) e ∙ above f v (w * n) j hv)

-- the n highest bits of f
pub top_lt : (f n k : ℕ) → n ≤ k → f < 2 ^ k → f / 2 ^ (k - n) < 2 ^ n
top_lt f n k l h =
    let e : k ≡ n + (k - n) = omega arith in
    shr_lt {n = f} n (k - n) (rw e at h)

-- ---- the sums as the code has them

pub look_two : (words : List ℕ) (row h : ℕ) → get_or words (row * 256 + h % 256) 0 ⊕ get_or words (row * 256 + 256 + h / 256 % 256) 0 ≡ looked 8 words 2 row h
unfolding looked
look_two words row h =
    let e : row * 256 + 256 + h / 256 % 256 ≡ suc row * 256 + h / 256 % 256 = omega arith in
    rw (e, ⊕-zero)

pub look_four : (words : List ℕ) (rest h : ℕ) → rest ⊕ looked 8 words 2 0 h ⊕ looked 8 words 2 2 (h / 65536) ≡ rest ⊕ looked 8 words 4 0 h
unfolding looked
look_four words rest h = rw (← (shr-shr h 8 8)) (simp (⊕_assoc, ⊕-zero))

pub look_one : (words : List ℕ) (rest h : ℕ) → h < 256 → rest ⊕ get_or words h 0 ≡ rest ⊕ looked 8 words 1 0 h
unfolding looked
look_one words rest h l = rw (zero-add (h % 256), mod-eq_of_lt l, ⊕-zero)
