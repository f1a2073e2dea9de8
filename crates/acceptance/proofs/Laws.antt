-- `accepted` is document 01's sentence: degree 8 to 64, and irreducible. The claims of specs/Claims.antt, proved.
use mathlib.Core.Path.{◌≡◌, refl, sym, ap, ap₂, ◌∙◌}
use mathlib.Core.Bool.{true, false, ◌&&◌, ◌||◌, not, true≢false}
use Prim.Native.Nat.{ℕ, zero, suc, ◌%◌, ◌^◌, ◌≤◌, ◌<◌}
use native.Mathlib.Nat.{le_trans, zero-lt-suc, not-suc-le-zero, lt_of_lt_of_le, mod-lt}
use native.Mathlib.Decide.{dec_le}
use native.Mathlib.Omega.{arith}
use lib.Dec.{leb, ltb, eqb}
use lib.Pow.{pow_mono, pow_pos}
use borrow.Author.Tests.{leb-true, eqb-true, le-leb, eq-eqb, not-true, le-ltb, lt-ltb, lt-leb, leb-false, ltb-false}
use Rattle.lists.proofs.Truth.{and_both, or-neither, by_cases}
use Rattle.lists.proofs.Searches.{any_false, any_none}
use Rattle.gf2.specs.Polynomials.{halvings, degree, monic, rem, Divides, Irreducible}
use Rattle.gf2.specs.Degrees.{Degree}
use Rattle.gf2.proofs.Degrees.{degree-is, degree-from, deg-lo, deg_hi, deg-le}
use Rattle.gf2.proofs.Monics.{monic-degree, monic-word, word-degree, word-whole}
use Rattle.gf2.proofs.Residues.{rem_of_dvd, dvd_of_rem-zero}
use Rattle.gf2.proofs.Divisors.{dvd_by, dvd_refl}
use Rattle.gf2.proofs.Irreducibles.{irreducible, no_divisor}
use Rattle.gf2.proofs.Congruences.{no_power}
use Rattle.acceptance.specs.declared.Key.{Key}
use Rattle.acceptance.specs.Keys.{reducible, accepted, polynomial_of, key_of, outside}
use Rattle.acceptance.specs.Claims.{AcceptedIff, AcceptedWords, KeyIff, WordOutside, WordNotZero}

big : (p : ℕ) → 1 ≤ degree p → 1 < p
unfolding degree halvings
big zero l = absurd (not-suc-le-zero l)
big (suc p) l = le_trans (pow_mono {i = 1} l) (deg-lo (suc p) (degree (suc p)) (degree-is (suc p) (zero-lt-suc p)))

pub irreducible_of : (p : ℕ) → 1 ≤ degree p → reducible p ≡ false → Irreducible p
unfolding reducible
irreducible_of p l e = irreducible p (big p l) none
  where
    none : (d : ℕ) → 1 < d → d < 2 ^ degree p → Divides d p → ⊥
    none d two lt h =
        true≢false
        (sym (rw (le-leb 2 d two, eq-eqb (rem d p) 0 (rem_of_dvd (omega arith) p h)))
        ∙ any_false (λ c. leb 2 c && eqb (rem c p) 0) (2 ^ degree p) d e lt)

pub not-reducible : (p : ℕ) → Irreducible p → reducible p ≡ false
unfolding reducible
not-reducible p i = any_none (λ c. leb 2 c && eqb (rem c p) 0) (2 ^ degree p) (λ d l. by_cases (leb 2 d && eqb (rem d p) 0) (none d l))
  where
    none : (d : ℕ) → d < 2 ^ degree p → (leb 2 d && eqb (rem d p) 0) ≡ true → ⊥
    none d l e =
        let b = and_both (leb 2 d) (eqb (rem d p) 0) e in
        let two = leb-true 2 d b.0 in
        no_divisor p d i two l (dvd_of_rem-zero (omega arith) p (eqb-true (rem d p) 0 b.1))

pub accepted_iff : AcceptedIff
unfolding accepted
accepted_iff p = (there, back)
  where
    there : (leb 8 (degree p) && leb (degree p) 64 && not (reducible p)) ≡ true → (8 ≤ degree p) × (degree p ≤ 64) × Irreducible p
    there e =
        let x = and_both (leb 8 (degree p) && leb (degree p) 64) (not (reducible p)) e in
        let y = and_both (leb 8 (degree p)) (leb (degree p) 64) x.0 in
        let lo = leb-true 8 (degree p) y.0 in
        (lo, leb-true (degree p) 64 y.1, irreducible_of p (omega arith) (not-true (reducible p) x.1))

    back : (8 ≤ degree p) × (degree p ≤ 64) × Irreducible p → (leb 8 (degree p) && leb (degree p) 64 && not (reducible p)) ≡ true
    back h = rw (le-leb 8 (degree p) h.0, le-leb (degree p) 64 h.1, not-reducible p h.2)

pub accepted-words : AcceptedWords
accepted-words p = (there, back)
  where
    there : accepted p ≡ true → (8 ≤ degree p) × (degree p ≤ 64) × ((d : ℕ) → 1 ≤ degree d → degree d < degree p → Divides d p → ⊥)
    there e =
        let a = (accepted_iff p).0 e in
        (a.0, a.1, λ d l m h. no_divisor p d a.2 (big d l) (lt_of_lt_of_le (deg_hi d (degree d) (degree-is d (pos_of d (big d l)))) (pow_mono m)) h)
      where
        pos_of : (d : ℕ) → 1 < d → 0 < d
        pos_of d l = omega arith

    back : (8 ≤ degree p) × (degree p ≤ 64) × ((d : ℕ) → 1 ≤ degree d → degree d < degree p → Divides d p → ⊥) → accepted p ≡ true
    back h = (accepted_iff p).1 (h.0, h.1, irreducible p (big p (omega (arith, h.0))) none)
      where
        none : (d : ℕ) → 1 < d → d < 2 ^ degree p → Divides d p → ⊥
        none d two lt =
            let is = degree-is d (omega arith) in
            h.2 d (degree-from 1 d two) (deg-le d (degree d) (degree p) is lt)

pub accepted-pos : (p : ℕ) → accepted p ≡ true → 0 < p
accepted-pos p e = omega (arith, ((accepted_iff p).0 e).2.proper)

key-eq : {a b : Key} → a.degree ≡ b.degree → a.word ≡ b.word → a ≡ b
key-eq {a} {b} e d = ap₂ {C = Key} (λ (k w : ℕ). record { degree = k; word = w }) e d

-- what number 1 leaves: a degree from 8 to 64, and a word below t^k
pub in_range : (x : Key) → outside x ≡ false → (8 ≤ x.degree) × (x.degree ≤ 64) × (x.word < 2 ^ x.degree)
in_range x e =
    let a = or-neither (ltb x.degree 8 || ltb 64 x.degree) (leb (2 ^ x.degree) x.word) e in
    let b = or-neither (ltb x.degree 8) (ltb 64 x.degree) a.0 in
    (ltb-false x.degree 8 b.0, ltb-false 64 x.degree b.1, leb-false (2 ^ x.degree) x.word a.1)

pub within-range : (x : Key) → 8 ≤ x.degree → x.degree ≤ 64 → x.word < 2 ^ x.degree → outside x ≡ false
within-range x lo hi l = rw (le-ltb x.degree 8 lo, le-ltb 64 x.degree hi, lt-leb (2 ^ x.degree) x.word l)

-- such a key's polynomial has its degree, and it is that polynomial's
pub range-degree : (x : Key) → outside x ≡ false → degree (polynomial_of x) ≡ x.degree
range-degree x e = monic-degree x.degree x.word (in_range x e).2

pub range-key : (x : Key) → outside x ≡ false → x ≡ key_of (polynomial_of x)
range-key x e =
    let d = range-degree x e in
    key-eq (sym d) (sym (ap (λ (k : ℕ). polynomial_of x % 2 ^ k) d ∙ monic-word x.degree x.word (in_range x e).2))

-- the key that an accepted polynomial is handed in as
pub whole-key : (p : ℕ) → 0 < p → polynomial_of (key_of p) ≡ p
whole-key p h = word-whole p h

pub accepted-range : (p : ℕ) → accepted p ≡ true → outside (key_of p) ≡ false
accepted-range p e = let a = (accepted_iff p).0 e in within-range (key_of p) a.0 a.1 (mod-lt p (pow_pos (degree p)))

pub key_iff : KeyIff
key_iff x = (there, back)
  where
    there : (outside x ≡ false) × (reducible (polynomial_of x) ≡ false) → (accepted (polynomial_of x) ≡ true) × (x ≡ key_of (polynomial_of x))
    there h =
        let r = in_range x h.0 in
        let d = range-degree x h.0 in
        ((accepted_iff (polynomial_of x)).1 (rw d r.0, rw d r.1, irreducible_of (polynomial_of x) (rw d (omega (arith, r.0))) h.1), range-key x h.0)

    back : (accepted (polynomial_of x) ≡ true) × (x ≡ key_of (polynomial_of x)) → (outside x ≡ false) × (reducible (polynomial_of x) ≡ false)
    back h =
        (ap outside h.1 ∙ accepted-range (polynomial_of x) h.0, not-reducible (polynomial_of x) ((accepted_iff (polynomial_of x)).0 h.0).2)

pub word-outside : WordOutside
word-outside zero l = unfold degree halvings in refl
word-outside (suc n) l = go (dec_le 256 (suc n))
  where
    pos : 0 < suc n
    pos = zero-lt-suc n

    is : Degree (suc n) (degree (suc n))
    is = degree-is (suc n) pos

    go : Dec (256 ≤ suc n) → outside (key_of (suc n)) ≡ ltb (suc n) 256
    go (yes h) =
        within-range (key_of (suc n)) (degree-from 8 (suc n) h) (omega (arith, word-degree (suc n) pos l)) (mod-lt (suc n) (pow_pos (degree (suc n))))
        ∙ sym (le-ltb (suc n) 256 h)
    go (no h) = rw (lt-ltb (suc n) 256 (omega arith), lt-ltb (degree (suc n)) 8 (deg-le (suc n) (degree (suc n)) 8 is (omega arith)))

only-power : (k c : ℕ) → c ≡ 0 → monic k c ≡ 2 ^ k
unfolding monic
only-power k c z = omega (arith, z)

-- a key of the word 0 would be a power of t
pub word-not-zero : WordNotZero
word-not-zero p a e =
    let i = (accepted_iff p).0 a in
    let pos = accepted-pos p a in
    no_power p (degree p) (degree p) i.2 (degree-is p pos) (omega (arith, i.0))
    (dvd_by (dvd_refl p) (sym (whole-key p pos) ∙ only-power (degree p) (key_of p).word e))
