-- Linear independence over GF(2), by a test that the checker computes: words are put into a basis one by one, each reduced by those
-- before it. The basis has a slot for each place of a leading one.
use mathlib.Core.Path.{◌≡◌, refl, sym, ◌∙◌}
use mathlib.Core.Logic.{◌⊎◌, inl, inr}
use mathlib.Core.Bool.{Bool, true, false}
use mathlib.Core.List.{List, [], ◌∷◌, map}
use Prim.Native.Nat.{ℕ, zero, suc, ◌*◌, ◌/◌, ◌%◌, ◌^◌, ◌≤◌, ◌<◌, zero-le}
use native.Mathlib.Nat.{le_trans, le_refl, le-suc, le_of_suc-le-suc, not-suc-le-zero, not-le_of_lt, lt_of_lt_of_le, zero-mul, one-mul, div_self}
use native.Mathlib.Omega.{arith}
use lib.Dec.{T}
use lib.ListN.{length}
use lib.Pow.{pow_pos, pow_mono, pow-lt}
use Rattle.gf2.specs.Polynomials.{◌⊕◌}
use Rattle.gf2.proofs.Sums.{⊕-zero, zero-⊕, ⊕_self, ⊕_assoc, ⊕-left_comm, ⊕-lt, ⊕-eq, xor}
use Rattle.gf2.proofs.Products.{by_bit, bit-cases, mod_2}
use Rattle.gf2.proofs.Degrees.{half_lt, deg-⊕, deg-lo}
use Rattle.basis.specs.Rows.{sum_of, Independent}
use Rattle.stock.proofs.Coefficients.{Word, end, O, I, value, value-lt, plus, value-plus}

-- a slot for each place, the highest first: what stands below the leading one of the basis word there. `failed`: a word was
-- a sum of those before it.
pub data Basis : Type 0 where
  failed nil : Basis
  none : Basis → Basis
  some : Word → Basis → Basis

unfoldable pub insert : Word → Basis → Basis
insert w failed = failed
insert w nil = failed
insert end (none b) = failed
insert (O w) (none b) = none (insert w b)
insert (I w) (none b) = some w b
insert end (some v b) = failed
insert (O w) (some v b) = some v (insert w b)
insert (I w) (some v b) = some v (insert (plus v w) b)

unfoldable pub sound : Basis → Bool
sound failed = false
sound nil = true
sound (none b) = sound b
sound (some v b) = sound b

unfoldable pub empty : ℕ → Basis
empty zero = nil
empty (suc k) = none (empty k)

unfoldable pub basis : ℕ → List Word → Basis
basis k [] = empty k
basis k (w ∷ ws) = insert w (basis k ws)

sound-before : (b : Basis) (w : Word) → T (sound (insert w b)) → T (sound b)
unfolding insert sound
sound-before failed w t = t
sound-before nil w t = absurd t
sound-before (none b) end t = absurd t
sound-before (none b) (O w) t = sound-before b w t
sound-before (none b) (I w) t = t
sound-before (some v b) end t = absurd t
sound-before (some v b) (O w) t = sound-before b w t
sound-before (some v b) (I w) t = sound-before b (plus v w) t

slots : Basis → ℕ
slots failed = 0
slots nil = 0
slots (none b) = suc (slots b)
slots (some v b) = suc (slots b)

slots-insert : (b : Basis) (w : Word) → slots (insert w b) ≤ slots b
unfolding insert slots
slots-insert failed w = zero-le
slots-insert nil w = zero-le
slots-insert (none b) end = zero-le
slots-insert (none b) (O w) = omega (arith, slots-insert b w)
slots-insert (none b) (I w) = le_refl (suc (slots b))
slots-insert (some v b) end = zero-le
slots-insert (some v b) (O w) = omega (arith, slots-insert b w)
slots-insert (some v b) (I w) = omega (arith, slots-insert b (plus v w))

slots-empty : (k : ℕ) → slots (empty k) ≤ k
unfolding slots empty
slots-empty zero = zero-le
slots-empty (suc k) = omega (arith, slots-empty k)

slots-basis : (k : ℕ) (ws : List Word) → slots (basis k ws) ≤ k
unfolding basis
slots-basis k [] = slots-empty k
slots-basis k (w ∷ ws) = le_trans (slots-insert (basis k ws) w) (slots-basis k ws)

-- ---- the sums of basis words, as numbers of n digits

Span : ℕ → Basis → ℕ → Type 0
Span zero b x = x ≡ 0
Span (suc n) failed x = x ≡ 0
Span (suc n) nil x = x ≡ 0
Span (suc n) (none b) x = Span n b x
Span (suc n) (some v b) x = Span n b x ⊎ Span n b (x ⊕ (2 ^ n ⊕ value n v))

span_zero : (n : ℕ) (b : Basis) → Span n b 0
unfolding Span
span_zero zero b = refl
span_zero (suc n) failed = refl
span_zero (suc n) nil = refl
span_zero (suc n) (none b) = span_zero n b
span_zero (suc n) (some v b) = inl (span_zero n b)

-- what a proof of a sum's membership is carried along: equations between sums
span_by : (n : ℕ) (b : Basis) (x y : ℕ) → Span n b x → x ≡ y → Span n b y
span_by n b x y s e = rw e at s

past : (x z y : ℕ) → x ⊕ z ⊕ y ≡ x ⊕ y ⊕ z
past x z y = simp xor

both : (x y z : ℕ) → (x ⊕ z) ⊕ (y ⊕ z) ≡ x ⊕ y
both x y z = simp xor

span_⊕ : (n : ℕ) (b : Basis) (x y : ℕ) → Span n b x → Span n b y → Span n b (x ⊕ y)
unfolding Span
span_⊕ zero b x y s t = rw (s, t) (⊕-zero 0)
span_⊕ (suc n) failed x y s t = rw (s, t) (⊕-zero 0)
span_⊕ (suc n) nil x y s t = rw (s, t) (⊕-zero 0)
span_⊕ (suc n) (none b) x y s t = span_⊕ n b x y s t
span_⊕ (suc n) (some v b) x y (inl s) (inl t) = inl (span_⊕ n b x y s t)
span_⊕ (suc n) (some v b) x y (inl s) (inr t) =
    inr (span_by n b _ _ (span_⊕ n b x (y ⊕ (2 ^ n ⊕ value n v)) s t) (sym (⊕_assoc x y (2 ^ n ⊕ value n v))))
span_⊕ (suc n) (some v b) x y (inr s) (inl t) =
    inr (span_by n b _ _ (span_⊕ n b (x ⊕ (2 ^ n ⊕ value n v)) y s t) (past x (2 ^ n ⊕ value n v) y))
span_⊕ (suc n) (some v b) x y (inr s) (inr t) =
    inl (span_by n b _ _ (span_⊕ n b (x ⊕ (2 ^ n ⊕ value n v)) (y ⊕ (2 ^ n ⊕ value n v)) s t) (both x y (2 ^ n ⊕ value n v)))

lead_lt : (n : ℕ) (v : Word) → 2 ^ n ⊕ value n v < 2 ^ suc n
lead_lt n v = ⊕-lt (suc n) (2 ^ n) (value n v) (pow-lt (le_refl (suc n))) (lt_of_lt_of_le (value-lt n v) (pow_mono (le-suc n)))

span_lt : (n : ℕ) (b : Basis) (x : ℕ) → Span n b x → x < 2 ^ n
unfolding Span
span_lt zero b x s = rw s (le_refl 1)
span_lt (suc n) failed x s = rw s (pow_pos (suc n))
span_lt (suc n) nil x s = rw s (pow_pos (suc n))
span_lt (suc n) (none b) x s = lt_of_lt_of_le (span_lt n b x s) (pow_mono (le-suc n))
span_lt (suc n) (some v b) x (inl s) = lt_of_lt_of_le (span_lt n b x s) (pow_mono (le-suc n))
span_lt (suc n) (some v b) x (inr s) = rw back at (⊕-lt (suc n) (x ⊕ z) z (lt_of_lt_of_le (span_lt n b (x ⊕ z) s) (pow_mono (le-suc n))) (lead_lt n v))
  where
    z : ℕ
    z = 2 ^ n ⊕ value n v

    back : x ⊕ z ⊕ z ≡ x
    back = simp xor

-- a leading one stands in no sum of lower words
lead_not : (n : ℕ) (b : Basis) (x : ℕ) → x < 2 ^ n → Span n b (2 ^ n ⊕ x) → ⊥
lead_not n b x l s = not-le_of_lt (span_lt n b (2 ^ n ⊕ x) s) (deg-lo (2 ^ n ⊕ x) n (deg-⊕ (2 ^ n) x n (div_self (pow_pos n)) l))

-- ---- a word that is a sum of basis words is not put in

swapped : (t a b : ℕ) → (t ⊕ a) ⊕ (t ⊕ b) ≡ b ⊕ a
swapped t a b = simp xor

refused : (n : ℕ) (b : Basis) (w : Word) → slots b ≤ n → Span n b (value n w) → T (sound (insert w b)) → ⊥
unfolding slots Span insert sound value
refused n failed w h s t = t
refused n nil w h s t = t
refused zero (none b) w h s t = not-suc-le-zero h
refused zero (some v b) w h s t = not-suc-le-zero h
refused (suc n) (none b) end h s t = t
refused (suc n) (none b) (O w) h s t = refused n b w (le_of_suc-le-suc h) s t
refused (suc n) (none b) (I w) h s t = lead_not n b (value n w) (value-lt n w) s
refused (suc n) (some v b) end h s t = t
refused (suc n) (some v b) (O w) h (inl s) t = refused n b w (le_of_suc-le-suc h) s t
refused (suc n) (some v b) (O w) h (inr s) t =
    lead_not n b (value n w ⊕ value n v) (⊕-lt n (value n w) (value n v) (value-lt n w) (value-lt n v))
    (span_by n b _ _ s (⊕-left_comm (value n w) (2 ^ n) (value n v)))
refused (suc n) (some v b) (I w) h (inl s) t = lead_not n b (value n w) (value-lt n w) s
refused (suc n) (some v b) (I w) h (inr s) t =
    refused n b (plus v w) (le_of_suc-le-suc h)
    (span_by n b _ _ s (swapped (2 ^ n) (value n w) (value n v) ∙ sym (value-plus n v w))) t

-- ---- what is put in, and what was there, is in the span

inserted : (n : ℕ) (b : Basis) (w : Word) → T (sound (insert w b)) → Span n (insert w b) (value n w)
unfolding Span insert sound value
inserted zero b w t = refl
inserted (suc n) failed w t = absurd t
inserted (suc n) nil w t = absurd t
inserted (suc n) (none b) end t = absurd t
inserted (suc n) (none b) (O w) t = inserted n b w t
inserted (suc n) (none b) (I w) t = inr (span_by n b 0 _ (span_zero n b) (sym (⊕_self (2 ^ n ⊕ value n w))))
inserted (suc n) (some v b) end t = absurd t
inserted (suc n) (some v b) (O w) t = inl (inserted n b w t)
inserted (suc n) (some v b) (I w) t =
    inr (span_by n (insert (plus v w) b) _ _ (inserted n b (plus v w) t) (value-plus n v w ∙ sym (swapped (2 ^ n) (value n w) (value n v))))

kept : (n : ℕ) (b : Basis) (w : Word) (x : ℕ) → T (sound (insert w b)) → Span n b x → Span n (insert w b) x
unfolding Span insert sound
kept zero b w x t s = s
kept (suc n) failed w x t s = s
kept (suc n) nil w x t s = s
kept (suc n) (none b) end x t s = absurd t
kept (suc n) (none b) (O w) x t s = kept n b w x t s
kept (suc n) (none b) (I w) x t s = inl s
kept (suc n) (some v b) end x t s = absurd t
kept (suc n) (some v b) (O w) x t (inl s) = inl (kept n b w x t s)
kept (suc n) (some v b) (O w) x t (inr s) = inr (kept n b w (x ⊕ (2 ^ n ⊕ value n v)) t s)
kept (suc n) (some v b) (I w) x t (inl s) = inl (kept n b (plus v w) x t s)
kept (suc n) (some v b) (I w) x t (inr s) = inr (kept n b (plus v w) (x ⊕ (2 ^ n ⊕ value n v)) t s)

-- ---- independence

sum_in : (k : ℕ) (ws : List Word) (h : ℕ) → T (sound (basis k ws)) → Span k (basis k ws) (sum_of h (map (value k) ws))
unfolding sum_of basis
sum_in k [] h t = span_zero k (empty k)
sum_in k (w ∷ ws) h t =
    span_⊕ k (insert w b) (h % 2 * value k w) (sum_of (h / 2) (map (value k) ws))
    (by_bit (λ (c : ℕ). Span k (insert w b) (c * value k w)) (rw zero-mul (span_zero k (insert w b))) (rw one-mul (inserted k b w t)) h)
    (kept k b w (sum_of (h / 2) (map (value k) ws)) t (sum_in k ws (h / 2) (sound-before b w t)))
  where
    b : Basis
    b = basis k ws

pub independent : (k : ℕ) (ws : List Word) → T (sound (basis k ws)) → Independent (map (value k) ws)
unfolding sum_of basis
independent k [] t h l e = omega arith
independent k (w ∷ ws) t h l e = go (independent k ws (sound-before b w t) (h / 2) (half_lt h (length rest-values) l)) (bit-cases (h % 2) (mod_2 h))
  where
    b : Basis
    b = basis k ws

    rest-values : List ℕ
    rest-values = map (value k) ws

    go : (sum_of (h / 2) rest-values ≡ 0 → h / 2 ≡ 0) → (h % 2 ≡ 0) ⊎ (h % 2 ≡ 1) → h ≡ 0
    go rest (inl z) = omega (arith, rest (rw (z, zero-mul, zero-⊕) at e))
    go rest (inr o) =
        absurd (refused k b w (slots-basis k ws)
        (span_by k b _ _ (sum_in k ws (h / 2) (sound-before b w t)) (sym (⊕-eq (value k w) (sum_of (h / 2) rest-values) (rw (o, one-mul) at e)))) t)
