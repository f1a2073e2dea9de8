-- Euclid's algorithm with halves: the relation holds at first, one turn keeps it while r + s falls, and at the end v is the inverse.
use mathlib.Core.Path.{◌≡◌, refl, sym, ap, ap₂, ◌∙◌}
use mathlib.Core.Logic.{◌⊎◌, inl, inr, ⊎_elim}
use mathlib.Core.Bool.{Bool, cond, ◌&&◌}
use Prim.Native.Nat.{ℕ, ◌+◌, ◌*◌, ◌/◌, ◌%◌, ◌^◌, ◌≤◌, ◌<◌}
use native.Mathlib.Nat.{mul-one, mul-zero, lt_of_lt_of_le, eq-zero-or-pos}
use native.Mathlib.Decide.{dec_lt}
use native.Mathlib.Omega.{arith}
use lib.Dec.{eqb, ltb}
use lib.Bits.{xor_add_and}
use lib.Pow.{pow_mono}
use borrow.Author.Tests.{lt-ltb, le-ltb}
use Rattle.gf2.specs.Polynomials.{◌⊕◌, ◌⊗◌, degree, rem, Divides, Irreducible}
use Rattle.gf2.proofs.Sums.{⊕-lt, ⊕-zero, ⊕_dbl, ⊕-bit, xor}
use Rattle.gf2.proofs.Products.{zero-⊗, one-⊗, ⊗_comm, ⊕-⊗, dbl_⊗, ⊗-pow, by_low, mod_2, bit-cases}
use Rattle.gf2.proofs.Degrees.{degree-is, degree-eq, half_lt, deg_hi}
use Rattle.gf2.proofs.Divisors.{dvd_by, dvd_refl, dvd-zero, dvd-⊕, dvd-⊗, dvd-small}
use Rattle.gf2.proofs.Residues.{rem-zero, rem_lt, rem_unique, rem-small, rem-⊕, rem_of_dvd}
use Rattle.gf2.proofs.Powers.{rem_shl, rem-⊗-left}
use Rattle.gf2.proofs.Congruences.{shift_cancels}
use Rattle.inverses.specs.declared.Pairs.{Pairs}
use Rattle.gf2.specs.Inverses.{inverse}
use Rattle.inverses.specs.Euclid.{over_t, smaller, next, Related}
use Rattle.gf2.proofs.Inverses.{inverse_unique}

-- an odd number as its half and 1
odd_is : (n : ℕ) → n % 2 ≡ 1 → n ≡ n / 2 * 2 ⊕ 1
odd_is n e = sym (ap (λ (b : ℕ). n / 2 * 2 ⊕ b) (sym e) ∙ by_low n)

even_is : (n : ℕ) → n % 2 ≡ 0 → n ≡ n / 2 * 2
even_is n e = omega arith

next-odd : (n : ℕ) → n * 2 + 1 ≡ n * 2 ⊕ 1
next-odd n = sym (⊕-bit n 1 (omega arith))

xor-le : (a b : ℕ) → a ⊕ b ≤ a + b
unfolding ◌⊕◌
xor-le a b = omega (arith, xor_add_and a b)

over-even : (h f : ℕ) → f % 2 ≡ 0 → over_t h f ≡ f / 2
unfolding over_t
over-even h f e = rw (e, mul-zero h) (⊕-zero (f / 2))

over-odd : (h f : ℕ) → f % 2 ≡ 1 → over_t h f ≡ f / 2 ⊕ h
unfolding over_t
over-odd h f e = rw (e, mul-one h)

-- a turn as the code makes it, where it exchanges and where not
pub next-is : (h : ℕ) (x : Pairs) (b : Bool) (u : ℕ) → smaller x ≡ b → u ≡ over_t h (x.u ⊕ x.v * (x.r % 2))
    → ◌≡◌ {A = Pairs} (record { r = x.r / 2 ⊕ x.s * (x.r % 2); u = u; s = cond b (x.r / 2) x.s; v = cond b x.u x.v }) (next h x)
unfolding next
next-is h x b u eb eu = rw (eb, eu)

module _ (p : ℕ) (irr : Irreducible p) (two : 2 ≤ degree p) where
  pos : 0 < p
  pos = omega (arith, irr.proper)

  one-lt : 1 < 2 ^ degree p
  one-lt = lt_of_lt_of_le (omega arith) (pow_mono {i = 2} two)

  -- t does not divide p
  pub odd-modulus : p % 2 ≡ 1
  odd-modulus = ⊎_elim (λ e. absurd (no_two e)) (λ e. e) (bit-cases (p % 2) (mod_2 p))
    where
      degree-two : degree 2 ≡ 1
      degree-two = degree-eq 2 1 refl

      no_two : p % 2 ≡ 0 → ⊥
      no_two e =
          ⊎_elim (λ o. omega arith) (λ w. omega (arith, degree-two, ap degree w))
          (irr.only 2 (record { quotient = p / 2; product = ⊗-pow 1 (p / 2) ∙ sym (even_is p e) }))

  half-small : (f : ℕ) → f < 2 ^ degree p → f / 2 < 2 ^ degree p
  half-small f l = omega arith

  module _ (a h : ℕ) (eh : h ≡ p / 2) where
    h-lt : h < 2 ^ degree p
    h-lt = rw eh (half_lt p (degree p) (deg_hi p (degree p) (degree-is p pos)))

    whole_is : p ≡ h * 2 ⊕ 1
    whole_is = odd_is p odd-modulus ∙ ap (λ (x : ℕ). x * 2 ⊕ 1) (sym eh)

    over-lt : (f : ℕ) → f < 2 ^ degree p → over_t h f < 2 ^ degree p
    over-lt f l = ⊎_elim (λ e. rw (over-even h f e) (half-small f l)) (λ e. rw (over-odd h f e) (⊕-lt (degree p) (f / 2) h (half-small f l) h-lt))
        (bit-cases (f % 2) (mod_2 f))

    -- t times what was divided by t
    over-is : (f : ℕ) → f < 2 ^ degree p → rem p (over_t h f * 2) ≡ f
    over-is f l = ⊎_elim even odd (bit-cases (f % 2) (mod_2 f))
      where
        even : f % 2 ≡ 0 → rem p (over_t h f * 2) ≡ f
        even e = ap (λ (x : ℕ). rem p (x * 2)) (over-even h f e) ∙ ap (rem p) (sym (even_is f e)) ∙ rem-small pos f l

        sum : f % 2 ≡ 1 → p ≡ (f / 2 ⊕ h) * 2 ⊕ f
        sum e = whole_is ∙ rearranged (f / 2 * 2) (h * 2) ∙ ap₂ (λ (x y : ℕ). x ⊕ y) (sym (⊕_dbl (f / 2) h)) (sym (odd_is f e))
          where
            rearranged : (x y : ℕ) → y ⊕ 1 ≡ (x ⊕ y) ⊕ (x ⊕ 1)
            rearranged x y = simp xor

        odd : f % 2 ≡ 1 → rem p (over_t h f * 2) ≡ f
        odd e = ap (λ (x : ℕ). rem p (x * 2)) (over-odd h f e) ∙ rem_unique pos ((f / 2 ⊕ h) * 2) f l (dvd_by (dvd_refl p) (sum e))

    -- u·a is w·a divided by t
    over_times : (w r : ℕ) → w < 2 ^ degree p → r < 2 ^ degree p → rem p (w ⊗ a) ≡ rem p (r * 2) → rem p (over_t h w ⊗ a) ≡ r
    over_times w r lw lr e =
        shift_cancels p (rem p (over_t h w ⊗ a)) r 1 irr two (rem_lt pos (over_t h w ⊗ a)) lr
        (rem_shl pos (over_t h w ⊗ a) 1
        ∙ ap (rem p) (sym (dbl_⊗ (over_t h w) a))
        ∙ sym (rem-⊗-left pos (over_t h w * 2) a)
        ∙ ap (λ (x : ℕ). rem p (x ⊗ a)) (over-is w lw)
        ∙ e)

    -- ---- the state over plain numbers

    module _ (r u s v : ℕ) (i : Related p a (record { r = r; u = u; s = s; v = v })) where
      -- r even: it is divided by t
      even-next : r % 2 ≡ 0 → Related p a (record { r = r / 2; u = over_t h u; s = s; v = v })
      even-next e =
          record {
            r-lt = half-small r i.r-lt;
            u-lt = over-lt u i.u-lt;
            s-lt = i.s-lt;
            v-lt = i.v-lt;
            first =
                over_times u (r / 2) i.u-lt (half-small r i.r-lt)
                (i.first ∙ sym (rem-small pos r i.r-lt) ∙ ap (rem p) (even_is r e));
            second = i.second;
            coprime = λ d x y. i.coprime d (dvd_by (dvd-⊗ 2 x) (⊗_comm 2 (r / 2) ∙ ⊗-pow 1 (r / 2) ∙ sym (even_is r e))) y;
          }

      -- twice the half of the sum
      sum_is : r % 2 ≡ 1 → (r / 2 ⊕ s) * 2 ≡ r ⊕ (s * 2 + 1)
      sum_is e = ⊕_dbl (r / 2) s ∙ rearranged (r / 2 * 2) (s * 2) ∙ sym (ap₂ (λ (x y : ℕ). x ⊕ y) (odd_is r e) (next-odd s))
        where
          rearranged : (x y : ℕ) → x ⊕ y ≡ (x ⊕ 1) ⊕ (y ⊕ 1)
          rearranged x y = simp xor

      half-lt-sum : r / 2 ⊕ s < 2 ^ degree p
      half-lt-sum = ⊕-lt (degree p) (r / 2) s (half-small r i.r-lt) i.s-lt

      sum_first : r % 2 ≡ 1 → rem p (over_t h (u ⊕ v) ⊗ a) ≡ r / 2 ⊕ s
      sum_first e =
          over_times (u ⊕ v) (r / 2 ⊕ s) (⊕-lt (degree p) u v i.u-lt i.v-lt) half-lt-sum
          (ap (rem p) (⊕-⊗ u v a)
          ∙ rem-⊕ pos (u ⊗ a) (v ⊗ a)
          ∙ ap₂ (λ (x y : ℕ). x ⊕ y) (i.first ∙ sym (rem-small pos r i.r-lt)) i.second
          ∙ sym (rem-⊕ pos r (s * 2 + 1))
          ∙ ap (rem p) (sym (sum_is e)))

      -- a divisor of the half of the sum divides the sum
      divides-sum : r % 2 ≡ 1 → (d : ℕ) → Divides d (r / 2 ⊕ s) → Divides d (r ⊕ (s * 2 + 1))
      divides-sum e d x = dvd_by (dvd-⊗ 2 x) (⊗_comm 2 (r / 2 ⊕ s) ∙ ⊗-pow 1 (r / 2 ⊕ s) ∙ sum_is e)

      odd-next : r % 2 ≡ 1 → Related p a (record { r = r / 2 ⊕ s; u = over_t h (u ⊕ v); s = s; v = v })
      odd-next e =
          record {
            r-lt = half-lt-sum;
            u-lt = over-lt (u ⊕ v) (⊕-lt (degree p) u v i.u-lt i.v-lt);
            s-lt = i.s-lt;
            v-lt = i.v-lt;
            first = sum_first e;
            second = i.second;
            coprime = λ d x y. i.coprime d (dvd_by (dvd-⊕ (divides-sum e d x) y) (simp xor)) y;
          }

      swap_next : r % 2 ≡ 1 → Related p a (record { r = r / 2 ⊕ s; u = over_t h (u ⊕ v); s = r / 2; v = u })
      swap_next e =
          record {
            r-lt = half-lt-sum;
            u-lt = over-lt (u ⊕ v) (⊕-lt (degree p) u v i.u-lt i.v-lt);
            s-lt = half-small r i.r-lt;
            v-lt = i.u-lt;
            first = sum_first e;
            second = i.first ∙ sym (rem-small pos r i.r-lt) ∙ ap (rem p) (odd_is r e ∙ sym (next-odd (r / 2)));
            coprime =
                λ d x y. let z : Divides d r = dvd_by y (next-odd (r / 2) ∙ sym (odd_is r e)) in
                i.coprime d z (dvd_by (dvd-⊕ (divides-sum e d x) z) (simp xor));
          }

      -- where 2s + 1 is not 1, r is not 0
      r-pos : 0 < s → 0 < r
      r-pos l = ⊎_elim (λ e. absurd (omega (arith, i.coprime (s * 2 + 1) (dvd_by (dvd-zero (s * 2 + 1)) (sym e)) (dvd_refl (s * 2 + 1))))) (λ q. q)
          (eq-zero-or-pos r)

      last : (Divides p a → ⊥) → s ≡ 0 → v ≡ inverse p a
      last n e = sym (inverse_unique p irr a n v i.v-lt (i.second ∙ ap (λ (x : ℕ). rem p (x * 2 + 1)) e ∙ rem-small pos 1 one-lt))

    -- one turn keeps the relation, and r + s falls
    pub next-keeps : (x : Pairs) → Related p a x → Related p a (next h x)
    unfolding next
    next-keeps x i = go (bit-cases (x.r % 2) (mod_2 x.r)) (dec_lt (x.r / 2) x.s)
      where
        Next : Type 0
        Next =
            Related p a
            (record {
              r = x.r / 2 ⊕ x.s * (x.r % 2);
              u = over_t h (x.u ⊕ x.v * (x.r % 2));
              s = cond (eqb (x.r % 2) 1 && ltb (x.r / 2) x.s) (x.r / 2) x.s;
              v = cond (eqb (x.r % 2) 1 && ltb (x.r / 2) x.s) x.u x.v;
            })

        go : (x.r % 2 ≡ 0) ⊎ (x.r % 2 ≡ 1) → Dec (x.r / 2 < x.s) → Next
        go (inl e) d = rw (e, mul-zero x.s, mul-zero x.v, ⊕-zero (x.r / 2), ⊕-zero x.u) (even-next x.r x.u x.s x.v i e)
        go (inr e) (yes l) = rw (e, mul-one x.s, mul-one x.v, lt-ltb (x.r / 2) x.s l) (swap_next x.r x.u x.s x.v i e)
        go (inr e) (no l) = rw (e, mul-one x.s, mul-one x.v, le-ltb (x.r / 2) x.s (omega arith)) (odd-next x.r x.u x.s x.v i e)

    pub next-less : (x : Pairs) → Related p a x → 0 < x.s → (next h x).r + (next h x).s < x.r + x.s
    unfolding next
    next-less x i l = go (bit-cases (x.r % 2) (mod_2 x.r)) (dec_lt (x.r / 2) x.s)
      where
        go : (x.r % 2 ≡ 0) ⊎ (x.r % 2 ≡ 1) → Dec (x.r / 2 < x.s)
            → x.r / 2 ⊕ x.s * (x.r % 2) + cond (eqb (x.r % 2) 1 && ltb (x.r / 2) x.s) (x.r / 2) x.s < x.r + x.s
        go (inl e) d = rw (e, mul-zero x.s, ⊕-zero (x.r / 2)) (omega (arith, r-pos x.r x.u x.s x.v i l))
        go (inr e) (yes m) = rw (e, mul-one x.s, lt-ltb (x.r / 2) x.s m) (omega (arith, xor-le (x.r / 2) x.s))
        go (inr e) (no m) = rw (e, mul-one x.s, le-ltb (x.r / 2) x.s (omega arith)) (omega (arith, xor-le (x.r / 2) x.s))

    pub last-inverse : (x : Pairs) → Related p a x → (Divides p a → ⊥) → x.s ≡ 0 → x.v ≡ inverse p a
    last-inverse x i n e = last x.r x.u x.s x.v i n e

    pub no_divisor : 0 < a → a < 2 ^ degree p → Divides p a → ⊥
    no_divisor q l d = omega (arith, dvd-small (degree p) (degree-is p pos) d l)

    pub first-related : 0 < a → a < 2 ^ degree p → Related p a (record { r = a; u = 1; s = h; v = 0 })
    first-related q l =
        record {
          r-lt = l;
          u-lt = one-lt;
          s-lt = h-lt;
          v-lt = omega arith;
          first = ap (rem p) (one-⊗ a) ∙ rem-small pos a l;
          second = ap (rem p) (zero-⊗ a) ∙ rem-zero p ∙ sym (ap (rem p) (next-odd h ∙ sym whole_is) ∙ rem_of_dvd pos p (dvd_refl p));
          coprime =
              λ d x y. ⊎_elim (λ e. e) (λ e. absurd (no_divisor q l (rw e at x))) (irr.only d (dvd_by y (next-odd h ∙ sym whole_is)));
        }
