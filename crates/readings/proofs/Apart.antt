-- The files 00 00 and 01 1B differ across 9 bits, places 7 to 15; the two of degree 64 across 65, places 7 to 71.
use mathlib.Core.Path.{◌≡◌, refl, sym, ap, ◌∙◌}
use mathlib.Core.Logic.{◌≢◌}
use mathlib.Core.List.{List}
use Prim.Native.Nat.{ℕ, ◌+◌, ◌≤◌, ◌<◌}
use native.Mathlib.Decide.{dec_lt, dec_le}
use native.Mathlib.Omega.{arith}
use lib.ListN.{length, get_or, take, get_or-eq_default}
use lib.Seq.{get_or-take}
use Rattle.files.specs.Files.{low_bits, bits}
use Rattle.files.specs.Bursts.{Burst}
use Rattle.readings.specs.Readings.{zero_file, key_file, long_zero_file, long_key_file}

module _ (a b : List ℕ) (first last : ℕ) where
  -- files that are alike before the first place and end with the last
  across : (k : ℕ) → last + 1 ≡ first + k → length a ≡ last + 1 → length b ≡ last + 1 → take first a ≡ take first b → Burst k a b
  across k e la lb same = record { same_length = la ∙ sym lb; first = first; last = last; near = omega arith; between = places }
    where
      places : (i : ℕ) → get_or a i 0 ≢ get_or b i 0 → (first ≤ i) × (i ≤ last)
      places i d = go (dec_lt i first) (dec_le (last + 1) i)
        where
          go : Dec (i < first) → Dec (last + 1 ≤ i) → (first ≤ i) × (i ≤ last)
          go (yes l) y = absurd (d (sym (get_or-take first a i 0 l) ∙ ap (λ (x : List ℕ). get_or x i 0) same ∙ get_or-take first b i 0 l))
          go (no n) (yes l) = absurd (d (get_or-eq_default a 0 (omega arith) ∙ sym (get_or-eq_default b 0 (omega arith))))
          go (no n) (no m) = (omega arith, omega arith)

  -- and that differ at both
  not-across : (k : ℕ) → first + k ≡ last → get_or a first 0 ≢ get_or b first 0 → get_or a last 0 ≢ get_or b last 0 → Burst k a b → ⊥
  not-across k e f l s = omega (arith, s.near, (s.between first f).0, (s.between last l).1)

pub nine-bits : Burst 9 (bits zero_file) (bits key_file)
unfolding bits low_bits
nine-bits = across (bits zero_file) (bits key_file) 7 15 9 refl refl refl refl

pub not_eight : Burst 8 (bits zero_file) (bits key_file) → ⊥
unfolding bits low_bits
not_eight = not-across (bits zero_file) (bits key_file) 7 15 8 refl (λ e. omega (arith, e)) (λ e. omega (arith, e))

pub sixty_five_bits : Burst 65 (bits long_zero_file) (bits long_key_file)
unfolding bits low_bits
sixty_five_bits = across (bits long_zero_file) (bits long_key_file) 7 71 65 refl refl refl refl

pub not_sixty_four : Burst 64 (bits long_zero_file) (bits long_key_file) → ⊥
unfolding bits low_bits
not_sixty_four = not-across (bits long_zero_file) (bits long_key_file) 7 71 64 refl (λ e. omega (arith, e)) (λ e. omega (arith, e))
