-- Laws of number 7: what it comes to in the comparisons that the code makes.
use mathlib.Core.Path.{◌≡◌, refl, sym, ap, ◌∙◌}
use mathlib.Core.Logic.{inl, inr}
use mathlib.Core.Bool.{true, false, not, or-true}
use mathlib.Core.List.{List, [], ◌∷◌}
use Prim.Native.Nat.{ℕ, ◌+◌, ◌-◌, ◌*◌, ◌^◌, ◌≤◌, ◌<◌, min}
use native.Mathlib.Decide.{dec_le}
use native.Mathlib.Omega.{arith}
use lib.Dec.{leb, ltb}
use borrow.Author.Tests.{lt-ltb, le-ltb, ltb-false, le-leb, lt-leb}
use Rattle.lists.specs.Lists.{All}
use Rattle.lists.proofs.Lists.{Some}
use Rattle.lists.proofs.Truth.{or-neither}
use Rattle.refusals.specs.Refusals.{longest, passes}

-- ---- number 7: of a list of lengths

pub passes-some : (ns : List ℕ) → Some (λ n. longest < n) ns → passes ns ≡ true
passes-some [] s = absurd s
passes-some (n ∷ ns) (inl l) = rw (lt-ltb longest n l)
passes-some (n ∷ ns) (inr s) = rw (passes-some ns s) (or-true (ltb longest n))

pub passes_none : (ns : List ℕ) → All (λ n. n ≤ longest) ns → passes ns ≡ false
passes_none [] h = refl
passes_none (n ∷ ns) h = rw (le-ltb longest n h.0) (passes_none ns h.1)

pub within : (ns : List ℕ) → passes ns ≡ false → All (λ n. n ≤ longest) ns
within [] e = tt
within (n ∷ ns) e =
    let both = or-neither (ltb longest n) (passes ns) e in
    (ltb-false longest n both.0, within ns both.1)

pub one-within : (n : ℕ) → leb n longest ≡ not (passes (n ∷ []))
one-within n = go (dec_le n longest)
  where
    go : Dec (n ≤ longest) → leb n longest ≡ not (passes (n ∷ []))
    go (yes h) = rw (le-leb n longest h, le-ltb longest n h)
    go (no h) = rw (lt-leb n longest (omega arith), lt-ltb longest n (omega arith))

-- whole bytes, whose bits need not be counted
pub bytes-within : (n : ℕ) → leb n 4294967295 ≡ not (passes (8 * n ∷ []))
bytes-within n = go (dec_le n 4294967295)
  where
    go : Dec (n ≤ 4294967295) → leb n 4294967295 ≡ not (passes (8 * n ∷ []))
    go (yes h) = rw (le-leb n 4294967295 h, le-ltb longest (8 * n) (omega arith))
    go (no h) = rw (lt-leb n 4294967295 (omega arith), lt-ltb longest (8 * n) (omega arith))

-- a length may be counted up to 2^36 alone
pub counted : (n : ℕ) → ltb longest (min n (2 ^ 36)) ≡ ltb longest n
counted n = go (dec_le n longest)
  where
    go : Dec (n ≤ longest) → ltb longest (min n (2 ^ 36)) ≡ ltb longest n
    go (yes h) = rw (le-ltb longest n h) (le-ltb longest (min n (2 ^ 36)) (omega arith))
    go (no h) = rw (lt-ltb longest n (omega arith)) (lt-ltb longest (min n (2 ^ 36)) (omega arith))

pub counted_is : (n : ℕ) → n ≤ longest → min n (2 ^ 36) ≡ n
counted_is n h = omega arith

pub counted-fits : (n : ℕ) → min n (2 ^ 36) ≤ longest → n ≤ longest
counted-fits n h = omega arith

-- ---- number 7: of two lengths and their sum

pub counted-sum : (a n : ℕ) → passes (a ∷ min n (2 ^ 36) ∷ (a + min n (2 ^ 36)) ∷ []) ≡ passes (a ∷ n ∷ (a + n) ∷ [])
counted-sum a n = go (dec_le (a + n) longest)
  where
    go : Dec (a + n ≤ longest) → passes (a ∷ min n (2 ^ 36) ∷ (a + min n (2 ^ 36)) ∷ []) ≡ passes (a ∷ n ∷ (a + n) ∷ [])
    go (yes h) = ap (λ (m : ℕ). passes (a ∷ m ∷ (a + m) ∷ [])) (counted_is n (omega arith))
    go (no h) =
        passes-some (a ∷ min n (2 ^ 36) ∷ (a + min n (2 ^ 36)) ∷ []) (inr (inr (inl (omega arith))))
        ∙ sym (passes-some (a ∷ n ∷ (a + n) ∷ []) (inr (inr (inl (omega arith)))))

module _ (a b : ℕ) where
  pub sum-passes : longest < a + b → passes (a ∷ b ∷ (a + b) ∷ []) ≡ true
  sum-passes l = passes-some (a ∷ b ∷ (a + b) ∷ []) (inr (inr (inl l)))

  pub sum_fits : a + b ≤ longest → passes (a ∷ b ∷ (a + b) ∷ []) ≡ false
  sum_fits l = passes_none (a ∷ b ∷ (a + b) ∷ []) (omega arith, (omega arith, (l, tt)))

  pub sum-within : passes (a ∷ b ∷ (a + b) ∷ []) ≡ false → a + b ≤ longest
  sum-within e = (within (a ∷ b ∷ (a + b) ∷ []) e).1.1.0

  -- the sum need not be made
  pub room : a ≤ longest → leb b (longest - a) ≡ not (passes (a ∷ b ∷ (a + b) ∷ []))
  room l = go (dec_le b (longest - a))
    where
      go : Dec (b ≤ longest - a) → leb b (longest - a) ≡ not (passes (a ∷ b ∷ (a + b) ∷ []))
      go (yes h) = rw (le-leb b (longest - a) h, sum_fits (omega arith))
      go (no h) = rw (lt-leb b (longest - a) (omega arith), sum-passes (omega arith))
