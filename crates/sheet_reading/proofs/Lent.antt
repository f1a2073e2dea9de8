-- Laws of a sheet's page fingerprints in lent places.
use mathlib.Core.Path.{◌≡◌, sym, ap, ap₂, ◌∙◌}
use mathlib.Core.List.{List, [], ◌∷◌, ◌++◌}
use Prim.Native.Nat.{ℕ, ◌+◌, ◌-◌, ◌*◌, ◌≤◌, ◌<◌, min}
use native.Mathlib.Nat.{zero-add}
use native.Mathlib.Decide.{dec_le}
use native.Mathlib.Omega.{arith}
use lib.ListN.{length, set, take, drop, drop_of_length-le}
use lib.Seq.{take_all, take-append_seam}
use Rattle.lists.specs.Lists.{overlay}
use Rattle.lists.proofs.Lists.{written_next}
use Rattle.big_endian.specs.Numbers.{number_at, numbers_at}
use Rattle.big_endian.proofs.Numbers.{length-numbers_at, numbers-append, numbers-last}

-- one field more
pub lent-next : (fields before lent : List ℕ) (i v : ℕ) → lent ≡ numbers_at 0 8 i fields ++ drop i before → i < length before → v ≡ number_at (8 * i) 8 fields
    → set lent i v ≡ numbers_at 0 8 (i + 1) fields ++ drop (i + 1) before
lent-next fields before lent i v e l ev =
    let xs = numbers_at 0 8 i fields in
    ap (λ (ls : List ℕ). set ls i v) e
    ∙ written_next xs before i 0 v (length-numbers_at 0 8 i fields) l
    ∙ ap (λ (r : List ℕ). r ++ drop (i + 1) before) (ap (λ (x : ℕ). xs ++ x ∷ []) (ev ∙ ap (λ (m : ℕ). number_at m 8 fields) (sym (zero-add (8 * i)))) ∙ sym
    (numbers-last 0 8 i fields))

-- as many fields as there are, or as there are places
pub lent_are : (fields lent : List ℕ) (c m : ℕ) → m ≡ min c (length lent)
    → numbers_at 0 8 m fields ++ drop m lent ≡ overlay (numbers_at 0 8 c fields) lent
unfolding overlay
lent_are fields lent c m e = rw (length-numbers_at 0 8 c fields) (go (dec_le c (length lent)))
  where
    go : Dec (c ≤ length lent) → numbers_at 0 8 m fields ++ drop m lent ≡ take (length lent) (numbers_at 0 8 c fields) ++ drop c lent
    go (yes l) =
        let d : m ≡ c = omega arith in
        rw (d, take_all (length lent) (numbers_at 0 8 c fields) (rw (length-numbers_at 0 8 c fields) l))
    go (no l) =
        let d : m ≡ length lent = omega arith in
        let all : m + (c - m) ≡ c = omega arith in
        ap₂ (λ (a b : List ℕ). a ++ b)
        (sym
        (ap₂ (λ (n k : ℕ). take n (numbers_at 0 8 k fields)) (sym d ∙ sym (length-numbers_at 0 8 m fields)) (sym all)
        ∙ ap (take (length (numbers_at 0 8 m fields))) (numbers-append 0 8 m (c - m) fields)
        ∙ take-append_seam (numbers_at 0 8 m fields) (numbers_at (0 + 8 * m) 8 (c - m) fields)))
        (drop_of_length-le lent {i = m} (omega arith) ∙ sym (drop_of_length-le lent {i = c} (omega arith)))
