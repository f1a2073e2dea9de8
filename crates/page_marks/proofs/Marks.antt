-- Laws of the numbers of pages: one page more, and the bytes of a page.
use mathlib.Core.Path.{◌≡◌, sym, ap, ◌∙◌}
use mathlib.Core.List.{List, ◌++◌}
use Prim.Native.Nat.{ℕ, ◌+◌, ◌-◌, ◌*◌, ◌≤◌, ◌<◌}
use native.Mathlib.Nat.{mul-le-mul_right, suc-mul}
use native.Mathlib.Omega.{arith}
use lib.ListN.{length, set, take, drop}
use lib.Seq.{drop-drop, take-add}
use Rattle.gf2.specs.Polynomials.{rem}
use Rattle.lists.proofs.Lists.{stored}
use Rattle.files.specs.Files.{bits, value_from, fingerprint_from, fingerprint}
use Rattle.files.proofs.Values.{bits-append, rem-from}
use Rattle.files.proofs.Marks.{fed}
use Rattle.page_marks.specs.Marks.{page_front, Begun, Reduced, Finished}

-- ---- one page more, or two

module _ (key s w : ℕ) (pages marks : List ℕ) (i : ℕ) where
  -- one page more
  pub finished_more : (v : ℕ) → i < length marks → Finished key s i pages marks → v ≡ fingerprint key (bits (page_front s s pages i))
      → Finished key s (i + 1) pages (set marks i v)
  finished_more v l f e m b = stored 0 (λ n z. z ≡ fingerprint key (bits (page_front s s pages n))) marks i v l e m (λ d. f m (omega (arith, d)))

-- whole pages that are begun, and reduced
pub cut_finished : (key s w n : ℕ) (pages before marks : List ℕ) → w ≡ s → Begun key s w n pages before → Reduced key n before marks
    → Finished key s n pages marks
unfolding fingerprint_from
cut_finished key s w n pages before marks e b r i l = r i l ∙ b i l ∙ ap (λ (m : ℕ). rem key (value_from 1 (bits (page_front s m pages i)))) e

-- ---- the bytes of a page in the block

pub place-fits : (s n i len : ℕ) → i < n → n * s ≤ len → i * s + s ≤ len
place-fits s n i len l h = omega (arith, suc-mul i s, mul-le-mul_right s l, h)

pub front_cut : (a w : ℕ) (pages : List ℕ) → take (a + w - a) (drop a pages) ≡ take w (drop a pages)
front_cut a w pages = let e : a + w - a ≡ w = omega arith in rw e

-- the first w bytes, which x stands for, and the others behind them
pub page_finished : {key : ℕ} (pos : 0 < key) (s w i : ℕ) (pages : List ℕ) (x r : ℕ) → w ≤ s
    → rem key x ≡ rem key (value_from 1 (bits (page_front s w pages i)))
    → r ≡ rem key (value_from x (bits (take (i * s + s - (i * s + w)) (drop (i * s + w) pages))))
    → r ≡ fingerprint key (bits (page_front s s pages i))
unfolding fingerprint_from
page_finished {key} pos s w i pages x r l ex er =
    let e : i * s + s - (i * s + w) ≡ s - w = omega arith in
    let d : w + (s - w) ≡ s = omega arith in
    let rest = take (s - w) (drop (i * s + w) pages) in
    er
    ∙ ap (λ (n : ℕ). rem key (value_from x (bits (take n (drop (i * s + w) pages))))) e
    ∙ sym (rem-from pos x (bits rest))
    ∙ ap (λ (y : ℕ). rem key (value_from y (bits rest))) ex
    ∙ fed pos 1 (bits (page_front s w pages i)) (bits rest)
    ∙ ap (fingerprint key) (sym (bits-append (page_front s w pages i) rest))
    ∙ ap (λ (q : List ℕ). fingerprint key (bits q))
    (ap (λ (q : List ℕ). page_front s w pages i ++ take (s - w) q) (sym (drop-drop w (i * s) pages))
    ∙ sym (take-add w (s - w) (drop (i * s) pages))
    ∙ ap (λ (n : ℕ). take n (drop (i * s) pages)) d)
