-- Laws of windows.
use mathlib.Core.Path.{◌≡◌, refl, ap, ◌∙◌}
use mathlib.Core.List.{List, [], ◌∷◌, ◌++◌}
use Prim.Native.Nat.{ℕ, suc, ◌+◌, ◌≤◌, ◌<◌}
use native.Mathlib.Omega.{arith}
use lib.ListN.{length, take, drop, get_or, length-take, length-drop}
use lib.Seq.{take-suc, take-length, drop-cons, get_or-drop, get_or-take}
use Rattle.rolling.specs.Rolling.{window}

module _ (m : ℕ) (text : List ℕ) (i : ℕ) where
  pub window-length : i + m ≤ length text → length (window m text i) ≡ m
  unfolding window
  window-length h = rw (length-take, length-drop) (omega arith)

  pub window-at : (j : ℕ) → j < m → get_or (window m text i) j 0 ≡ get_or text (i + j) 0
  unfolding window
  window-at j h = get_or-take m (drop i text) j 0 h ∙ get_or-drop i text j 0

  -- one byte more behind
  pub window_more : i + m < length text → window (suc m) text i ≡ window m text i ++ get_or text (i + m) 0 ∷ []
  unfolding window
  window_more h =
      take-suc (drop i text) m 0 (rw (length-drop i text) (omega arith))
      ∙ ap (λ (b : ℕ). take m (drop i text) ++ b ∷ []) (get_or-drop i text m 0)

  -- one byte more in front
  pub window-front : i < length text → window (suc m) text i ≡ get_or text i 0 ∷ window m text (suc i)
  unfolding window
  window-front h = ap (take (suc m)) (drop-cons text i 0 h)

pub window-none : (text : List ℕ) (i : ℕ) → window 0 text i ≡ []
unfolding window
window-none text i = refl

pub window-whole : (a : List ℕ) → window (length a) a 0 ≡ a
unfolding window
window-whole a = take-length a
