-- What the call answers after the tests of the key, by the tests that it has made: for the proof of `search_under`.
use mathlib.Core.Path.{◌≡◌, refl, sym, ap, ap₂, ◌∙◌}
use mathlib.Core.Bool.{Bool, true, false, ◌&&◌, ◌||◌, not}
use mathlib.Core.List.{List, [], ◌∷◌}
use Prim.Native.Nat.{ℕ, ◌+◌, ◌-◌, ◌*◌, ◌<◌}
use native.Mathlib.Omega.{arith}
use lib.Dec.{ltb}
use lib.ListN.{length}
use borrow.Author.Tests.{eq-eqb, ne_eqb}
use Rattle.lists.specs.Lists.{passing, overlay}
use Rattle.lists.proofs.Lent.{overlay-none}
use Rattle.refusals.specs.declared.Refusal.TheVariants.{TooLong, EmptyPattern}
use Rattle.refusals.specs.Refusals.{Answer, Done, Refused, state_of, first_of, longest, passes}
use Rattle.comparing.specs.declared.Counts.{Counts}
use Rattle.search.specs.Searching.{windows, is_place, places, alarms, counts, text_tests}

-- number 7, as the code finds it of both lengths
pub both-fit : (x y : Bool) (m n : ℕ) → x ≡ not (passes (8 * m ∷ [])) → y ≡ not (passes (8 * n ∷ [])) → (x && y) ≡ not (passes (8 * m ∷ 8 * n ∷ []))
both-fit x y m n a b = ap₂ (λ (v w : Bool). v && w) a b ∙ neither (ltb longest (8 * m)) (ltb longest (8 * n))
  where
    neither : (p q : Bool) → (not (p || false) && not (q || false)) ≡ not (p || (q || false))
    neither true q = refl
    neither false q = refl

module _ (key : ℕ) (text pattern words : List ℕ) where
  -- the answer, and the words after the call
  abbrev pub Answers : Answer Unit Counts → List ℕ → Type 0
  Answers r after =
      (r ≡ first_of (text_tests text pattern) tt (counts key text pattern))
      × (after ≡ state_of (first_of (text_tests text pattern) words (overlay (places text pattern) words)))

  pub call_long : passes (8 * length text ∷ 8 * length pattern ∷ []) ≡ true → Answers (Refused TooLong tt) words
  call_long e = (rw e, rw e)

  module _ (short : passes (8 * length text ∷ 8 * length pattern ∷ []) ≡ false) where
    pub call_empty : length pattern ≡ 0 → Answers (Refused EmptyPattern tt) words
    call_empty e = (rw (short, eq-eqb (length pattern) 0 e), rw (short, eq-eqb (length pattern) 0 e))

    pub call_done : (length pattern ≡ 0 → ⊥) → Answers (Done (counts key text pattern)) (overlay (places text pattern) words)
    call_done n = (rw (short, ne_eqb (length pattern) 0 n), rw (short, ne_eqb (length pattern) 0 n))

    -- a pattern longer than the text has no windows
    pub call_none : (length pattern ≡ 0 → ⊥) → length text < length pattern → Answers (Done (record { places = 0; alarms = 0 })) words
    unfolding counts places alarms passing windows
    call_none n l =
        let e : length text + 1 - length pattern ≡ 0 = omega arith in
        let d = call_done n in
        (ap Done (rw e) ∙ d.0, sym (overlay-none words) ∙ ap (λ (n : ℕ). overlay (passing (is_place text pattern) 0 n) words) (sym e) ∙ d.1)
