-- What the definitions come to: the places are the offsets at which the pattern stands in the text, rising; the false alarms are the windows
-- with its fingerprint and other bytes.
use mathlib.Core.Path.{◌≡◌, refl, sym, ap, ◌∙◌}
use mathlib.Core.Logic.{inl, inr, ◌≢◌}
use mathlib.Core.Bool.{Bool, true, false, not, true≢false, cond}
use mathlib.Core.List.{List, [], ◌∷◌}
use Prim.Native.Nat.{ℕ, zero, suc, ◌+◌, ◌-◌, ◌≤◌, ◌<◌}
use native.Mathlib.Decide.{ℕ_discrete}
use native.Mathlib.Omega.{arith}
use borrow.Author.Tests.{eq-eqb, eqb-true, not-true}
use lib.Dec.{eqb}
use lib.ListN.{length, take, drop}
use Rattle.lists.specs.Lists.{passing, All}
use Rattle.lists.proofs.Lists.{Passes, all-passing, passing-above}
use Rattle.lists.proofs.Truth.{and_both, by_cases}
use Rattle.files.specs.Files.{bits, fingerprint}
use Rattle.search.specs.Searching.{windows, is_place, is_alarm, places, alarms}
use Rattle.search.specs.Claims.{In, Rising, PlacesIff, PlacesRising, AlarmsIff, AlarmsRising}
use Rattle.comparing.proofs.Comparing.{same-is, same_refl}

-- what holds of every entry holds of one
entry : (P : ℕ → Type 0) (i : ℕ) (ns : List ℕ) → All P ns → In i ns → P i
entry P i [] a s = absurd s
entry P i (n ∷ ns) a (inl e) = rw (← e) a.0
entry P i (n ∷ ns) a (inr s) = entry P i ns a.1 s

module _ (test : ℕ → Bool) where
  passing-rising : (n c : ℕ) → Rising (passing test n c)
  unfolding passing
  passing-rising n zero = tt
  passing-rising n (suc c) = go (test n) (passing-rising (suc n) c)
    where
      go : (b : Bool) → Rising (passing test (suc n) c) → Rising (cond b (n ∷ passing test (suc n) c) (passing test (suc n) c))
      go true h = (passing-above test n c, h)
      go false h = h

  passing_in : (i n c : ℕ) → In i (passing test n c) → Passes test n c i
  passing_in i n c s = entry (Passes test n c) i (passing test n c) (all-passing test n c) s

  in_passing : (i n c : ℕ) → n ≤ i → i < n + c → test i ≡ true → In i (passing test n c)
  unfolding passing
  in_passing i n zero l h e = absurd (omega arith)
  in_passing i n (suc c) l h e = go (test n) refl (ℕ_discrete n i) (λ m. in_passing i (suc n) c m (omega arith) e)
    where
      go : (b : Bool) → test n ≡ b → Dec (n ≡ i) → (suc n ≤ i → In i (passing test (suc n) c))
          → In i (cond b (n ∷ passing test (suc n) c) (passing test (suc n) c))
      go true f (yes q) k = inl q
      go true f (no q) k = inr (k (omega arith))
      go false f (yes q) k = absurd (true≢false (sym e ∙ ap test (sym q) ∙ f))
      go false f (no q) k = k (omega arith)

-- the test of a place compares the window's bytes
module _ (text pattern : List ℕ) (i : ℕ) where
  place-there : is_place text pattern i ≡ true → take (length pattern) (drop i text) ≡ pattern
  unfolding is_place
  place-there e = same-is (take (length pattern) (drop i text)) pattern e

  place-back : take (length pattern) (drop i text) ≡ pattern → is_place text pattern i ≡ true
  unfolding is_place
  place-back e = rw e (same_refl pattern)

  no_place : take (length pattern) (drop i text) ≢ pattern → is_place text pattern i ≡ false
  no_place n = by_cases (is_place text pattern i) (λ e. n (place-there e))

pub places-rising : PlacesRising
unfolding places
places-rising text pattern = passing-rising (is_place text pattern) 0 (windows text pattern)

pub places_iff : PlacesIff
unfolding places windows
places_iff text pattern i = (
  λ s. let p = passing_in (is_place text pattern) i 0 (length text + 1 - length pattern) s in
      (omega (arith, p.below), place-there text pattern i p.holds),
  λ h. in_passing (is_place text pattern) i 0 (length text + 1 - length pattern) (omega arith) (omega (arith, h.0)) (place-back text pattern i h.1),
)

-- a false alarm: a window with the pattern's fingerprint and other bytes
module _ (key : ℕ) (text pattern : List ℕ) (i : ℕ) where
  -- the window's fingerprint
  abbrev there : ℕ
  there = fingerprint key (bits (take (length pattern) (drop i text)))

  -- what is said of the window's bytes
  abbrev Alarm : Type 0
  Alarm = (there ≡ fingerprint key (bits pattern)) × (take (length pattern) (drop i text) ≢ pattern)

  alarm_there : is_alarm key text pattern i ≡ true → Alarm
  unfolding is_alarm
  alarm_there e =
      let h = and_both (eqb there (fingerprint key (bits pattern))) (not (is_place text pattern i)) e in (
        eqb-true there (fingerprint key (bits pattern)) h.0,
        (λ q. true≢false (sym (place-back text pattern i q) ∙ not-true (is_place text pattern i) h.1)),
      )

  alarm_back : Alarm → is_alarm key text pattern i ≡ true
  unfolding is_alarm
  alarm_back (e, n) =
      rw (eq-eqb there (fingerprint key (bits pattern)) e, no_place text pattern i n)

pub alarms_iff : AlarmsIff
unfolding alarms windows
alarms_iff key text pattern i = (
  λ s. let p = passing_in (is_alarm key text pattern) i 0 (length text + 1 - length pattern) s in
      let a = alarm_there key text pattern i p.holds in
      (omega (arith, p.below), a.0, a.1),
  λ h. in_passing (is_alarm key text pattern) i 0 (length text + 1 - length pattern) (omega arith) (omega (arith, h.0))
      (alarm_back key text pattern i (h.1, h.2)),
)

pub alarms-rising : AlarmsRising
unfolding alarms
alarms-rising key text pattern = passing-rising (is_alarm key text pattern) 0 (windows text pattern)
