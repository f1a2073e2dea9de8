-- Laws of lists of tests: the first refusal of a list that stands in the order of the numbers is the lowest that applies; what is
-- known where nothing is refused; when two lists of tests answer alike; and one test, by what the code finds.
use mathlib.Core.Path.{◌≡◌, refl, sym, ap, ◌∙◌}
use mathlib.Core.Bool.{Bool, true, false, not}
use mathlib.Core.List.{List, [], ◌∷◌, ◌++◌}
use Prim.Native.Nat.{ℕ, ◌<◌}
use native.Mathlib.Nat.{lt_trans}
use native.Mathlib.Omega.{arith}
use lib.Dec.{T, ltb, ltb→lt}
use borrow.Author.Tests.{not-true, not-false}
use Rattle.lists.specs.Lists.{All}
use Rattle.lists.proofs.Truth.{and_left, and_right}
use Rattle.lists.proofs.Lists.{all_map, rising}
use Rattle.refusals.specs.declared.Refusal.{Refusal}
use Rattle.refusals.specs.declared.Refusal.TheVariants.{KeyRange, KeyReducible, DegreeNotListed, ElementOutOfRange, TableSize}
use Rattle.refusals.specs.declared.Refusal.TheVariants.{TableWord, TooLong, MarkNotReduced, PageLengthsDiffer, PagePastEnd}
use Rattle.refusals.specs.declared.Refusal.TheVariants.{EmptyPattern, PageSize, BufferShort, SheetMalformed, FinalByte}
use Rattle.refusals.specs.Refusals.{number, Answer, Done, Refused, number_of, state_of, Test, ◌⇒◌, first_of}
use Rattle.refusals.specs.Lowest.{numbers, applying, least, lowest, foremost, GivesLowest, GivesFirst}

-- ---- the lowest number that applies

above : (b : ℕ) (ts : List Test) → T (rising b (numbers ts)) → All (λ n. b < n) (applying ts)
unfolding rising
above b [] t = tt
above b (true ⇒ r ∷ ts) t =
    let l = ltb→lt b (number r) (and_left (ltb b (number r)) (rising (number r) (numbers ts)) t) in
    (l, all_map (λ n h. lt_trans l h) (applying ts) (above (number r) ts (and_right (ltb b (number r)) (rising (number r) (numbers ts)) t)))
above b (false ⇒ r ∷ ts) t =
    let l = ltb→lt b (number r) (and_left (ltb b (number r)) (rising (number r) (numbers ts)) t) in
    all_map (λ n h. lt_trans l h) (applying ts) (above (number r) ts (and_right (ltb b (number r)) (rising (number r) (numbers ts)) t))

least-is : (n : ℕ) (ns : List ℕ) → All (λ m. n < m) ns → n ≡ least n ns
least-is n [] h = refl
least-is n (m ∷ ns) h = least-is n ns h.1 ∙ ap (λ (x : ℕ). least x ns) (omega (arith, h.0))

first-from : {S A : Type 0} (b : ℕ) (ts : List Test) (x : S) (y : A) → T (rising b (numbers ts)) → number_of (first_of ts x y) ≡ lowest (applying ts)
unfolding rising
first-from b [] x y t = refl
first-from b (true ⇒ r ∷ ts) x y t =
    least-is (number r) (applying ts) (above (number r) ts (and_right (ltb b (number r)) (rising (number r) (numbers ts)) t))
first-from b (false ⇒ r ∷ ts) x y t = first-from (number r) ts x y (and_right (ltb b (number r)) (rising (number r) (numbers ts)) t)

pub first-is-lowest : {S A : Type 0} (ts : List Test) (x : S) (y : A) → T (rising 0 (numbers ts)) → number_of (first_of ts x y) ≡ lowest (applying ts)
first-is-lowest ts x y t = first-from 0 ts x y t

first_applies : {S A : Type 0} (ts : List Test) (x : S) (y : A) → number_of (first_of ts x y) ≡ foremost (applying ts)
first_applies [] x y = refl
first_applies (true ⇒ r ∷ ts) x y = refl
first_applies (false ⇒ r ∷ ts) x y = first_applies ts x y

-- of a call, by its definition and its numbers
module _ {S A : Type 0} {ns : List ℕ} {ts : List Test} {answer : Answer S A} (kept : S) (value : A) (is : answer ≡ first_of ts kept value)
    (numbered : numbers ts ≡ ns) where
  pub gives-lowest : T (rising 0 ns) → GivesLowest ns ts answer
  gives-lowest t = record { numbered = numbered; given = ap number_of is ∙ first-is-lowest ts kept value (rw numbered t) }

  pub gives-first : GivesFirst ns ts answer
  gives-first = record { numbered = numbered; given = ap number_of is ∙ first_applies ts kept value }

-- ---- where nothing is refused

no_zero : (r : Refusal) → number r ≡ 0 → ⊥
no_zero KeyRange e = omega arith
no_zero KeyReducible e = omega arith
no_zero DegreeNotListed e = omega arith
no_zero ElementOutOfRange e = omega arith
no_zero TableSize e = omega arith
no_zero TableWord e = omega arith
no_zero TooLong e = omega arith
no_zero MarkNotReduced e = omega arith
no_zero PageLengthsDiffer e = omega arith
no_zero PagePastEnd e = omega arith
no_zero EmptyPattern e = omega arith
no_zero PageSize e = omega arith
no_zero BufferShort e = omega arith
no_zero SheetMalformed e = omega arith
no_zero FinalByte e = omega arith

module _ {S A : Type 0} where
  -- a test that fails may be left out
  pub skip : (ts us : List Test) (r : Refusal) (x : S) (y : A) → first_of (ts ++ false ⇒ r ∷ us) x y ≡ first_of (ts ++ us) x y
  skip [] us r x y = refl
  skip (true ⇒ q ∷ ts) us r x y = refl
  skip (false ⇒ q ∷ ts) us r x y = skip ts us r x y

  -- where nothing is refused, no test holds
  pub passed : (ts us : List Test) (b : Bool) (r : Refusal) (x : S) (y : A) → number_of (first_of (ts ++ b ⇒ r ∷ us) x y) ≡ 0 → b ≡ false
  passed [] us true r x y e = absurd (no_zero r e)
  passed [] us false r x y e = refl
  passed (true ⇒ q ∷ ts) us b r x y e = absurd (no_zero q e)
  passed (false ⇒ q ∷ ts) us b r x y e = passed ts us b r x y e

-- ---- a list of tests of which none holds

abbrev pub Clear : List Test → Type 0
Clear [] = Unit {0}
Clear (b ⇒ r ∷ ts) = (b ≡ false) × Clear ts

pub clear-done : {S A : Type 0} (ts : List Test) (x : S) (y : A) → Clear ts → first_of ts x y ≡ Done y
clear-done [] x y h = refl
clear-done (true ⇒ r ∷ ts) x y h = absurd (let z : ◌≡◌ {A = ℕ} 0 1 = cc h.0 in omega arith)
clear-done (false ⇒ r ∷ ts) x y h = clear-done ts x y h.1

pub done-clear : {S A : Type 0} (ts : List Test) (x : S) (y z : A) → first_of ts x y ≡ Done z → Clear ts × (y ≡ z)
done-clear [] x y z e = (tt, cc)
done-clear (true ⇒ r ∷ ts) x y z e = absurd (let z : ◌≡◌ {A = ℕ} 0 1 = cc in omega arith)
done-clear (false ⇒ r ∷ ts) x y z e = let i = done-clear ts x y z e in ((refl, i.0), i.1)

pub done-eq : {S A : Type 0} (x y : A) → ◌≡◌ {A = Answer S A} (Done x) (Done y) → x ≡ y
done-eq x y e = cc

pub clear-append : (ts us : List Test) → Clear ts → Clear us → Clear (ts ++ us)
clear-append [] us h k = k
clear-append (b ⇒ r ∷ ts) us h k = (h.0, clear-append ts us h.1 k)

-- more tests behind a list, and another state
pub more-refused : {A B S T : Type 0} (ts us : List Test) (s : S) (t : T) (v : A) (w : B) (q : Refusal) → first_of ts s v ≡ Refused q s
    → first_of (ts ++ us) t w ≡ Refused q t
more-refused [] us s t v w q e = absurd (let z : ◌≡◌ {A = ℕ} 0 1 = cc in omega arith)
more-refused (true ⇒ r ∷ ts) us s t v w q e = let d : r ≡ q = cc in rw d
more-refused (false ⇒ r ∷ ts) us s t v w q e = more-refused ts us s t v w q e

pub clear_behind : (ts us : List Test) → Clear (ts ++ us) → Clear us
clear_behind [] us h = h
clear_behind (b ⇒ r ∷ ts) us h = clear_behind ts us h.1

pub more-clear : {B : Type 0} {S : Type 0} (ts us : List Test) (s : S) (w : B) → Clear ts → first_of (ts ++ us) s w ≡ first_of us s w
more-clear [] us s w c = refl
more-clear (b ⇒ r ∷ ts) us s w c = rw c.0 (more-clear ts us s w c.1)

-- ---- two sides

-- the same tests on two sides: the same refusal, and on both sides what was kept or what comes next
pub agree : {A B : Type 0} (f : B → A) (ts : List Test) (kept next : B) (nxt : A) → (number_of (first_of ts kept next) ≡ 0 → nxt ≡ f next)
    → (state_of (first_of ts (f kept) nxt) ≡ f (state_of (first_of ts kept next))) × (number_of (first_of ts (f kept) nxt) ≡ number_of (first_of ts kept next))
agree f [] kept next nxt h = (h refl, refl)
agree f (true ⇒ r ∷ ts) kept next nxt h = (refl, refl)
agree f (false ⇒ r ∷ ts) kept next nxt h = agree f ts kept next nxt h

-- ---- one test, by what the code finds

module _ {S A : Type 0} (b : Bool) (r : Refusal) (ts : List Test) (s : S) (v : A) where
  pub first_true : b ≡ true → first_of (b ⇒ r ∷ ts) s v ≡ Refused r s
  first_true e = rw e

  pub first_false : b ≡ false → first_of (b ⇒ r ∷ ts) s v ≡ first_of ts s v
  first_false e = rw e

-- a function answers whether a test does not hold: what it says by each answer
pub holds : (r b : Bool) → r ≡ not b → not r ≡ true → b ≡ true
holds r b e t = not-false b (sym e ∙ not-true r t)

pub fails : (r b : Bool) → r ≡ not b → not r ≡ false → b ≡ false
fails r b e t = not-true b (sym e ∙ not-false r t)
