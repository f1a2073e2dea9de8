-- Refusals (document 01, "Who can cause a refusal"): the number of each, what a call answers, and how its tests choose the number.
use Rattle.std.specs.Prelude.{Bool, true, false, ◌||◌, List, [], ◌∷◌, ℕ, ltb}
use Rattle.refusals.specs.declared.Refusal.{Refusal}
use Rattle.refusals.specs.declared.Refusal.TheVariants.{KeyRange, KeyReducible, DegreeNotListed, ElementOutOfRange, TableSize, TableWord}
use Rattle.refusals.specs.declared.Refusal.TheVariants.{TooLong, MarkNotReduced, PageLengthsDiffer, PagePastEnd, EmptyPattern, PageSize}
use Rattle.refusals.specs.declared.Refusal.TheVariants.{BufferShort, SheetMalformed, FinalByte}

abbrev pub number : Refusal → ℕ
number KeyRange = 1
number KeyReducible = 2
number DegreeNotListed = 3
number ElementOutOfRange = 4
number TableSize = 5
number TableWord = 6
number TooLong = 7
number MarkNotReduced = 8
number PageLengthsDiffer = 9
number PagePastEnd = 10
number EmptyPattern = 11
number PageSize = 12
number BufferShort = 13
number SheetMalformed = 14
number FinalByte = 19

-- ---- what a call answers: its value, or a refusal with the state handed in. A call that keeps no state has S = Unit.

pub data Answer (S A : Type 0) : Type 0 where
  Done : A → Answer S A
  Refused : Refusal → S → Answer S A

-- the number that the caller is told: 0 where the call was not refused
abbrev pub number_of : {S A : Type 0} → Answer S A → ℕ
number_of (Done a) = 0
number_of (Refused r s) = number r

-- the state after a call that changes a state of one type
abbrev pub state_of : {A : Type 0} → Answer A A → A
state_of (Done a) = a
state_of (Refused r a) = a

-- what a lent place holds after a call that writes its value there: on refusal what it held before
abbrev pub value_or : {S A : Type 0} → A → Answer S A → A
value_or before (Done a) = a
value_or before (Refused r s) = before

-- the same answer, with f of the value
abbrev pub mapped : {S A B : Type 0} → (A → B) → Answer S A → Answer S B
mapped f (Done a) = Done (f a)
mapped f (Refused r s) = Refused r s

-- ---- the tests of a call

-- a test, and the refusal where it holds
infix 68 ◌⇒◌
pub data Test : Type 0 where
  ◌⇒◌ : Bool → Refusal → Test

-- The first refusal whose test holds, or the value. Every list of tests but a sheet's stands in the order of the numbers, so that
-- the first is the lowest (specs/Lowest.antt).
abbrev pub first_of : {S A : Type 0} → List Test → S → A → Answer S A
first_of [] kept value = Done value
first_of (true ⇒ r ∷ ts) kept value = Refused r kept
first_of (false ⇒ r ∷ ts) kept value = first_of ts kept value

-- tests alone
abbrev pub judged : List Test → Answer Unit Unit
judged ts = first_of ts tt tt

-- ---- number 7: one of the lengths, in bits, passes the limit of 34,359,738,360, which is 8 × 4,294,967,295

abbrev pub longest : ℕ
longest = 34359738360

abbrev pub passes : List ℕ → Bool
passes [] = false
passes (n ∷ ns) = ltb longest n || passes ns
