-- Laws of replies: what a caller of a function that judges knows in each arm, and what the functions for C tell of a reply.
use mathlib.Core.Path.{◌≡◌, refl, sym, ap, ◌∙◌}
use mathlib.Core.Bool.{true, false}
use mathlib.Core.List.{List, [], ◌∷◌, ◌++◌}
use Prim.Native.Nat.{ℕ}
use Rattle.refusals.specs.declared.Refusal.{Refusal}
use Rattle.std.specs.Prelude.{Result, Ok, Err}
use Rattle.refusals.specs.Refusals.{Answer, Done, Refused, number_of, state_of, value_or, mapped, Test, ◌⇒◌, first_of, judged}
use Rattle.refusals.specs.Answers.{reply, told}
use Rattle.refusals.proofs.Laws.{Clear, done-clear, more-refused}

-- the tests that were judged, whatever stands behind them
module _ (ts : List Test) (r : Result Unit Refusal) (e : told r ≡ judged ts) where
  pub judged-refused : {S A : Type 0} (us : List Test) (s : S) (v : A) (q : Refusal) → r ≡ Err q → first_of (ts ++ us) s v ≡ Refused q s
  judged-refused us s v q a = more-refused ts us tt s tt v q (sym e ∙ ap told a)

  pub judged-clear : r ≡ Ok tt → Clear ts
  judged-clear a = (done-clear ts tt tt tt (sym e ∙ ap told a)).0

-- the number and the state of a reply, for the functions for C
reply-number : {A : Type 0} (left : A) (r : Result Unit Refusal) → number_of (told r) ≡ number_of (reply left r)
reply-number left (Ok u) = refl
reply-number left (Err q) = refl

reply_state : {A : Type 0} (left : A) (r : Result Unit Refusal) → left ≡ state_of (reply left r)
reply_state left (Ok u) = refl
reply_state left (Err q) = refl

pub replied : {A : Type 0} {left : A} {answer : Answer A A} (r : Result Unit Refusal) {n : ℕ} → reply left r ≡ answer → n ≡ number_of (told r)
    → (n ≡ number_of answer) × (left ≡ state_of answer)
replied {left = left} r e h = (h ∙ reply-number left r ∙ ap number_of e, reply_state left r ∙ ap state_of e)

-- On refusal the state is the one handed in: a function that writes nothing then leaves it.
pub first-keeps : {A : Type 0} (ts : List Test) (before value : A) → value_or before (first_of ts before value) ≡ state_of (first_of ts before value)
first-keeps [] before value = refl
first-keeps (true ⇒ r ∷ ts) before value = refl
first-keeps (false ⇒ r ∷ ts) before value = first-keeps ts before value

-- the same answer with f of the value: its number, and its tests
pub mapped-number : {S A B : Type 0} (f : A → B) (a : Answer S A) → number_of (mapped f a) ≡ number_of a
mapped-number f (Done a) = refl
mapped-number f (Refused r s) = refl

pub first-mapped : {S A B : Type 0} (f : A → B) (ts : List Test) (kept : S) (value : A) → first_of ts kept (f value) ≡ mapped f (first_of ts kept value)
first-mapped f [] kept value = refl
first-mapped f (true ⇒ r ∷ ts) kept value = refl
first-mapped f (false ⇒ r ∷ ts) kept value = first-mapped f ts kept value
