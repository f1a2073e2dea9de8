-- The plain book (document 01, "The plain book of demand 3"), for any level of delivery: what a level brings, the book beside a
-- list of its calls, and what such a list must bring. "The book is kept under one accepted key and holds one file".
use Rattle.std.specs.Prelude.{◌≡◌, List, [], ◌∷◌, ℕ}
use Rattle.refusals.specs.Refusals.{Answer, state_of, number_of, Test, first_of}

pub record Level : Type 1 where
  -- what the book holds, and its size: a file and its length
  pub Kept : Type 0
  pub size : Kept → ℕ
  -- what is carried along, and the one that is true of what the book holds, under a key: a mark
  pub State : Type 0
  pub truth : ℕ → Kept → State
  -- a call: its arguments, except the key and the mark carried along. "A joined mark [..] comes with a file".
  pub Call : Type 0
  -- what the call does to the mark carried along, under a key: the definitions that the code's promises cite
  pub step : ℕ → State → Call → Answer State State
  -- the numbers under "Who can cause a refusal", "judged by what the book is told, the key and the file's length"
  pub tests : ℕ → ℕ → Call → List Test
  -- the book's file after a call that is not refused
  pub written : Kept → Call → Kept
  -- "Calls not refused bring true marks and true old bytes."
  pub Brings : ℕ → Kept → Call → Type 0

-- the book: it sees no mark carried along and no answer. Where a number applies, "the file stays, whatever was handed in".
unfoldable pub book_step : (L : Level) → ℕ → L.Kept → L.Call → Answer L.Kept L.Kept
book_step L key kept c = first_of (L.tests key (L.size kept) c) kept (L.written kept c)

-- "Each call gets the key, and the fingerprint and length that the last one returned or left": the state after the list, and for
-- each call its refusal's number, or 0
module _ {S C : Type 0} (step : S → C → Answer S S) where
  unfoldable pub run : S → List C → S × List ℕ
  run s [] = (s, [])
  run s (c ∷ cs) = ((run (state_of (step s c)) cs).0, number_of (step s c) ∷ (run (state_of (step s c)) cs).1)

-- each call that is not refused brings what it should; a refused one may bring anything
abbrev pub Honest : (L : Level) → ℕ → L.Kept → List L.Call → Type 0
Honest L key kept [] = Unit {0}
Honest L key kept (c ∷ cs) = (number_of (book_step L key kept c) ≡ 0 → L.Brings key kept c) × Honest L key (state_of (book_step L key kept c)) cs

-- a list of calls whose book ends with the file, and the mark that it leaves. "at first the empty one, or any other whose
-- true mark the list starts from"
pub record Leaves (L : Level) (key : ℕ) (kept : L.Kept) (left : L.State) : Type 0 where
  pub first : L.Kept
  pub calls : List L.Call
  pub honest : Honest L key first calls
  pub ends : (run (book_step L key) first calls).0 ≡ kept
  pub leaves : (run (L.step key) (L.truth key first) calls).0 ≡ left
