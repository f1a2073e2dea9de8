-- For inner functions: a reader of the promises need not read this page. The parts that are read, as they are fed.
use Rattle.std.specs.Prelude.{◌≡◌, ℕ, Result, Ok, Err}
use mathlib.Core.List.{List, [], ◌∷◌, ◌++◌, flatten}
use Rattle.refusals.specs.declared.Refusal.{Refusal}
use Rattle.refusals.specs.Refusals.{Answer, Done, Refused}
use Rattle.acceptance.specs.declared.Key.{Key}
use Rattle.files.specs.declared.Mark.{Mark}
use Rattle.files.specs.Files.{whole}
use Rattle.marks.specs.declared.Running.{Running}
use Rattle.tables.specs.Tables.{make_table}
use Rattle.marks.specs.Feeding.{begin, feed_table}
use Rattle.marks.specs.Answers.{mark_in, begun_under, fed_under}
use Rattle.printing.specs.Printing.{mark_file}
use Rattle.input_calls.specs.declared.Got.{Got}
use Rattle.input_calls.specs.declared.Got.TheVariants as GotCases
use Rattle.input_calls.specs.declared.Input.{Input}
use Rattle.input_calls.specs.Reading.{Gave}
use Rattle.input_feeding.specs.declared.Stopped.{Stopped}
use Rattle.input_feeding.specs.declared.Stopped.TheVariants as StoppedCases
use Rattle.input_feeding.specs.declared.Unfed.{Unfed}
use Rattle.input_feeding.specs.declared.Unfed.TheVariants as UnfedCases
use Rattle.input_feeding.specs.declared.Marking.{Marking}

-- feeds by the words of a table, one after another, until one is refused
abbrev pub feeds : Key → List ℕ → Answer Mark Mark → List (List ℕ) → Answer Mark Mark
feeds key words a [] = a
feeds key words (Done m) (part ∷ parts) = feeds key words (feed_table key m words (whole part)) parts
feeds key words (Refused r m) (part ∷ parts) = Refused r m

-- an answer without the state handed in
abbrev pub stateless : Answer Mark Mark → Answer Unit Mark
stateless (Done m) = Done m
stateless (Refused r m) = Refused r tt

-- why there is no mark, by what a turn says
abbrev pub as_stopped : Unfed → Stopped
as_stopped (UnfedCases.Refused e) = StoppedCases.Refused e.refusal
as_stopped UnfedCases.Unread = StoppedCases.Unread

-- the code's answer, by what the last read gave: this one behind the end; this one, which is a refusal; none, where a read failed
abbrev pub Gives : Result Running Stopped → Got → Answer Unit Running → Type 0
Gives (Ok m) got a = (got ≡ GotCases.End) × (a ≡ Done m)
Gives (Err (StoppedCases.Refused r)) got a = a ≡ Refused r tt
Gives (Err StoppedCases.Unread) got a = got ≡ GotCases.Failed

-- the parts that the reads gave, fed one after another to a running mark
abbrev pub FedInParts : Running → List ℕ → Input → Marking → Type 0
FedInParts m words input r =
    (parts : List (List ℕ))
    × (Gave input parts r.input
    × Gives r.marked r.input.last (begun_under m.key (stateless (feeds m.key words (Done (mark_in m)) parts))))

-- the file of the first bytes and the parts that the reads gave behind them, marked
abbrev pub MarkedInParts : Key → List ℕ → Input → Marking → Type 0
MarkedInParts key first input r =
    (parts : List (List ℕ)) × (Gave input parts r.input × Gives r.marked r.input.last (mark_file key (first ++ flatten parts)))

-- the first bytes, fed by the table that was made where other words were; or a refusal, which is theirs
abbrev pub FirstFed : Key → List ℕ → List ℕ → List ℕ → Result Running Refusal → Type 0
FirstFed key first blank words (Ok next) =
    (m : Running)
    × (Done m ≡ begun_under key (begin key))
    × (Done words ≡ make_table key blank)
    × (Done next ≡ fed_under m.key (feed_table m.key (mark_in m) words (whole first)))
FirstFed key first blank words (Err r) = mark_file key first ≡ Refused r tt
