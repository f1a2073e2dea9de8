-- For inner functions: a reader of the promises need not read this page. The first bytes of the input, and what is read behind them.
use Rattle.std.specs.Prelude.{◌≡◌, true, false, ◌⊎◌, ℕ, take}
use mathlib.Core.List.{List, ◌++◌, flatten}
use Rattle.io.specs.Counts.{IsPrefixLen}
use Rattle.key_lines.specs.Deciding.{undecided}
use Rattle.input_calls.specs.declared.Got.TheVariants.{End}
use Rattle.input_calls.specs.declared.Input.{Input}
use Rattle.input_calls.specs.Reading.{over, Gave}
use Rattle.mark.specs.declared.Text.{Text}
use Rattle.mark.specs.declared.Head.{Head}
use Rattle.mark.specs.Program.{Told}

-- the parts that the reads gave stand at the front of the head, and decide the key's line unless the input is over
abbrev pub HeadRead : Input → List ℕ → Head → Type 0
HeadRead input head r =
    IsPrefixLen r.count head
    × (((undecided (take r.count head) ≡ false) ⊎ (over r.input.last ≡ true))
    × ((parts : List (List ℕ)) × (Gave input parts r.input × (flatten parts ≡ take r.count head))))

-- the head decides the key's line, or is the whole input
abbrev pub Known : List ℕ → Input → Type 0
Known head input = (undecided head ≡ false) ⊎ (input.last ≡ End)

-- the text for the head and the parts that the reads gave behind it
abbrev pub Answered : List ℕ → Input → List ℕ → List ℕ → Text → Type 0
Answered head input before after r =
    (parts : List (List ℕ)) × (Gave input parts r.input × Told r.length (head ++ flatten parts) r.input.last before after)
