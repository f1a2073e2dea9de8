-- What the printing program's text is promised to be (document 01, "The printing program").
use Rattle.std.specs.Prelude.{◌≡◌, ◌⊎◌, ℕ, Option, Some, None}
use mathlib.Core.List.{List, ◌++◌, flatten}
use Rattle.numerals.specs.Buffers.{PutInFront}
use Rattle.printing.specs.Printing.{printed}
use Rattle.input_calls.specs.declared.Got.{Got}
use Rattle.input_calls.specs.declared.Got.TheVariants.{End, Failed}
use Rattle.input_calls.specs.declared.Input.{Input}
use Rattle.input_calls.specs.Reading.{Gave}
use Rattle.mark.specs.declared.Text.{Text}

-- no byte behind these changes the text
abbrev pub Settled : List ℕ → Type 0
Settled bytes = (more : List ℕ) → printed (bytes ++ more) ≡ printed bytes

-- a buffer before and after, by what was read and what the last read gave: the text is at its front, where that was the end or more would change
-- nothing; or a read failed, and the buffer stays
abbrev pub Told : Option ℕ → List ℕ → Got → List ℕ → List ℕ → Type 0
Told (Some n) bytes got before after = PutInFront before after n (printed bytes) × ((got ≡ End) ⊎ Settled bytes)
Told None bytes got before after = (after ≡ before) × (got ≡ Failed)

-- the program, from a state of the input on
abbrev pub Ran : Input → List ℕ → List ℕ → Text → Type 0
Ran input before after r =
    (parts : List (List ℕ)) × (Gave input parts r.input × Told r.length (flatten parts) r.input.last before after)
