-- Standard input as the programs read it (document 01, "The printing program"): what a call of read answered, and what the calls gave so far.
use Rattle.std.specs.Prelude.{◌≡◌, Bool, true, false, cond, ℕ, zero, suc, ◌+◌, ◌^◌, ◌<◌, min, ltb, length, Result, Ok, Err}
use mathlib.Core.List.{List, [], ◌∷◌, flatten}
use Rattle.io.specs.Counts.{IsPrefixLen}
use Rattle.std.specs.IoError.{error_kind}
use Rattle.std.specs.declared.io.Error.{Error}
use Rattle.std.specs.declared.io.ErrorKind.{ErrorKind}
use Rattle.std.specs.declared.io.ErrorKind.TheVariants as ErrorKindCases
use Rattle.input_calls.specs.declared.Got.{Got}
use Rattle.input_calls.specs.declared.Got.TheVariants.{Bytes, End, Interrupted, Failed}
use Rattle.input_calls.specs.declared.Input.{Input}

-- a call that failed, by the kind of its error
abbrev pub failure : ErrorKind → Got
failure ErrorKindCases.Interrupted = Interrupted
failure kind = Failed

-- what a call of read answered, with a buffer of n bytes
abbrev pub outcome : Result ℕ Error → ℕ → Got
outcome (Ok zero) n = End
outcome (Ok (suc count)) n = Bytes (min (suc count) n)
outcome (Err error) n = failure (error_kind error)

-- how many bytes it gave; whether none is read behind it
abbrev pub given : Got → ℕ
given (Bytes n) = n
given End = 0
given Interrupted = 0
given Failed = 0

abbrev pub over : Got → Bool
over (Bytes n) = false
over End = true
over Interrupted = false
over Failed = true

-- the input before the first call, and behind one that gave something; a number of bytes that 64 bits do not hold is a failure
abbrev pub unread : Input
unread = record { bytes = 0; last = Bytes 0 }

abbrev pub abandoned : Input → Input
abandoned input = record { bytes = input.bytes; last = Failed }

abbrev pub after : Input → Got → Input
after input got = cond (ltb (input.bytes + given got) (2 ^ 64)) (record { bytes = input.bytes + given got; last = got }) (abandoned input)

-- bytes that a call gave are at least one, at the front of the buffer
abbrev pub InFront : Got → List ℕ → Type 0
InFront (Bytes n) buffer = (0 < n) × IsPrefixLen n buffer
InFront End buffer = Unit {0}
InFront Interrupted buffer = Unit {0}
InFront Failed buffer = Unit {0}

-- the input before and behind a read, and the buffer behind it: what the read gave is counted; behind the end or a failure the state stays
abbrev pub Reading : Bool → Input → Input → List ℕ → Type 0
Reading true input next buffer = next ≡ input
Reading false input next buffer = InFront next.last buffer × (next.bytes ≡ input.bytes + given next.last)

abbrev pub Read : Input → Input → List ℕ → Type 0
Read input next buffer = Reading (over input.last) input next buffer

-- the reads between two states of the input gave these parts, one after the other: none is empty, and they have as many bytes as were read
abbrev pub NonEmpty : List (List ℕ) → Type 0
NonEmpty [] = Unit {0}
NonEmpty (part ∷ parts) = (0 < length part) × NonEmpty parts

abbrev pub Gave : Input → List (List ℕ) → Input → Type 0
Gave input parts next = NonEmpty parts × (next.bytes ≡ input.bytes + length (flatten parts))
