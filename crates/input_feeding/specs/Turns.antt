-- The printing program's turns (document 01, "The printing program"): what a turn makes of what a read gave.
use Rattle.std.specs.Prelude.{◌≡◌, List, ℕ, take, Option, Some, None, Result, Ok, Err}
use Rattle.refusals.specs.Refusals.{Answer, Done, Refused}
use Rattle.files.specs.Files.{whole}
use Rattle.marks.specs.declared.Running.{Running}
use Rattle.marks.specs.Feeding.{feed_table}
use Rattle.marks.specs.Answers.{mark_in, fed_under}
use Rattle.input_calls.specs.declared.Got.{Got}
use Rattle.input_calls.specs.declared.Got.TheVariants as GotCases
use Rattle.input_feeding.specs.declared.Unfed.{Unfed}
use Rattle.input_feeding.specs.declared.Unfed.TheVariants as UnfedCases

-- the answer of a feed, as a turn hands it on: on refusal with the mark that goes back
abbrev pub fed_on : Answer Running Running → Result (Option Running) Unfed
fed_on (Done m) = Ok (Some m)
fed_on (Refused r m) = Err (UnfedCases.Refused (record { mark = m; refusal = r }))

-- bytes at the front of the buffer are fed to the running mark, the end is the end, and everything else is a failure
abbrev pub Turned : Got → Running → List ℕ → List ℕ → Result (Option Running) Unfed → Type 0
Turned (GotCases.Bytes n) m words buffer r = r ≡ fed_on (fed_under m.key (feed_table m.key (mark_in m) words (whole (take n buffer))))
Turned GotCases.End m words buffer r = r ≡ Ok None
Turned GotCases.Interrupted m words buffer r = r ≡ Err UnfedCases.Unread
Turned GotCases.Failed m words buffer r = r ≡ Err UnfedCases.Unread
