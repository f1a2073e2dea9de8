-- For callers in Rattle: the answers of the calls in code as an `Answer`, with the running mark.
use Rattle.std.specs.Prelude.{Result, Ok, Err}
use Rattle.refusals.specs.Refusals.{Answer, Done, Refused}
use Rattle.acceptance.specs.declared.Key.{Key}
use Rattle.files.specs.declared.Mark.{Mark}
use Rattle.marks.specs.declared.Running.{Running}
use Rattle.marks.specs.declared.RefusedMark.{RefusedMark}

abbrev pub mark_in : Running → Mark
mark_in r = record { fingerprint = r.fingerprint; length = r.length }

abbrev pub running : Key → Mark → Running
running x m = record { key = x; fingerprint = m.fingerprint; length = m.length }

-- of a call on a running mark: on refusal with the mark as it was handed in
abbrev pub fed : {A : Type 0} → Result A RefusedMark → Answer Running A
fed (Ok a) = Done a
fed (Err e) = Refused e.refusal e.mark

-- the same answer about running marks under one key
abbrev pub begun_under : Key → Answer Unit Mark → Answer Unit Running
begun_under x (Done m) = Done (running x m)
begun_under x (Refused r s) = Refused r s

abbrev pub fed_under : Key → Answer Mark Mark → Answer Running Running
fed_under x (Done m) = Done (running x m)
fed_under x (Refused r m) = Refused r (running x m)
