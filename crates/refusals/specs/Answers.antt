-- For callers in Rattle: an answer of the code, a value or a refusal, as an answer of the definitions.
use Rattle.std.specs.Prelude.{Result, Ok, Err}
use Rattle.refusals.specs.declared.Refusal.{Refusal}
use Rattle.refusals.specs.Refusals.{Answer, Done, Refused}

-- of a call that leaves nothing changed
abbrev pub told : {A : Type 0} → Result A Refusal → Answer Unit A
told (Ok a) = Done a
told (Err r) = Refused r tt

-- of a call that gives no value, with what it leaves: changed, or as it was handed in
abbrev pub reply : {A : Type 0} → A → Result Unit Refusal → Answer A A
reply left (Ok u) = Done left
reply left (Err r) = Refused r left
