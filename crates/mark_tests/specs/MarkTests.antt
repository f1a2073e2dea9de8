-- The tests of a mark to which a part is fed (document 01, "Marks"; parts: document 02, wish 7): numbers 7, 8 and 19.
use Rattle.std.specs.Prelude.{List, [], ◌∷◌, ℕ, ◌+◌}
use Rattle.refusals.specs.declared.Refusal.TheVariants.{TooLong, MarkNotReduced, FinalByte}
use Rattle.refusals.specs.Refusals.{Test, ◌⇒◌, passes}
use Rattle.files.specs.declared.Mark.{Mark}
use Rattle.files.specs.Files.{unreduced, Part, part_length, misused}

-- number 7 of two lengths handed in that are added
abbrev pub sum_test : ℕ → ℕ → Test
sum_test a b = passes (a ∷ b ∷ (a + b) ∷ []) ⇒ TooLong

-- numbers 7, 8 and 19 of a mark to which a part is fed
abbrev pub feed_tests : ℕ → Mark → Part → List Test
feed_tests key m part = sum_test m.length (part_length part) ∷ unreduced key m ⇒ MarkNotReduced ∷ misused part ⇒ FinalByte ∷ []
