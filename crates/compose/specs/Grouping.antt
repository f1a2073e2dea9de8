-- Joining in any grouping (document 02, wish 12): what is claimed of the calls, their numbers included. The office joins "day marks into weeks and
-- weeks into seasons": a, b, c stay neighbours, and which two of them go first does not matter. Both kinds of marks: s is 1 for ours, 0 for plain marks.
use Rattle.std.specs.Prelude.{◌≡◌, true, cond, ℕ, ◌+◌, ◌^◌, ◌≤◌, ◌<◌, ltb}
use mathlib.Core.List.{List, [], ◌∷◌, ◌++◌, map, flatten}
use Rattle.gf2.specs.Polynomials.{degree}
use Rattle.refusals.specs.Refusals.{Answer, Done, Refused, number_of, longest}
use Rattle.acceptance.specs.declared.Key.{Key}
use Rattle.acceptance.specs.Keys.{accepted, key_of}
use Rattle.files.specs.declared.Mark.{Mark}
use Rattle.files.specs.Files.{mark_from}
use Rattle.compose.specs.Composing.{join_behind_from, join_in_front_from}

-- "acceptable by itself": neither 7 nor 8 applies to the mark
abbrev pub Acceptable : ℕ → Mark → Type 0
Acceptable key m = (m.length ≤ longest) × (m.fingerprint < 2 ^ degree key)

-- ---- two joinings, one after the other

-- the mark or the refusal; not the state that came back, which may be another mark in another grouping
abbrev pub stateless : {S A : Type 0} → Answer S A → Answer Unit A
stateless (Done a) = Done a
stateless (Refused r s) = Refused r tt

-- a joining may be made from either mark: the other one behind, or in front
abbrev pub EitherCall : Type 0
EitherCall = (s : ℕ) (x : Key) (a b : Mark) → stateless (join_behind_from s x a b) ≡ stateless (join_in_front_from s x b a)

-- a refused joining ends it with its number
abbrev pub and_then : {S A B : Type 0} → Answer S A → (A → Answer Unit B) → Answer Unit B
and_then (Done a) next = next a
and_then (Refused r s) next = Refused r tt

abbrev pub left_first : ℕ → Key → Mark → Mark → Mark → Answer Unit Mark
left_first s x a b c = and_then (join_behind_from s x a b) (λ m. stateless (join_behind_from s x m c))

abbrev pub right_first : ℕ → Key → Mark → Mark → Mark → Answer Unit Mark
right_first s x a b c = and_then (join_behind_from s x b c) (λ m. stateless (join_in_front_from s x m a))

-- "the same mark or refusal number whichever two neighbours go first"
abbrev pub AnyTwoFirst : Type 0
AnyTwoFirst =
    (s key : ℕ) (a b c : Mark) → accepted key ≡ true → Acceptable key a → Acceptable key b → Acceptable key c
    → left_first s (key_of key) a b c ≡ right_first s (key_of key) a b c

-- "the empty mark joined before or behind an acceptable one changes nothing"
abbrev pub EmptyNothing : Type 0
EmptyNothing =
    (s key : ℕ) (m : Mark) → accepted key ≡ true → Acceptable key m
    → let e = mark_from s key [] in
    (join_behind_from s (key_of key) m e ≡ Done m)
    × (join_in_front_from s (key_of key) m e ≡ Done m)
    × (join_behind_from s (key_of key) e m ≡ Done m)
    × (join_in_front_from s (key_of key) e m ≡ Done m)

-- ---- any number of marks, at any depth

pub data Grouping : Type 0 where
  One : Mark → Grouping
  Both : Grouping → Grouping → Grouping

-- its marks, in their order
abbrev pub marks : Grouping → List Mark
marks (One m) = m ∷ []
marks (Both g h) = marks g ++ marks h

abbrev pub AllAcceptable : ℕ → Grouping → Type 0
AllAcceptable key (One m) = Acceptable key m
AllAcceptable key (Both g h) = AllAcceptable key g × AllAcceptable key h

-- joined as it is grouped
abbrev pub joined_by : ℕ → Key → Grouping → Answer Unit Mark
joined_by s x (One m) = Done m
joined_by s x (Both g h) = and_then (joined_by s x g) (λ m. and_then (joined_by s x h) (λ n. stateless (join_behind_from s x m n)))

-- from a mark on, one behind the other
abbrev pub joined_in_turn : ℕ → Key → Mark → List Mark → Answer Unit Mark
joined_in_turn s x m [] = Done m
joined_in_turn s x m (n ∷ ns) = and_then (join_behind_from s x m n) (λ j. joined_in_turn s x j ns)

-- any grouping comes to the marks joined one behind the other, from the empty file's mark on
abbrev pub AnyGrouping : Type 0
AnyGrouping =
    (s key : ℕ) (g : Grouping) → accepted key ≡ true → AllAcceptable key g
    → joined_by s (key_of key) g ≡ joined_in_turn s (key_of key) (mark_from s key []) (marks g)

-- the lengths together
abbrev pub together : List Mark → ℕ
together [] = 0
together (m ∷ ms) = m.length + together ms

-- its number is 7 where the lengths together pass the limit, and else it is not refused
abbrev pub GroupingNumber : Type 0
GroupingNumber =
    (s key : ℕ) (g : Grouping) → accepted key ≡ true → AllAcceptable key g
    → number_of (joined_by s (key_of key) g) ≡ cond (ltb longest (together (marks g))) 7 0

-- the true marks of files, in a grouping that is not refused, give the mark of the files joined
abbrev pub GroupingTrue : Type 0
GroupingTrue =
    (s key : ℕ) (g : Grouping) (files : List (List ℕ)) (m : Mark) → 0 < key → marks g ≡ map (mark_from s key) files
    → joined_by s (key_of key) g ≡ Done m → m ≡ mark_from s key (flatten files)
