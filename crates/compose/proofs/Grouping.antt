-- Joining in any grouping: the claims of specs/Grouping.antt, proved. Every grouping of acceptable marks comes to one answer: number 7 where the
-- lengths together pass the limit, and else the value of the grouping.
use mathlib.Core.Path.{◌≡◌, refl, sym, ap, ap₂, ◌∙◌}
use mathlib.Core.Bool.{Bool, true, false, cond}
use mathlib.Core.List.{List, [], ◌∷◌, ◌++◌, map, flatten, append_assoc, append-nil}
use Prim.Native.Nat.{ℕ, ◌+◌, ◌^◌, ◌≤◌, ◌<◌}
use native.Mathlib.Nat.{add_assoc, add-zero, zero-add}
use native.Mathlib.Decide.{dec_le}
use native.Mathlib.Omega.{arith}
use lib.Dec.{ltb}
use borrow.Author.Tests.{lt-leb, lt-ltb, le-ltb}
use Rattle.gf2.specs.Polynomials.{degree}
use Rattle.gf2.proofs.Residues.{rem_lt}
use Rattle.refusals.specs.declared.Refusal.TheVariants.{TooLong}
use Rattle.refusals.specs.Refusals.{Answer, Done, Refused, number_of, Test, ◌⇒◌, first_of, longest}
use Rattle.refusals.proofs.Lengths.{sum_fits, sum-passes}
use Rattle.refusals.proofs.Laws.{done-clear}
use Rattle.acceptance.specs.declared.Key.{Key}
use Rattle.acceptance.specs.Keys.{accepted, polynomial_of, key_of, key_tests}
use Rattle.acceptance.proofs.Laws.{accepted-pos, whole-key}
use Rattle.acceptance.proofs.Opened.{open_accepted, opened-first}
use Rattle.files.specs.declared.Mark.{Mark}
use Rattle.files.specs.Files.{fingerprint_from, mark_from, joined_from}
use Rattle.files.proofs.Marks.{joined_true}
use Rattle.files.proofs.Grouping.{joined_assoc, empty-joined}
use Rattle.compose.specs.Composing.{marks_tests, join_tests, join_behind_from, join_in_front_from}
use Rattle.compose.specs.Grouping.{Acceptable, stateless, EitherCall, and_then, left_first, right_first, AnyTwoFirst, EmptyNothing, Grouping, One, Both}
use Rattle.compose.specs.Grouping.{marks, AllAcceptable, joined_by, joined_in_turn, AnyGrouping, together, GroupingNumber, GroupingTrue}
use Rattle.compose.proofs.Laws.{marks_swap, marks-long, marks-passed}

-- ---- a joining from either mark

first-stateless : {S A : Type 0} (ts : List Test) (kept : S) (value : A) → stateless (first_of ts kept value) ≡ first_of ts tt value
first-stateless [] kept value = refl
first-stateless (true ⇒ r ∷ ts) kept value = refl
first-stateless (false ⇒ r ∷ ts) kept value = first-stateless ts kept value

pub either_call : EitherCall
unfolding join_behind_from join_in_front_from
either_call s x a b =
    first-stateless (join_tests x a b) a (joined_from s (polynomial_of x) a b)
    ∙ ap (λ (ts : List Test). first_of (key_tests x ++ ts) tt (joined_from s (polynomial_of x) a b)) (marks_swap (polynomial_of x) a b)
    ∙ sym (first-stateless (join_tests x b a) b (joined_from s (polynomial_of x) a b))

-- ---- the answer: refused with 7 where n passes the limit, and else the mark

limited : {S : Type 0} → S → ℕ → Mark → Answer S Mark
limited kept n m = cond (ltb longest n) (Refused TooLong kept) (Done m)

module _ {S : Type 0} (kept : S) (n : ℕ) (m : Mark) where
  fits : n ≤ longest → limited kept n m ≡ Done m
  unfolding limited
  fits l = rw (le-ltb longest n l)

  long : longest < n → limited kept n m ≡ Refused TooLong kept
  unfolding limited
  long l = rw (lt-ltb longest n l)

  stateless-limited : stateless (limited kept n m) ≡ limited tt n m
  unfolding limited
  stateless-limited = go (ltb longest n)
    where
      go : (b : Bool) → stateless (cond b (Refused TooLong kept) (Done m)) ≡ cond b (Refused TooLong tt) (Done m)
      go true = refl
      go false = refl

  number-limited : number_of (limited kept n m) ≡ cond (ltb longest n) 7 0
  unfolding limited
  number-limited = go (ltb longest n)
    where
      go : (b : Bool) → number_of (cond b (Refused TooLong kept) (Done m)) ≡ cond b 7 0
      go true = refl
      go false = refl

-- a call that goes on behind it
then_limited : {S : Type 0} (kept : S) (n : ℕ) (m : Mark) (next : Mark → Answer Unit Mark) (total : ℕ) (after : Mark)
    → n ≤ total → (n ≤ longest → next m ≡ limited tt total after) → and_then (limited kept n m) next ≡ limited tt total after
then_limited {S} kept n m next total after more h = go (dec_le n longest)
  where
    go : Dec (n ≤ longest) → and_then (limited kept n m) next ≡ limited tt total after
    go (yes l) = ap (λ (r : Answer S Mark). and_then r next) (fits kept n m l) ∙ h l
    go (no l) = ap (λ (r : Answer S Mark). and_then r next) (long kept n m (omega arith)) ∙ sym (long tt total after (omega arith))

-- ---- two marks

module _ (s key : ℕ) (acc : accepted key ≡ true) where
  pos : 0 < key
  pos = accepted-pos key acc

  module _ (a b : Mark) (ha : Acceptable key a) (hb : Acceptable key b) where
    -- the tests of two acceptable marks come down to their lengths together
    tests-limited : {S : Type 0} (kept : S) (value : ℕ → Mark)
        → first_of (join_tests (key_of key) a b) kept (value (polynomial_of (key_of key))) ≡ limited kept (a.length + b.length) (value key)
    tests-limited kept value =
        opened-first (open_accepted key acc) (marks_tests (polynomial_of (key_of key)) a b) kept (value (polynomial_of (key_of key)))
        ∙ ap (λ (q : ℕ). first_of (marks_tests q a b) kept (value q)) (whole-key key pos)
        ∙ go (dec_le (a.length + b.length) longest)
      where
        go : Dec (a.length + b.length ≤ longest) → first_of (marks_tests key a b) kept (value key) ≡ limited kept (a.length + b.length) (value key)
        go (yes l) =
            marks-passed key a b kept (value key) (sum_fits a.length b.length l) (lt-leb (2 ^ degree key) a.fingerprint ha.1)
            (lt-leb (2 ^ degree key) b.fingerprint hb.1)
            ∙ sym (fits kept (a.length + b.length) (value key) l)
        go (no l) =
            marks-long key a b kept (value key) (sum-passes a.length b.length (omega arith))
            ∙ sym (long kept (a.length + b.length) (value key) (omega arith))

    behind-limited : join_behind_from s (key_of key) a b ≡ limited a (a.length + b.length) (joined_from s key a b)
    unfolding join_behind_from
    behind-limited = tests-limited a (λ (q : ℕ). joined_from s q a b)

    front-limited : join_in_front_from s (key_of key) a b ≡ limited a (a.length + b.length) (joined_from s key b a)
    unfolding join_in_front_from
    front-limited = tests-limited a (λ (q : ℕ). joined_from s q b a)

    joined-acceptable : a.length + b.length ≤ longest → Acceptable key (joined_from s key a b)
    unfolding joined_from
    joined-acceptable l = (l, rem_lt pos _)

  joined-long : (a b : Mark) → (joined_from s key a b).length ≡ a.length + b.length
  unfolding joined_from
  joined-long a b = refl

-- ---- the empty mark

module _ (s key : ℕ) where
  empty-acceptable : 0 < key → Acceptable key (mark_from s key [])
  unfolding mark_from fingerprint_from
  empty-acceptable pos = (omega arith, rem_lt pos _)

  empty-long : (mark_from s key []).length ≡ 0
  unfolding mark_from
  empty-long = refl

pub empty_nothing : EmptyNothing
empty_nothing s key m acc h =
    let pos = accepted-pos key acc in
    let e = empty-acceptable s key pos in
    let z = empty-long s key in
    let same = empty-joined s key m pos h.1 in
    let behind : m.length + (mark_from s key []).length ≤ longest = omega (arith, z, h.0) in
    let in-front : (mark_from s key []).length + m.length ≤ longest = omega (arith, z, h.0) in (
      behind-limited s key acc m (mark_from s key []) h e ∙ fits m _ _ behind ∙ ap Done same.0,
      front-limited s key acc m (mark_from s key []) h e ∙ fits m _ _ behind ∙ ap Done same.1,
      behind-limited s key acc (mark_from s key []) m e h ∙ fits (mark_from s key []) _ _ in-front ∙ ap Done same.1,
      front-limited s key acc (mark_from s key []) m e h ∙ fits (mark_from s key []) _ _ in-front ∙ ap Done same.0,
    )

-- ---- any grouping

together-append : (a b : List Mark) → together (a ++ b) ≡ together a + together b
together-append [] b = sym (zero-add (together b))
together-append (m ∷ a) b = ap (λ (n : ℕ). m.length + n) (together-append a b) ∙ sym (add_assoc m.length (together a) (together b))

-- every mark of a list
abbrev Each : (Mark → Type 0) → List Mark → Type 0
Each P [] = Unit {0}
Each P (m ∷ ms) = P m × Each P ms

each_append : (P : Mark → Type 0) (a b : List Mark) → Each P a → Each P b → Each P (a ++ b)
each_append P [] b h k = k
each_append P (m ∷ a) b h k = (h.0, each_append P a b h.1 k)

each-acceptable : (key : ℕ) (g : Grouping) → AllAcceptable key g → Each (Acceptable key) (marks g)
each-acceptable key (One m) h = (h, tt)
each-acceptable key (Both g k) h = each_append (Acceptable key) (marks g) (marks k) (each-acceptable key g h.0) (each-acceptable key k h.1)

-- below 2^k
abbrev Low : ℕ → Mark → Type 0
Low key m = m.fingerprint < 2 ^ degree key

each-low : (key : ℕ) (ms : List Mark) → Each (Acceptable key) ms → Each (Low key) ms
each-low key [] h = tt
each-low key (m ∷ ms) h = (h.0.1, each-low key ms h.1)

module _ (s key : ℕ) where
  -- the mark of a grouping, and of a list from a mark on
  value : Grouping → Mark
  value (One m) = m
  value (Both g h) = joined_from s key (value g) (value h)

  in_turn : Mark → List Mark → Mark
  in_turn m [] = m
  in_turn m (n ∷ ns) = in_turn (joined_from s key m n) ns

  turn-append : (m : Mark) (a b : List Mark) → in_turn m (a ++ b) ≡ in_turn (in_turn m a) b
  unfolding in_turn
  turn-append m [] b = refl
  turn-append m (n ∷ a) b = turn-append (joined_from s key m n) a b

  -- a grouping joined behind a mark is its marks joined behind it in turn
  behind-value : 0 < key → (m : Mark) (g : Grouping) → joined_from s key m (value g) ≡ in_turn m (marks g)
  unfolding value in_turn
  behind-value pos m (One n) = refl
  behind-value pos m (Both g h) =
      sym (joined_assoc s key m (value g) (value h) pos)
      ∙ ap (λ (x : Mark). joined_from s key x (value h)) (behind-value pos m g)
      ∙ behind-value pos (in_turn m (marks g)) h
      ∙ sym (turn-append m (marks g) (marks h))

  value-long : (g : Grouping) → (value g).length ≡ together (marks g)
  unfolding value joined_from
  value-long (One m) = sym (add-zero m.length)
  value-long (Both g h) = ap₂ (λ (x y : ℕ). x + y) (value-long g) (value-long h) ∙ sym (together-append (marks g) (marks h))

  value_low : 0 < key → (g : Grouping) → Each (Low key) (marks g) → Low key (value g)
  unfolding value joined_from
  value_low pos (One m) h = h.0
  value_low pos (Both g k) h = rem_lt pos _

  value_in_turn : 0 < key → (g : Grouping) → Each (Low key) (marks g) → value g ≡ in_turn (mark_from s key []) (marks g)
  value_in_turn pos g h = sym (empty-joined s key (value g) pos (value_low pos g h)).1 ∙ behind-value pos (mark_from s key []) g

module _ (s key : ℕ) (acc : accepted key ≡ true) where
  value-acceptable : (g : Grouping) → AllAcceptable key g → together (marks g) ≤ longest → Acceptable key (value s key g)
  value-acceptable g h l =
      (omega (arith, value-long s key g, l), value_low s key (accepted-pos key acc) g (each-low key (marks g) (each-acceptable key g h)))

  abbrev ByLimited : Grouping → Type 0
  ByLimited g = joined_by s (key_of key) g ≡ limited tt (together (marks g)) (value s key g)

  both-limited : (g k : Grouping) → AllAcceptable key g → AllAcceptable key k → ByLimited g → ByLimited k → ByLimited (Both g k)
  unfolding value
  both-limited g k hg hk eg ek =
      let t = together-append (marks g) (marks k) in
      ap (λ (r : Answer Unit Mark). and_then r (λ m. and_then (joined_by s (key_of key) k) (λ n. stateless (join_behind_from s (key_of key) m n)))) eg
      ∙ then_limited tt _ _ _ _ _ (omega (arith, t))
      (λ l. ap (λ (r : Answer Unit Mark). and_then r (λ n. stateless (join_behind_from s (key_of key) (value s key g) n))) ek
      ∙ then_limited tt _ _ _ _ _ (omega (arith, t))
      (λ i. ap stateless (behind-limited s key acc (value s key g) (value s key k) (value-acceptable g hg l) (value-acceptable k hk i))
      ∙ stateless-limited _ _ _
      ∙ ap (λ (n : ℕ). limited tt n (joined_from s key (value s key g) (value s key k))) (omega (arith, value-long s key g, value-long s key k, t))))

  by_limited : (g : Grouping) → AllAcceptable key g → ByLimited g
  unfolding value
  by_limited (One m) h = sym (fits tt (m.length + 0) m (omega (arith, h.0)))
  by_limited (Both g k) h = both-limited g k h.0 h.1 (by_limited g h.0) (by_limited k h.1)

  abbrev TurnLimited : Mark → List Mark → Type 0
  TurnLimited m ns = joined_in_turn s (key_of key) m ns ≡ limited tt (m.length + together ns) (in_turn s key m ns)

  next-limited : (m n : Mark) (ns : List Mark) → Acceptable key m → Acceptable key n
      → (Acceptable key (joined_from s key m n) → TurnLimited (joined_from s key m n) ns) → TurnLimited m (n ∷ ns)
  unfolding in_turn
  next-limited m n ns hm hn next =
      ap (λ (r : Answer Mark Mark). and_then r (λ j. joined_in_turn s (key_of key) j ns)) (behind-limited s key acc m n hm hn)
      ∙ then_limited m _ _ _ _ _ (omega arith)
      (λ l. next (joined-acceptable s key acc m n hm hn l)
      ∙ ap (λ (i : ℕ). limited tt i (in_turn s key (joined_from s key m n) ns)) (omega (arith, joined-long s key acc m n)))

  turn-limited : (m : Mark) (ns : List Mark) → Acceptable key m → Each (Acceptable key) ns → TurnLimited m ns
  unfolding in_turn
  turn-limited m [] h k = sym (fits tt (m.length + 0) m (omega (arith, h.0)))
  turn-limited m (n ∷ ns) h k = next-limited m n ns h k.0 (λ a. turn-limited (joined_from s key m n) ns a k.1)

pub any_grouping : AnyGrouping
any_grouping s key g acc h =
    by_limited s key acc g h
    ∙ ap₂ (limited tt) (sym (ap (λ (n : ℕ). n + together (marks g)) (empty-long s key) ∙ zero-add (together (marks g))))
    (value_in_turn s key pos g (each-low key (marks g) each))
    ∙ sym (turn-limited s key acc (mark_from s key []) (marks g) (empty-acceptable s key pos) each)
  where
    pos : 0 < key
    pos = accepted-pos key acc

    each : Each (Acceptable key) (marks g)
    each = each-acceptable key g h

-- ---- three marks: two groupings

then_stateless : {S A B : Type 0} (r : Answer S A) (next : A → Answer Unit B) → and_then r next ≡ and_then (stateless r) next
then_stateless (Done a) next = refl
then_stateless (Refused q k) next = refl

then_same : {S A B : Type 0} (r : Answer S A) (f g : A → Answer Unit B) → ((a : A) → f a ≡ g a) → and_then r f ≡ and_then r g
then_same (Done a) f g e = e a
then_same (Refused q k) f g e = refl

left_grouped : (s : ℕ) (x : Key) (a b c : Mark) → left_first s x a b c ≡ joined_by s x (Both (Both (One a) (One b)) (One c))
left_grouped s x a b c = then_stateless (join_behind_from s x a b) (λ m. stateless (join_behind_from s x m c))

right_grouped : (s : ℕ) (x : Key) (a b c : Mark) → right_first s x a b c ≡ joined_by s x (Both (One a) (Both (One b) (One c)))
right_grouped s x a b c =
    then_same (join_behind_from s x b c) (λ m. stateless (join_in_front_from s x m a)) (λ m. stateless (join_behind_from s x a m))
    (λ m. sym (either_call s x a m))
    ∙ then_stateless (join_behind_from s x b c) (λ m. stateless (join_behind_from s x a m))

pub any_two-first : AnyTwoFirst
any_two-first s key a b c acc ha hb hc =
    left_grouped s (key_of key) a b c
    ∙ any_grouping s key (Both (Both (One a) (One b)) (One c)) acc ((ha, hb), hc)
    ∙ sym (any_grouping s key (Both (One a) (Both (One b) (One c))) acc (ha, (hb, hc)))
    ∙ sym (right_grouped s (key_of key) a b c)

pub grouping_number : GroupingNumber
grouping_number s key g acc h = ap number_of (by_limited s key acc g h) ∙ number-limited tt (together (marks g)) (value s key g)

-- ---- true marks

then_done : {S A B : Type 0} (r : Answer S A) (next : A → Answer Unit B) (z : B) → and_then r next ≡ Done z → (y : A) × ((r ≡ Done y) × (next y ≡ Done z))
then_done (Done y) next z e = (y, (refl, e))
then_done (Refused q s) next z e = absurd (let no : ◌≡◌ {A = ℕ} 0 1 = cc in omega arith)

stateless-done : {S A : Type 0} (r : Answer S A) (z : A) → stateless r ≡ Done z → r ≡ Done z
stateless-done (Done y) z e = cc
stateless-done (Refused q s) z e = absurd (let no : ◌≡◌ {A = ℕ} 0 1 = cc in omega arith)

module _ (s key : ℕ) (pos : 0 < key) where
  -- a joining that is not refused gives its value
  behind-done : (a b m : Mark) → join_behind_from s (key_of key) a b ≡ Done m → joined_from s key a b ≡ m
  unfolding join_behind_from
  behind-done a b m e =
      ap (λ (q : ℕ). joined_from s q a b) (sym (whole-key key pos))
      ∙ (done-clear (join_tests (key_of key) a b) a (joined_from s (polynomial_of (key_of key)) a b) m e).1

  by_done : (g : Grouping) (m : Mark) → joined_by s (key_of key) g ≡ Done m → value s key g ≡ m
  unfolding value
  by_done (One n) m e = cc
  by_done (Both g h) m e =
      let a = then_done (joined_by s (key_of key) g) (λ x. and_then (joined_by s (key_of key) h) (λ y. stateless (join_behind_from s (key_of key) x y))) m e in
      let b = then_done (joined_by s (key_of key) h) (λ y. stateless (join_behind_from s (key_of key) a.0 y)) m a.1.1 in
      ap₂ (joined_from s key) (by_done g a.0 a.1.0) (by_done h b.0 b.1.0)
      ∙ behind-done a.0 b.0 m (stateless-done (join_behind_from s (key_of key) a.0 b.0) m b.1.1)

  turn_true : (file : List ℕ) (files : List (List ℕ))
      → in_turn s key (mark_from s key file) (map (mark_from s key) files) ≡ mark_from s key (file ++ flatten files)
  unfolding in_turn flatten
  turn_true file [] = ap (mark_from s key) (sym (append-nil file))
  turn_true file (f ∷ files) =
      ap (λ (m : Mark). in_turn s key m (map (mark_from s key) files)) (joined_true s pos file f)
      ∙ turn_true (file ++ f) files
      ∙ ap (mark_from s key) (append_assoc file f (flatten files))

  true_low : (files : List (List ℕ)) → Each (Low key) (map (mark_from s key) files)
  unfolding mark_from fingerprint_from
  true_low [] = tt
  true_low (f ∷ files) = (rem_lt pos _, true_low files)

pub grouping_true : GroupingTrue
grouping_true s key g files m pos e d =
    sym (by_done s key pos g m d)
    ∙ value_in_turn s key pos g (rw e (true_low s key pos files))
    ∙ ap (in_turn s key (mark_from s key [])) e
    ∙ turn_true s key pos [] files
