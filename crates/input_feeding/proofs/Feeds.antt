-- The parts that the program reads: feeding them one after another marks the file that they make.
use mathlib.Core.Path.{◌≡◌, refl, sym, ap, subst, ◌∙◌}
use mathlib.Core.List.{List, [], ◌∷◌, ◌++◌, flatten, append_assoc, append-nil}
use Prim.Native.Nat.{ℕ, ◌+◌, ◌*◌, ◌≤◌, ◌<◌}
use native.Mathlib.Decide.{dec_le}
use native.Mathlib.Omega.{arith}
use lib.ListN.{length, take, length-append}
use Rattle.std.specs.Prelude.{Option, Some, None, Result, Ok, Err}
use borrow.Author.Tests.{lt-ltb, le-ltb}
use Rattle.lists.specs.Lists.{list_from}
use Rattle.refusals.specs.declared.Refusal.{Refusal}
use Rattle.refusals.specs.declared.Refusal.TheVariants.{TooLong, MarkNotReduced, FinalByte}
use Rattle.refusals.specs.Refusals.{Answer, Done, Refused, ◌⇒◌, first_of, passes, longest}
use Rattle.refusals.proofs.Laws.{Clear, clear-done, done-clear, clear_behind, more-clear, more-refused, first_true}
use Rattle.refusals.proofs.Lengths.{within, sum-passes, sum_fits}
use Rattle.acceptance.specs.declared.Key.{Key}
use Rattle.acceptance.specs.Keys.{polynomial_of, key_tests}
use Rattle.acceptance.proofs.Laws.{accepted-pos, key_iff}
use Rattle.files.specs.declared.Mark.{Mark}
use Rattle.files.specs.Files.{bits, mark_of, Part, whole, part_length, part_bits, misused, unreduced, fed_mark, mark_from}
use Rattle.files.proofs.Values.{length-bits, bits-append}
use Rattle.files.proofs.Marks.{true_reduced, fed_true}
use Rattle.files.proofs.Parts.{whole_long, whole-bits, whole-used}
use Rattle.lookups.specs.Rule.{word}
use Rattle.tables.specs.Tables.{make_table}
use Rattle.table_tests.specs.TableTests.{table_size_test, table_tests}
use Rattle.table_tests.proofs.Laws.{size-passed, clear-table}
use Rattle.marks.specs.declared.Running.{Running}
use Rattle.mark_tests.specs.MarkTests.{feed_tests}
use Rattle.marks.specs.Feeding.{begin_from, begin, feed_table}
use Rattle.marks.specs.Answers.{mark_in, running, begun_under, fed_under}
use Rattle.printing.specs.Printing.{mark_file}
use Rattle.input_feeding.specs.declared.Stopped.{Stopped}
use Rattle.input_feeding.specs.declared.Stopped.TheVariants as StoppedCases
use Rattle.input_feeding.specs.declared.Unfed.{Unfed}
use Rattle.input_feeding.specs.declared.Unfed.TheVariants as UnfedCases
use Rattle.input_feeding.specs.declared.Marking.{Marking}
use Rattle.input_feeding.specs.Turns.{fed_on, Turned}
use Rattle.input_feeding.specs.Marking.{feeds, stateless, as_stopped, Gives, FedInParts, MarkedInParts}
use Rattle.input_calls.specs.declared.Got.{Got}
use Rattle.input_calls.specs.declared.Got.TheVariants.{Bytes, End, Interrupted, Failed}
use Rattle.input_calls.specs.declared.Input.{Input}
use Rattle.input_calls.specs.Reading.{given, Read, Gave}
use Rattle.input_reading.proofs.Given.{read-bytes, read_none, gave-none, gave-append, gave_one}

-- ---- one feed, in code

module _ (key : Key) where
  pub fed-next : (a : Answer Mark Mark) (next : Running) → Done next ≡ fed_under key a → (next.key ≡ key) × (a ≡ Done (mark_in next))
  fed-next (Done m) next e = let is : next ≡ running key m = cc in (ap (λ (x : Running). x.key) is, ap (λ (x : Running). Done (mark_in x)) (sym is))
  fed-next (Refused r m) next e = absurd (apart e)
    where
      apart : Done next ≡ fed_under key (Refused r m) → ⊥
      apart e = let z : ◌≡◌ {A = ℕ} 0 1 = cc in omega arith

  pub fed-refused : (a : Answer Mark Mark) (r : Refusal) (kept : Running) → Refused r kept ≡ fed_under key a → stateless a ≡ Refused r tt
  fed-refused (Done m) r kept e = cc
  fed-refused (Refused q m) r kept e = cc

-- a part that is fed makes the mark longer, within the limit
fed-longer : (x : Key) (m : Mark) (words part : List ℕ) (n : Mark) → feed_table x m words (whole part) ≡ Done n
    → (n.length ≡ m.length + 8 * length part) × (n.length ≤ longest)
unfolding feed_table fed_mark
fed-longer x m words part n e =
    let key = polynomial_of x in
    let d = done-clear (key_tests x ++ (table_tests key words ++ feed_tests key m (whole part))) m (fed_mark key m (whole part)) n e in
    let c = clear_behind (table_tests key words) (feed_tests key m (whole part))
    (clear_behind (key_tests x) (table_tests key words ++ feed_tests key m (whole part)) d.0) in
    let long : m.length + part_length (whole part) ≡ n.length = ap (λ (y : Mark). y.length) d.1 in
    let fits = within (m.length ∷ part_length (whole part) ∷ (m.length + part_length (whole part)) ∷ []) c.0 in
    (omega (arith, long, whole_long part), omega (arith, long, fits.1.1.0))

-- ---- feeds one after another

module _ (key : Key) (words : List ℕ) where
  stopped : (r : Refusal) (m : Mark) (parts : List (List ℕ)) → feeds key words (Refused r m) parts ≡ Refused r m
  stopped r m [] = refl
  stopped r m (part ∷ parts) = refl

  feeds-append : (a : Answer Mark Mark) (xs ys : List (List ℕ)) → feeds key words a (xs ++ ys) ≡ feeds key words (feeds key words a xs) ys
  feeds-append a [] ys = refl
  feeds-append (Done m) (x ∷ xs) ys = feeds-append (feed_table key m words (whole x)) xs ys
  feeds-append (Refused r m) (x ∷ xs) ys = sym (stopped r m ys)

-- what the turns have made of a running mark so far: the parts that the reads gave are fed to it
abbrev pub SoFar : Running → List ℕ → Input → Running → Input → Type 0
SoFar start words input m at =
    (m.key ≡ start.key)
    × ((parts : List (List ℕ)) × (Gave input parts at × (feeds start.key words (Done (mark_in start)) parts ≡ Done (mark_in m))))

pub at_first : (start : Running) (words : List ℕ) (input : Input) → SoFar start words input start input
at_first start words input = (refl, ([], (gave-none input input refl, refl)))

-- behind the end
pub at-end : (start : Running) (words : List ℕ) (input : Input) (m : Running) (at : Input) → SoFar start words input m at → at.last ≡ End
    → FedInParts start words input (record { marked = Ok m; input = at })
at-end start words input m at s e = (
  s.1.0,
  (
    s.1.1.0,
    (
      e,
      ap (λ (a : Answer Mark Mark). begun_under start.key (stateless a)) s.1.1.1
          ∙ ap (λ (k : Key). Done (running k (mark_in m))) (sym s.0),
    ),
  ),
)

-- what a turn answers
abbrev pub Step : Type 0
Step = Result (Option Running) Unfed

fed-on_next : (b : Answer Running Running) (now : Running) → ◌≡◌ {A = Step} (Ok (Some now)) (fed_on b) → Done now ≡ b
fed-on_next (Done m) now e = cc
fed-on_next (Refused r m) now e = absurd (let z : ◌≡◌ {A = ℕ} 0 1 = cc in omega arith)

fed-on_end : (b : Answer Running Running) → ◌≡◌ {A = Step} (Ok None) (fed_on b) → ⊥
fed-on_end (Done m) e = let z : ◌≡◌ {A = ℕ} 0 1 = cc in omega arith
fed-on_end (Refused r m) e = let z : ◌≡◌ {A = ℕ} 0 1 = cc in omega arith

fed-on_stopped : (b : Answer Running Running) (u : Unfed) → ◌≡◌ {A = Step} (Err u) (fed_on b)
    → (r : Refusal) × ((kept : Running) × ((u ≡ UnfedCases.Refused (record { mark = kept; refusal = r })) × (Refused r kept ≡ b)))
fed-on_stopped (Done m) u e = absurd (let z : ◌≡◌ {A = ℕ} 0 1 = cc in omega arith)
fed-on_stopped (Refused r m) u e = (r, (m, (cc, refl)))

-- what a turn leaves, by its answer
pub record Turn (start : Running) (words : List ℕ) (input : Input) (m : Running) (next : Input) (step : Step) : Type 0 where
  pub ends : step ≡ Ok None → FedInParts start words input (record { marked = Ok m; input = next })
  pub goes_on : (now : Running) → step ≡ Ok (Some now)
      → SoFar start words input now next × ((m.length < now.length) × (now.length ≤ longest))
  pub stops : (u : Unfed) → step ≡ Err u → FedInParts start words input (record { marked = Err (as_stopped u); input = next })

module _ (start : Running) (words : List ℕ) (input : Input) (m : Running) (at : Input) (s : SoFar start words input m at) where
  -- one part more
  one_more : (part : List ℕ) → feeds start.key words (Done (mark_in start)) (s.1.0 ++ part ∷ []) ≡ feed_table m.key (mark_in m) words (whole part)
  one_more part =
      feeds-append start.key words (Done (mark_in start)) s.1.0 (part ∷ [])
      ∙ ap (λ (a : Answer Mark Mark). feeds start.key words a (part ∷ [])) s.1.1.1
      ∙ ap (λ (k : Key). feed_table k (mark_in m) words (whole part)) (sym s.0)

  -- a read that gave nothing
  no_more : (next : Input) → next.bytes ≡ at.bytes → SoFar start words input m next
  no_more next e = (s.0, (s.1.0, ((s.1.1.0.0, e ∙ s.1.1.0.1), s.1.1.1)))

  -- one read, and the turn that feeds what it gave
  module _ (next : Input) (buffer : List ℕ) (read : Read at next buffer) (step : Step) where
    turn-none : given next.last ≡ 0 → SoFar start words input m next
    turn-none z = no_more next (read_none at next buffer read z)

    module _ (n : ℕ) (got : next.last ≡ Bytes n) (fed : Turned (Bytes n) m words buffer step) where
      abbrev part : List ℕ
      part = take n buffer

      gave : Gave input (s.1.0 ++ part ∷ []) next
      gave = gave-append input at next s.1.0 (part ∷ []) s.1.1.0 (gave_one at next buffer n read got)

      -- number 7 bounds the mark, and it is longer than before
      turn-next : (now : Running) → step ≡ Ok (Some now)
          → SoFar start words input now next × ((m.length < now.length) × (now.length ≤ longest))
      turn-next now e =
          let answer = feed_table m.key (mark_in m) words (whole part) in
          let h = fed-next m.key answer now (fed-on_next (fed_under m.key answer) now (sym e ∙ fed)) in
          let b = read-bytes at next buffer read n got in
          let g = fed-longer m.key (mark_in m) words part (mark_in now) h.1 in
          ((h.0 ∙ s.0, (s.1.0 ++ part ∷ [], (gave, one_more part ∙ h.1))), (omega (arith, g.0, b.0.0, b.0.1.1), g.1))

      turn-refused : (t : Unfed) → step ≡ Err t → FedInParts start words input (record { marked = Err (as_stopped t); input = next })
      turn-refused t e =
          let answer = feed_table m.key (mark_in m) words (whole part) in
          let f = fed-on_stopped (fed_under m.key answer) t (sym e ∙ fed) in
          subst (λ (x : Unfed). FedInParts start words input (record { marked = Err (as_stopped x); input = next })) (sym f.1.1.0)
          (s.1.0 ++ part ∷ [], (gave, ap (begun_under start.key) (ap stateless (one_more part) ∙ fed-refused m.key answer f.0 f.1.0 f.1.1.1)))

    turn-failed : (t : Unfed) → next.last ≡ Failed → t ≡ UnfedCases.Unread → FedInParts start words input (record { marked = Err (as_stopped t); input = next })
    turn-failed t l e =
        let so = turn-none (ap given l) in
        subst (λ (x : Unfed). FedInParts start words input (record { marked = Err (as_stopped x); input = next })) (sym e) (so.1.0, (so.1.1.0, l))

    pub turn_of : Turned next.last m words buffer step → (next.last ≡ Interrupted → ⊥) → Turn start words input m next step
    turn_of h never = go next.last refl h
      where
        go : (g : Got) → next.last ≡ g → Turned g m words buffer step → Turn start words input m next step
        go (Bytes n) l u = record {
          ends = λ e. absurd (fed-on_end (fed_under m.key (feed_table m.key (mark_in m) words (whole (take n buffer)))) (sym e ∙ u));
          goes_on = turn-next n l u;
          stops = turn-refused n l u;
        }
        go End l u = record {
          ends = λ e. at-end start words input m next (turn-none (ap given l)) l;
          goes_on = λ now e. absurd (let z : ◌≡◌ {A = ℕ} 0 1 = cc in omega arith);
          stops = λ t e. absurd (let z : ◌≡◌ {A = ℕ} 0 1 = cc in omega arith);
        }
        go Interrupted l u = absurd (never l)
        go Failed l u = record {
          ends = λ e. absurd (let z : ◌≡◌ {A = ℕ} 0 1 = cc in omega arith);
          goes_on = λ now e. absurd (let z : ◌≡◌ {A = ℕ} 0 1 = cc in omega arith);
          stops = λ t e. turn-failed t l cc;
        }

-- ---- feeding the parts is marking the file

module _ (x : Key) (h : Clear (key_tests x)) where
  abbrev key : ℕ
  key = polynomial_of x

  pos : 0 < key
  pos = accepted-pos (polynomial_of x) ((key_iff x).0 (h.0, h.1.0)).0

  -- the table that is made passes its tests
  table : List ℕ
  table = list_from (word 8 key) 0 1024

  made : (blank : List ℕ) → length blank ≡ 1024 → make_table x blank ≡ Done table
  unfolding table make_table
  made blank e =
      more-clear (key_tests x) (table_size_test blank ∷ []) blank (list_from (word 8 key) 0 1024) h
      ∙ size-passed blank [] blank (list_from (word 8 key) 0 1024) e

  tested : (m : Mark) (part : Part) → feed_table x m table part ≡ first_of (feed_tests key m part) m (fed_mark key m part)
  unfolding table feed_table
  tested m part =
      let words = list_from (word 8 key) 0 1024 in
      more-clear (key_tests x) (table_tests key words ++ feed_tests key m part) m (fed_mark key m part) h
      ∙ more-clear (table_tests key words) (feed_tests key m part) m (fed_mark key m part) (clear-table words key refl)

  -- whole bytes behind whole bytes
  module _ (file part : List ℕ) where
    abbrev before : Mark
    before = mark_of key (bits file)

    both_long : length (bits file) + part_length (whole part) ≡ 8 * length (file ++ part)
    both_long = omega (arith, length-bits file, whole_long part, length-append file part)

    both_bits : bits file ++ part_bits (whole part) ≡ bits (file ++ part)
    both_bits = ap (λ (l : List ℕ). bits file ++ l) (whole-bits part) ∙ sym (bits-append file part)

    feed-goes : 8 * length (file ++ part) ≤ longest → feed_table x before table (whole part) ≡ Done (mark_of key (bits (file ++ part)))
    unfolding mark_from
    feed-goes l =
        tested before (whole part)
        ∙ clear-done (feed_tests key before (whole part)) before (fed_mark key before (whole part))
        (sum_fits (length (bits file)) (part_length (whole part)) (omega (arith, both_long)), (true_reduced 1 key pos (bits file), (whole-used part, tt)))
        ∙ ap Done (fed_true 1 key pos (bits file) (whole part) ∙ ap (mark_of key) both_bits)

    feed-stops : longest < 8 * length (file ++ part) → feed_table x before table (whole part) ≡ Refused TooLong before
    unfolding mark_from
    feed-stops l =
        tested before (whole part)
        ∙ first_true _ TooLong (unreduced key before ⇒ MarkNotReduced ∷ misused (whole part) ⇒ FinalByte ∷ []) before (fed_mark key before (whole part))
        (sum-passes (length (bits file)) (part_length (whole part)) (omega (arith, both_long)))

  -- number 7 of a whole file
  abbrev judged : List ℕ → Answer Unit Mark
  judged file = first_of (passes (8 * length file ∷ []) ⇒ TooLong ∷ []) tt (mark_of key (bits file))

  short : (file : List ℕ) → 8 * length file ≤ longest → judged file ≡ Done (mark_of key (bits file))
  short file l = rw (le-ltb longest (8 * length file) l)

  long : (file : List ℕ) → longest < 8 * length file → judged file ≡ Refused TooLong tt
  long file l = rw (lt-ltb longest (8 * length file) l)

  feed-one : (file part : List ℕ) (parts : List (List ℕ)) → Dec (8 * length (file ++ part) ≤ longest)
      → (8 * length (file ++ part) ≤ longest
      → stateless (feeds x table (Done (mark_of key (bits (file ++ part)))) parts) ≡ judged (file ++ part ++ flatten parts))
      → stateless (feeds x table (feed_table x (mark_of key (bits file)) table (whole part)) parts) ≡ judged (file ++ (part ++ flatten parts))
  feed-one file part parts (yes l) ih =
      ap (λ (a : Answer Mark Mark). stateless (feeds x table a parts)) (feed-goes file part l)
      ∙ ih l
      ∙ ap judged (append_assoc file part (flatten parts))
  feed-one file part parts (no l) ih =
      let all = length-append file (part ++ flatten parts) in
      ap (λ (a : Answer Mark Mark). stateless (feeds x table a parts)) (feed-stops file part (omega arith))
      ∙ ap stateless (stopped x table TooLong (mark_of key (bits file)) parts)
      ∙ sym (long (file ++ (part ++ flatten parts)) (omega (arith, all, length-append part (flatten parts), length-append file part)))

  feeds-judged : (file : List ℕ) (parts : List (List ℕ)) → 8 * length file ≤ longest
      → stateless (feeds x table (Done (mark_of key (bits file))) parts) ≡ judged (file ++ flatten parts)
  unfolding flatten
  feeds-judged file [] l = sym (ap judged (append-nil file) ∙ short file l)
  feeds-judged file (part ∷ parts) l =
      feed-one file part parts (dec_le (8 * length (file ++ part)) longest) (λ m. feeds-judged (file ++ part) parts m)

  feeds_marked : (parts : List (List ℕ))
      → begun_under x (stateless (feeds x table (Done (mark_of key [])) parts)) ≡ mark_file x (flatten parts)
  unfolding mark_file bits
  feeds_marked parts =
      ap (begun_under x) (feeds-judged [] parts (omega arith))
      ∙ sym
      (ap (begun_under x)
      (more-clear (key_tests x) (passes (8 * length (flatten parts) ∷ []) ⇒ TooLong ∷ []) tt (mark_of key (bits (flatten parts))) h))

-- ---- the calls of `feed_first`, one after another, and what is read behind the first bytes

pub done_refused : {S A : Type 0} {a : A} {r : Refusal} {s : S} → ◌≡◌ {A = Answer S A} (Done a) (Refused r s) → ⊥
done_refused e = let z : ◌≡◌ {A = ℕ} 0 1 = cc in omega arith

module _ (key : Key) where
  -- a key that is refused
  pub begun-refused : (first : List ℕ) (r : Refusal) → Refused r tt ≡ begun_under key (begin key) → mark_file key first ≡ Refused r tt
  unfolding begin_from mark_file
  begun-refused first r e =
      let p = polynomial_of key in
      ap (begun_under key)
      (more-refused (key_tests key) (passes (8 * length first ∷ []) ⇒ TooLong ∷ []) tt tt (mark_of p []) (mark_of p (bits first)) r
      (go (begin key) refl e))
    where
      go : (a : Answer Unit Mark) → begin key ≡ a → Refused r tt ≡ begun_under key a → begin key ≡ Refused r tt
      go (Done m) t u = absurd (done_refused (sym u))
      go (Refused q s) t u = t ∙ cc

  -- a key that is accepted
  pub begun-clear : (m : Running) → Done m ≡ begun_under key (begin key) → Clear (key_tests key) × (m ≡ running key (mark_of (polynomial_of key) []))
  unfolding begin_from
  begun-clear m e = go (begin key) refl e
    where
      go : (a : Answer Unit Mark) → begin key ≡ a → Done m ≡ begun_under key a → Clear (key_tests key) × (m ≡ running key (mark_of (polynomial_of key) []))
      go (Done x) t u =
          let d = done-clear (key_tests key) tt (mark_of (polynomial_of key) []) x t in
          let is : m ≡ running key x = cc in
          (d.0, is ∙ ap (running key) (sym d.1))
      go (Refused q s) t u = absurd (done_refused u)

  module _ (first : List ℕ) (m : Running) (begun-is : Done m ≡ begun_under key (begin key)) (blank words : List ℕ) where
    clear : Clear (key_tests key)
    clear = (begun-clear m begun-is).0

    pub made_always : (r : Refusal) → Refused r words ≡ make_table key blank → 1024 ≡ length blank → ⊥
    made_always r e size = done_refused (sym (e ∙ made key clear blank (sym size)))

    module _ (e : Done words ≡ make_table key blank) (size : 1024 ≡ length blank) where
      table-words : words ≡ table key clear
      table-words = let d : ◌≡◌ {A = Answer (List ℕ) (List ℕ)} (Done words) (Done (table key clear)) = e ∙ made key clear blank (sym size) in cc

      -- the first bytes and the parts behind them, fed by the table that was made
      fed_marked : (parts : List (List ℕ))
          → begun_under key (stateless (feeds key words (feed_table m.key (mark_in m) words (whole first)) parts)) ≡ mark_file key (first ++ flatten parts)
      unfolding flatten
      fed_marked parts =
          rw ((begun-clear m begun-is).1, table-words) (feeds_marked key clear (first ∷ parts))

      pub first-refused : (r : Refusal) (kept : Running) → Refused r kept ≡ fed_under m.key (feed_table m.key (mark_in m) words (whole first))
          → mark_file key first ≡ Refused r tt
      unfolding flatten
      first-refused r kept u =
          ap (mark_file key) (sym (append-nil first))
          ∙ sym (fed_marked [])
          ∙ ap (begun_under key) (fed-refused m.key (feed_table m.key (mark_in m) words (whole first)) r kept u)

      pub rest_marked : (input : Input) (next : Running) (r : Marking)
          → Done next ≡ fed_under m.key (feed_table m.key (mark_in m) words (whole first)) → FedInParts next words input r
          → MarkedInParts key first input r
      rest_marked input next r u p = (p.0, (p.1.0, subst (Gives r.marked r.input.last) same p.1.1))
        where
          fed-is : (next.key ≡ m.key) × (feed_table m.key (mark_in m) words (whole first) ≡ Done (mark_in next))
          fed-is = fed-next m.key (feed_table m.key (mark_in m) words (whole first)) next u

          same : begun_under next.key (stateless (feeds next.key words (Done (mark_in next)) p.0)) ≡ mark_file key (first ++ flatten p.0)
          same =
              ap (λ (k : Key). begun_under k (stateless (feeds k words (Done (mark_in next)) p.0)))
              (fed-is.0 ∙ ap (λ (x : Running). x.key) (begun-clear m begun-is).1)
              ∙ ap (λ (a : Answer Mark Mark). begun_under key (stateless (feeds key words a p.0))) (sym fed-is.1)
              ∙ fed_marked p.0

-- where the first bytes are refused, nothing is read behind them
pub refused-marked : (key : Key) (first : List ℕ) (input : Input) (r : Refusal) → mark_file key first ≡ Refused r tt
    → MarkedInParts key first input (record { marked = Err (StoppedCases.Refused r); input = input })
unfolding flatten
refused-marked key first input r e = ([], (gave-none input input refl, ap (mark_file key) (append-nil first) ∙ e))
