-- What is printed is what `printed` says of the input that the head and the parts behind it make.
use mathlib.Core.Path.{◌≡◌, refl, sym, ap, subst, ◌∙◌}
use mathlib.Core.Bool.{false}
use mathlib.Core.List.{List, [], ◌∷◌, ◌++◌, flatten, append-nil}
use mathlib.Core.Logic.{◌⊎◌, inl, inr}
use Prim.Native.Nat.{ℕ, ◌-◌, ◌*◌}
use native.Mathlib.Omega.{arith}
use lib.ListN.{length, take, drop, length-drop}
use Rattle.std.specs.Prelude.{Some, Result, Ok, Err}
use lib.Seq.{drop-append-le, take_all}
use Rattle.refusals.specs.declared.Refusal.{Refusal}
use Rattle.refusals.specs.declared.Refusal.TheVariants.{KeyRange, TooLong}
use Rattle.refusals.specs.Refusals.{Answer, Done, Refused, Test, ◌⇒◌, first_of, passes}
use Rattle.refusals.proofs.Laws.{done-clear}
use Rattle.acceptance.specs.declared.Key.{Key}
use Rattle.acceptance.specs.Keys.{polynomial_of, outside, key_tests}
use Rattle.files.specs.declared.Mark.{Mark}
use Rattle.files.specs.Files.{bits, mark_of}
use Rattle.marks.specs.declared.Running.{Running}
use Rattle.marks.specs.Answers.{begun_under}
use Rattle.key_lines.specs.declared.LineError.TheVariants.{NoKey, TooLarge}
use Rattle.key_lines.specs.KeyLines.{key_line}
use Rattle.key_lines.specs.Deciding.{undecided}
use Rattle.printing.specs.Printing.{no_key, refused, report, answer_text, mark_file, printed_after, printed}
use Rattle.printing.proofs.Settled.{none_settled, large_settled, refused_settled}
use Rattle.numerals.specs.Buffers.{PutInFront}
use Rattle.key_lines.proofs.Laws.{Line, key-within, key-stays}
use Rattle.input_calls.specs.declared.Got.TheVariants as GotCases
use Rattle.input_calls.specs.declared.Input.{Input}
use Rattle.input_reading.proofs.Given.{gave-none, gave-append, flatten_append}
use Rattle.input_feeding.specs.declared.Stopped.{Stopped}
use Rattle.input_feeding.specs.declared.Stopped.TheVariants as StoppedCases
use Rattle.input_feeding.specs.declared.Marking.{Marking}
use Rattle.input_feeding.specs.Marking.{Gives, MarkedInParts}
use Rattle.input_feeding.proofs.Feeds.{done_refused}
use Rattle.mark.specs.declared.Text.{Text}
use Rattle.mark.specs.declared.Head.{Head}
use Rattle.mark.specs.Program.{Settled, Told, Ran}
use Rattle.mark.specs.Heads.{HeadRead, Known, Answered}

-- the part of a list from a place on
pub from : (at : ℕ) (l : List ℕ) → take (length l - at) (drop at l) ≡ drop at l
from at l = take_all (length l - at) (drop at l) (omega (arith, length-drop at l))

module _ (head before after : List ℕ) (n : ℕ) (input : Input) (known : Known head input) where
  -- of the head alone
  head-printed : (line : Line) → key_line head ≡ line → (undecided head ≡ false → Settled head) → PutInFront before after n (printed_after line head)
      → Answered head input before after (record { length = Some n; input = input })
  unfolding flatten printed
  head-printed line e settles p = (
    [],
    (
      gave-none input input refl,
      (subst (PutInFront before after n) (sym (ap printed (append-nil head) ∙ ap (λ (l : Line). printed_after l head) e)) p, go known),
    ),
  )
    where
      go : Known head input → (input.last ≡ GotCases.End) ⊎ Settled (head ++ [])
      go (inl d) = inr (subst Settled (sym (append-nil head)) (settles d))
      go (inr l) = inl l

  pub none-printed : key_line head ≡ Err NoKey → PutInFront before after n no_key → Answered head input before after (record { length = Some n; input = input })
  none-printed e p = head-printed (Err NoKey) e (λ d more. none_settled head more d e) p

  pub large_printed : key_line head ≡ Err TooLarge → PutInFront before after n (refused KeyRange)
      → Answered head input before after (record { length = Some n; input = input })
  large_printed e p = head-printed (Err TooLarge) e (λ d more. large_settled head more e) p

-- of the file behind the key's line
module _ (head before after : List ℕ) (input : Input) (key : Key) (at : ℕ) (line : key_line head ≡ Ok (key, at)) (r : Marking)
    (p : MarkedInParts key (drop at head) input r) where
  file-at : drop at (head ++ flatten p.0) ≡ drop at head ++ flatten p.0
  file-at = drop-append-le at head (flatten p.0) (key-within head key at line)

  printed-is : (a : Answer Unit Running) → mark_file key (drop at head ++ flatten p.0) ≡ a → printed (head ++ flatten p.0) ≡ answer_text a
  unfolding printed
  printed-is a e =
      ap (λ (l : Line). printed_after l (head ++ flatten p.0)) (key-stays head (flatten p.0) key at line)
      ∙ ap (λ (file : List ℕ). answer_text (mark_file key file)) file-at
      ∙ ap answer_text e

  gives : (s : Result Running Stopped) → r.marked ≡ s → Gives s r.input.last (mark_file key (drop at head ++ flatten p.0))
  gives s e = subst (λ (x : Result Running Stopped). Gives x r.input.last (mark_file key (drop at head ++ flatten p.0))) e p.1.1

  pub done-printed : (n : ℕ) (m : Running) → r.marked ≡ Ok m → PutInFront before after n (report m)
      → Answered head input before after (record { length = Some n; input = r.input })
  done-printed n m e put =
      let g = gives (Ok m) e in
      (p.0, (p.1.0, (subst (PutInFront before after n) (sym (printed-is (Done m) g.1)) put, inl g.0)))

  pub refused-printed : (n : ℕ) (q : Refusal) → r.marked ≡ Err (StoppedCases.Refused q) → PutInFront before after n (refused q)
      → Answered head input before after (record { length = Some n; input = r.input })
  refused-printed n q e put =
      let g = gives (Err (StoppedCases.Refused q)) e in (
        p.0,
        (
          p.1.0,
          (
            subst (PutInFront before after n) (sym (printed-is (Refused q tt) g)) put,
            inr (λ more. refused_settled (head ++ flatten p.0) more key at q (key-stays head (flatten p.0) key at line) (ap (mark_file key) file-at ∙ g)),
          ),
        ),
      )

-- a mark that was made has a key to which number 1 does not apply
pub marked_range : (key : Key) (first : List ℕ) (input : Input) (r : Marking) (m : Running) → MarkedInParts key first input r
    → r.marked ≡ Ok m → outside m.key ≡ false
unfolding mark_file
marked_range key first input r m p e =
    go (first_of (key_tests key ++ rest) tt mark) refl (subst (λ (s : Result Running Stopped). Gives s r.input.last (mark_file key file)) e p.1.1).1
  where
    file : List ℕ
    file = first ++ flatten p.0

    rest : List Test
    rest = passes (8 * length file ∷ []) ⇒ TooLong ∷ []

    mark : Mark
    mark = mark_of (polynomial_of key) (bits file)

    key_in : Answer Unit Running → Key
    key_in (Done n) = n.key
    key_in (Refused q s) = key

    go : (a : Answer Unit Mark) → first_of (key_tests key ++ rest) tt mark ≡ a → begun_under key a ≡ Done m → outside m.key ≡ false
    go (Done x) t u =
        let is : key ≡ m.key = ap key_in u in
        rw (sym is) (done-clear (key_tests key ++ rest) tt mark x t).0.0
    go (Refused q s) t u = absurd (done_refused (sym u))

-- ---- the head, and what is read behind it

module _ (input : Input) (head : List ℕ) (h : Head) (read : HeadRead input head h) where
  pub head-answered : (before after : List ℕ) (r : Text) → Answered (take h.count head) h.input before after r → Ran input before after r
  head-answered before after r p = (
    read.1.1.0 ++ p.0,
    (
      gave-append input h.input r.input read.1.1.0 p.0 read.1.1.1.0 p.1.0,
      subst (λ (bytes : List ℕ). Told r.length bytes r.input.last before after)
          (ap (λ (l : List ℕ). l ++ flatten p.0) (sym read.1.1.1.1) ∙ sym (flatten_append read.1.1.0 p.0)) p.1.1,
    ),
  )
