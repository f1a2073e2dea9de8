-- One call of the Site level beside one step of the book.
use mathlib.Core.Path.{◌≡◌, refl, ap, ◌∙◌}
use mathlib.Core.Bool.{Bool, true, not, ◌||◌}
use mathlib.Core.List.{List, [], ◌∷◌, ◌++◌, append_assoc}
use Prim.Native.Nat.{ℕ, ◌+◌, ◌*◌, ◌^◌, ◌≤◌, ◌<◌}
use native.Mathlib.Omega.{arith}
use lib.Dec.{ltb, eqb}
use lib.ListN.{length, take, drop, length-append, length-drop, take-append-drop}
use lib.Seq.{drop-drop, length-take-le}
use borrow.Author.Tests.{eqb-true, not-false, ltb-false}
use Rattle.gf2.specs.Polynomials.{◌⊕◌, rem}
use Rattle.refusals.specs.declared.Refusal.TheVariants.{TooLong, MarkNotReduced, PageLengthsDiffer, PagePastEnd, FinalByte}
use Rattle.refusals.specs.Refusals.{number_of, Test, ◌⇒◌, first_of, passes}
use Rattle.refusals.proofs.Laws.{passed}
use Rattle.acceptance.specs.Keys.{accepted, polynomial_of, key_of, key_tests}
use Rattle.acceptance.proofs.Laws.{accepted-pos, whole-key}
use Rattle.files.specs.declared.Mark.{Mark}
use Rattle.files.specs.Files.{mark_from, TrueFrom, unreduced, Part, part_length, part_bits, misused, joined_from, replaced}
use Rattle.files.proofs.Marks.{page, true_reduced, joined_true}
use Rattle.files.proofs.Parts.{part-length}
use Rattle.mark_tests.specs.MarkTests.{sum_test}
use Rattle.marks.proofs.Laws.{leave_out_8}
use Rattle.compose.specs.Composing.{marks_tests, join_tests, join_behind_from, join_in_front_from, page_tests, replace_page}
use Rattle.book.specs.Runs.{book_step}
use Rattle.book.proofs.RunLaws.{Keeps}
use Rattle.fed_parts.specs.Parts as feeds
use Rattle.bench_book.specs.Book as BenchLevel
use Rattle.bench_book.proofs.StepLaws as BenchLaws
use Rattle.bench_book.proofs.StepLaws.{Agrees, agrees_by}
use Rattle.site_book.specs.Book.{Call, Feeding, Behind, InFront, Page, step, book_tests, written, Brings, site_from}

module _ (s key : ℕ) (pos : 0 < key) (file : List ℕ) where
  feeding_agrees : (c : feeds.Feed) → Agrees s key (step s key (mark_from s key file) (Feeding c)) (book_step (site_from s) key file (Feeding c))
  unfolding step book_step book_tests written
  feeding_agrees c = BenchLaws.each s key pos file c

  -- a call gets the key as a pair, whose polynomial is the key
  is_key : polynomial_of (key_of key) ≡ key
  is_key = whole-key key pos

  -- the tests of a joining, this mark being true
  join-tests : (other : Mark) (x : Mark) (value : ℕ → Mark)
      → first_of (join_tests (key_of key) (mark_from s key file) other) x (value (polynomial_of (key_of key))) ≡ first_of
      (key_tests (key_of key) ++ sum_test (length file) other.length ∷ unreduced key other ⇒ MarkNotReduced ∷ []) x (value key)
  unfolding mark_from
  join-tests other x value =
      ap (λ (q : ℕ). first_of (key_tests (key_of key) ++ marks_tests q (mark_from s key file) other) x (value q)) is_key
      ∙ ap (λ (b : Bool). first_of (key_tests (key_of key) ++ sum_test (length file) other.length ∷ (b || unreduced key other) ⇒ MarkNotReduced ∷ []) x
      (value key))
      (true_reduced s key pos file)

  behind_agrees : (other : Mark) (its : List ℕ) → (number_of (book_step (site_from s) key file (Behind other its)) ≡ 0 → TrueFrom s key its other)
      → Agrees s key (step s key (mark_from s key file) (Behind other its)) (book_step (site_from s) key file (Behind other its))
  unfolding step join_behind_from book_step book_tests written
  behind_agrees other its h =
      agrees_by s key (join_behind_from s (key_of key) (mark_from s key file) other) (book_tests key (length file) (Behind other its)) file (file ++ its)
      (joined_from s key (mark_from s key file) other)
      (join-tests other (mark_from s key file) (λ (q : ℕ). joined_from s q (mark_from s key file) other))
      (λ e. ap (joined_from s key (mark_from s key file)) (h e) ∙ joined_true s pos file its)

  front_agrees : (other : Mark) (its : List ℕ) → (number_of (book_step (site_from s) key file (InFront other its)) ≡ 0 → TrueFrom s key its other)
      → Agrees s key (step s key (mark_from s key file) (InFront other its)) (book_step (site_from s) key file (InFront other its))
  unfolding step join_in_front_from book_step book_tests written
  front_agrees other its h =
      agrees_by s key (join_in_front_from s (key_of key) (mark_from s key file) other) (book_tests key (length file) (InFront other its)) file (its ++ file)
      (joined_from s key other (mark_from s key file))
      (join-tests other (mark_from s key file) (λ (q : ℕ). joined_from s q other (mark_from s key file)))
      (λ e. ap (λ (x : Mark). joined_from s key x (mark_from s key file)) (h e) ∙ joined_true s pos its file)

  page_agrees : (place : ℕ) (old new : Part)
      → (number_of (book_step (site_from s) key file (Page place old new)) ≡ 0 → take (part_length old) (drop (8 * place) file) ≡ part_bits old)
      → Agrees s key (step s key (mark_from s key file) (Page place old new)) (book_step (site_from s) key file (Page place old new))
  unfolding step replace_page book_step book_tests written mark_from
  page_agrees place old new h =
      agrees_by s key (replace_page (key_of key) (mark_from s key file) place old new) (key_tests (key_of key) ++ seven ∷ nine ∷ ten ∷ nineteen ∷ []) file to
      (replaced key (mark_from s key file) place old new)
      (ap (λ (q : ℕ). first_of (key_tests (key_of key) ++ page_tests q (mark_from s key file) place old new) (mark_from s key file)
      (replaced q (mark_from s key file) place old new)) is_key
      ∙ leave_out_8 s key pos file (key_tests (key_of key)) (seven ∷ []) (nine ∷ ten ∷ nineteen ∷ []) (mark_from s key file)
      (replaced key (mark_from s key file) place old new))
      (λ e. page s key file (mark_from s key file) place old new pos refl (same e) (inside e) (h e))
    where
      seven : Test
      seven = passes (length file ∷ part_length old ∷ part_length new ∷ []) ⇒ TooLong

      nine : Test
      nine = not (eqb (part_length old) (part_length new)) ⇒ PageLengthsDiffer

      ten : Test
      ten = ltb (length file) (8 * place + part_length old) ⇒ PagePastEnd

      nineteen : Test
      nineteen = (misused old || misused new) ⇒ FinalByte

      to : List ℕ
      to = take (8 * place) file ++ part_bits new ++ drop (8 * place + part_length old) file

      same : number_of (first_of (key_tests (key_of key) ++ seven ∷ nine ∷ ten ∷ nineteen ∷ []) file to) ≡ 0 → part_length old ≡ part_length new
      same e =
          eqb-true (part_length old) (part_length new)
          (not-false (eqb (part_length old) (part_length new)) (passed (key_tests (key_of key) ++ seven ∷ []) (ten ∷ nineteen ∷ [])
          (not (eqb (part_length old) (part_length new))) PageLengthsDiffer file to e))

      inside : number_of (first_of (key_tests (key_of key) ++ seven ∷ nine ∷ ten ∷ nineteen ∷ []) file to) ≡ 0 → 8 * place + part_length old ≤ length file
      inside e = ltb-false (length file) (8 * place + part_length old)
          (passed (key_tests (key_of key) ++ seven ∷ nine ∷ []) (nineteen ∷ []) (ltb (length file) (8 * place + part_length old)) PagePastEnd file to e)

  each : (c : Call) → (number_of (book_step (site_from s) key file c) ≡ 0 → Brings s key file c)
      → Agrees s key (step s key (mark_from s key file) c) (book_step (site_from s) key file c)
  each (Feeding c) h = feeding_agrees c
  each (Behind other its) h = behind_agrees other its h
  each (InFront other its) h = front_agrees other its h
  each (Page place old new) h = page_agrees place old new h

pub keeps : (s key : ℕ) → accepted key ≡ true → Keeps (site_from s) key
keeps s key a file c h = each s key (accepted-pos key a) file c h
