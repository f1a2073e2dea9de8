-- One call of the Bench level beside one step of the book.
use mathlib.Core.Path.{◌≡◌, ap, ◌∙◌}
use mathlib.Core.Bool.{true, false}
use mathlib.Core.List.{List, [], ◌∷◌, ◌++◌}
use Prim.Native.Nat.{ℕ, ◌+◌, ◌≤◌, ◌<◌}
use native.Mathlib.Omega.{arith}
use lib.ListN.{length}
use Rattle.refusals.specs.declared.Refusal.TheVariants.{FinalByte}
use Rattle.refusals.specs.Refusals.{Answer, Done, state_of, number_of, Test, ◌⇒◌, first_of, longest}
use Rattle.refusals.proofs.Laws.{Clear, agree, clear-done, more-clear}
use Rattle.refusals.proofs.Lengths.{sum_fits}
use Rattle.acceptance.specs.Keys.{accepted, polynomial_of, key_of, key_tests}
use Rattle.acceptance.proofs.Laws.{accepted-pos, whole-key}
use Rattle.acceptance.proofs.Opened.{open_accepted, opened-first}
use Rattle.files.specs.declared.Mark.{Mark}
use Rattle.files.specs.Files.{Part, part_length, part_bits, misused, fed_mark, mark_from}
use Rattle.files.proofs.Marks.{fed_true}
use Rattle.files.proofs.Parts.{part-length}
use Rattle.table_tests.specs.TableTests.{table_tests}
use Rattle.table_tests.proofs.Laws.{clear-table}
use Rattle.mark_tests.specs.MarkTests.{sum_test, feed_tests}
use Rattle.marks.specs.Feeding.{feed_bits, feed_table}
use Rattle.marks.proofs.Laws.{leave_out_8}
use Rattle.book.specs.Runs.{book_step}
use Rattle.book.proofs.RunLaws.{Keeps}
use Rattle.fed_parts.specs.Parts.{Feed, ByBits, ByTable, step, part_of, Usable}
use Rattle.bench_book.specs.Book.{book_tests, written, bench_from}

-- the mark's side answers as the book does, and the mark is true of the book's file
abbrev pub Agrees : ℕ → ℕ → Answer Mark Mark → Answer (List ℕ) (List ℕ) → Type 0
Agrees s key a b = (state_of a ≡ mark_from s key (state_of b)) × (number_of a ≡ number_of b)

-- where the mark's side comes down to the book's tests
pub agrees_by : (s key : ℕ) (a : Answer Mark Mark) (ts : List Test) (kept next : List ℕ) (nxt : Mark) → a ≡ first_of ts (mark_from s key kept) nxt
    → (number_of (first_of ts kept next) ≡ 0 → nxt ≡ mark_from s key next) → Agrees s key a (first_of ts kept next)
agrees_by s key a ts kept next nxt e h = rw e (agree (mark_from s key) ts kept next nxt h)

module _ (s key : ℕ) (pos : 0 < key) (file : List ℕ) where
  -- numbers 7 and 19, as the book has them
  abbrev tests : Part → List Test
  tests part = sum_test (length file) (part_length part) ∷ misused part ⇒ FinalByte ∷ []

  -- feeding, whatever is tested before
  feed_agrees : (ts : List Test) (part : Part)
      → Agrees s key (first_of (ts ++ feed_tests key (mark_from s key file) part) (mark_from s key file) (fed_mark key (mark_from s key file) part))
      (first_of (ts ++ tests part) file (file ++ part_bits part))
  unfolding mark_from
  feed_agrees ts part =
      agrees_by s key (first_of (ts ++ feed_tests key (mark_from s key file) part) (mark_from s key file) (fed_mark key (mark_from s key file) part))
      (ts ++ tests part) file (file ++ part_bits part) (fed_mark key (mark_from s key file) part)
      (leave_out_8 s key pos file ts (sum_test (length file) (part_length part) ∷ []) (misused part ⇒ FinalByte ∷ []) (mark_from s key file)
      (fed_mark key (mark_from s key file) part))
      (λ e. fed_true s key pos file part)

  -- a call gets the key as a pair, whose polynomial is the key
  handed : (F : ℕ → Answer Mark Mark) (b : Answer (List ℕ) (List ℕ)) → Agrees s key (F key) b → Agrees s key (F (polynomial_of (key_of key))) b
  handed F b a = rw (ap F (whole-key key pos)) a

  bits-agree : (part : Part) → Agrees s key (step key (mark_from s key file) (ByBits part)) (book_step (bench_from s) key file (ByBits part))
  unfolding step feed_bits book_step book_tests written
  bits-agree part =
      handed (λ (q : ℕ). first_of (key_tests (key_of key) ++ feed_tests q (mark_from s key file) part) (mark_from s key file)
      (fed_mark q (mark_from s key file) part))
      (first_of (key_tests (key_of key) ++ tests part) file (file ++ part_bits part)) (feed_agrees (key_tests (key_of key)) part)

  table-agree : (words : List ℕ) (part : Part)
      → Agrees s key (step key (mark_from s key file) (ByTable words part)) (book_step (bench_from s) key file (ByTable words part))
  unfolding step feed_table book_step book_tests written
  table-agree words part =
      handed (λ (q : ℕ). first_of (key_tests (key_of key) ++ table_tests q words ++ feed_tests q (mark_from s key file) part) (mark_from s key file)
      (fed_mark q (mark_from s key file) part))
      (first_of (key_tests (key_of key) ++ table_tests key words ++ tests part) file (file ++ part_bits part))
      (feed_agrees (key_tests (key_of key) ++ table_tests key words) part)

  pub each : (c : Feed) → Agrees s key (step key (mark_from s key file) c) (book_step (bench_from s) key file c)
  each (ByBits part) = bits-agree part
  each (ByTable words part) = table-agree words part

pub keeps : (s key : ℕ) → accepted key ≡ true → Keeps (bench_from s) key
keeps s key a file c h = each s key (accepted-pos key a) file c

-- where no test holds, the book takes the part
module _ (s key : ℕ) (a : accepted key ≡ true) (file : List ℕ) where
  -- numbers 7 and 19 do not apply
  neither : (part : Part) → misused part ≡ false → length file + length (part_bits part) ≤ longest → Clear (tests s key (accepted-pos key a) file part)
  neither part w l = (sum_fits (length file) (part_length part) (omega (arith, part-length part)), (w, tt))

  pub taken : (c : Feed) → Usable key c → length file + length (part_bits (part_of c)) ≤ longest
      → book_step (bench_from s) key file c ≡ Done (file ++ part_bits (part_of c))
  unfolding book_step book_tests written
  taken (ByBits part) u l =
      let ts = tests s key (accepted-pos key a) file part in
      opened-first (open_accepted key a) ts file (file ++ part_bits part) ∙ clear-done ts file (file ++ part_bits part) (neither part u l)
  taken (ByTable words part) u l =
      let ts = tests s key (accepted-pos key a) file part in
      opened-first (open_accepted key a) (table_tests key words ++ ts) file (file ++ part_bits part)
      ∙ more-clear (table_tests key words) ts file (file ++ part_bits part) (clear-table words key u.0)
      ∙ clear-done ts file (file ++ part_bits part) (neither part u.1 l)
