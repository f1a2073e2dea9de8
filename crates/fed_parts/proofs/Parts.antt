-- Feeding file parts one after another gives the mark of the parts joined, wherever each part ends.
use mathlib.Core.Path.{◌≡◌, sym, ap, ◌∙◌}
use mathlib.Core.Bool.{true, false}
use mathlib.Core.List.{List, [], ◌∷◌, ◌++◌, append_assoc, append-nil}
use Prim.Native.Nat.{ℕ, ◌+◌, ◌≤◌, ◌<◌}
use native.Mathlib.Omega.{arith}
use lib.ListN.{length, length-append}
use Rattle.refusals.specs.Refusals.{Done, first_of, longest}
use Rattle.refusals.proofs.Laws.{Clear, clear-done, more-clear}
use Rattle.refusals.proofs.Lengths.{sum_fits}
use Rattle.acceptance.specs.Keys.{accepted, polynomial_of, key_of}
use Rattle.acceptance.proofs.Laws.{accepted-pos, whole-key}
use Rattle.acceptance.proofs.Opened.{open_accepted, opened-first}
use Rattle.files.specs.declared.Mark.{Mark}
use Rattle.files.specs.Files.{mark_from, Part, part_length, part_bits, misused, fed_mark}
use Rattle.files.proofs.Marks.{true_reduced, fed_true}
use Rattle.files.proofs.Parts.{part-length}
use Rattle.mark_tests.specs.MarkTests.{feed_tests}
use Rattle.marks.specs.Feeding.{feed_bits, feed_table}
use Rattle.table_tests.specs.TableTests.{table_tests}
use Rattle.table_tests.proofs.Laws.{clear-table}
use Rattle.book.specs.Runs.{run}
use Rattle.book.proofs.RunLaws.{run-next}
use Rattle.fed_parts.specs.Parts.{Feed, ByBits, ByTable, step, part_of, Usable, AllUsable, parts_joined, zeros, PartsJoined, CutAnywhere}

module _ (s key : ℕ) (a : accepted key ≡ true) where
  pos : 0 < key
  pos = accepted-pos key a

  -- numbers 7, 8 and 19 do not apply to a true mark and a part that fits
  none : (file : List ℕ) (part : Part) → misused part ≡ false → length file + length (part_bits part) ≤ longest
      → Clear (feed_tests key (mark_from s key file) part)
  unfolding mark_from
  none file part w l = (sum_fits (length file) (part_length part) (omega (arith, part-length part)), (true_reduced s key pos file, (w, tt)))

  -- so the mark is that of the file with the part behind it
  behind : (file : List ℕ) (part : Part) → misused part ≡ false → length file + length (part_bits part) ≤ longest
      → first_of (feed_tests key (mark_from s key file) part) (mark_from s key file) (fed_mark key (mark_from s key file) part)
      ≡ Done (mark_from s key (file ++ part_bits part))
  behind file part w l =
      let m = mark_from s key file in
      clear-done (feed_tests key m part) m (fed_mark key m part) (none file part w l) ∙ ap Done (fed_true s key pos file part)

  taken : (file : List ℕ) (c : Feed) → Usable key c → length file + length (part_bits (part_of c)) ≤ longest
      → step key (mark_from s key file) c ≡ Done (mark_from s key (file ++ part_bits (part_of c)))
  unfolding step feed_bits feed_table
  taken file (ByBits part) u l =
      let m = mark_from s key file in
      let q = polynomial_of (key_of key) in
      opened-first (open_accepted key a) (feed_tests q m part) m (fed_mark q m part)
      ∙ ap (λ (k : ℕ). first_of (feed_tests k m part) m (fed_mark k m part)) (whole-key key pos)
      ∙ behind file part u l
  taken file (ByTable words part) u l =
      let m = mark_from s key file in
      let q = polynomial_of (key_of key) in
      opened-first (open_accepted key a) (table_tests q words ++ feed_tests q m part) m (fed_mark q m part)
      ∙ ap (λ (k : ℕ). first_of (table_tests k words ++ feed_tests k m part) m (fed_mark k m part)) (whole-key key pos)
      ∙ more-clear (table_tests key words) (feed_tests key m part) m (fed_mark key m part) (clear-table words key u.0)
      ∙ behind file part u.1 l

  one_by_one : (file : List ℕ) (cs : List Feed) → AllUsable key cs → length file + length (parts_joined cs) ≤ longest
      → run (step key) (mark_from s key file) cs ≡ (mark_from s key (file ++ parts_joined cs), zeros cs)
  one_by_one file [] u l = unfold run in (ap {B = Mark × List ℕ} (λ (f : List ℕ). (mark_from s key f, [])) (sym (append-nil file)))
  one_by_one file (c ∷ cs) u l =
      let part = part_bits (part_of c) in
      let long = length-append part (parts_joined cs) in
      run-next (step key) (mark_from s key file) c cs (Done (mark_from s key (file ++ part))) (taken file c u.0 (omega (arith, long)))
      ∙ ap {B = Mark × List ℕ} (λ (r : Mark × List ℕ). (r.0, 0 ∷ r.1))
      (one_by_one (file ++ part) cs u.1 (omega (arith, long, length-append file part)))
      ∙ ap {B = Mark × List ℕ} (λ (f : List ℕ). (mark_from s key f, 0 ∷ zeros cs)) (append_assoc file part (parts_joined cs))

pub parts : PartsJoined
parts s key file m cs a t u l = ap (λ (x : Mark). run (step key) x cs) t ∙ one_by_one s key a file cs u l

-- a file cut anywhere: two parts
pub cut_anywhere : CutAnywhere
cut_anywhere s key before file m p q a t hp hq e l =
    parts s key before m (ByBits p ∷ ByBits q ∷ []) a t (hp, (hq, tt)) (rw both l)
    ∙ ap {B = Mark × List ℕ} (λ (f : List ℕ). (mark_from s key (before ++ f), 0 ∷ 0 ∷ [])) both
  where
    both : part_bits p ++ (part_bits q ++ []) ≡ file
    both = ap (λ (l : List ℕ). part_bits p ++ l) (append-nil (part_bits q)) ∙ e
