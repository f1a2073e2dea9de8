-- A mark turned before a list of feeds or behind it: the claims of specs/PlainMarks.antt, proved.
use mathlib.Core.Path.{◌≡◌, refl, sym, ap, ap₂, ◌∙◌}
use mathlib.Core.Bool.{Bool, true, false}
use mathlib.Core.List.{List, [], ◌∷◌, ◌++◌}
use Prim.Native.Nat.{ℕ, ◌^◌, ◌<◌}
use borrow.Author.Tests.{lt-leb}
use Rattle.gf2.specs.Polynomials.{◌⊕◌, degree}
use Rattle.gf2.proofs.Sums.{⊕-zero, zero-⊕}
use Rattle.gf2.proofs.Residues.{rem_lt}
use Rattle.refusals.specs.declared.Refusal.TheVariants.{MarkNotReduced, FinalByte}
use Rattle.refusals.specs.Refusals.{Answer, state_of, number_of, Test, ◌⇒◌, first_of}
use Rattle.refusals.proofs.Laws.{agree}
use Rattle.acceptance.specs.declared.Key.{Key}
use Rattle.acceptance.specs.Keys.{accepted, polynomial_of, key_of, key_tests}
use Rattle.acceptance.proofs.Laws.{accepted-pos, whole-key}
use Rattle.files.specs.declared.Mark.{Mark}
use Rattle.files.specs.Files.{mark_from, unreduced, Part, part_length, misused, fed_mark}
use Rattle.files.specs.PlainMarks.{turned}
use Rattle.files.proofs.Marks.{true_reduced}
use Rattle.files.proofs.Turning.{turn-from, turn-fed}
use Rattle.table_tests.specs.TableTests.{table_tests}
use Rattle.mark_tests.specs.MarkTests.{sum_test, feed_tests}
use Rattle.marks.specs.Feeding.{feed_bits, feed_table}
use Rattle.book.specs.Runs.{run}
use Rattle.book.proofs.RunLaws.{run-append}
use Rattle.fed_parts.specs.Parts.{Feed, ByBits, ByTable, step}
use Rattle.fed_parts.specs.PlainMarks.{TurnsAnywhere, GoesOn}

module _ (key : ℕ) (pos : 0 < key) where
  -- the answers about two marks, of which one is the other turned; and the second stays reduced
  abbrev Alike : Answer Mark Mark → Answer Mark Mark → Type 0
  Alike a b = (state_of a ≡ turned key (state_of b)) × (number_of a ≡ number_of b)

  low-turned : (m : Mark) → unreduced key (turned key m) ≡ false
  unfolding turned
  low-turned m = lt-leb (2 ^ degree key) _ (rem_lt pos _)

  low-fed : (m : Mark) (part : Part) → unreduced key (fed_mark key m part) ≡ false
  unfolding fed_mark
  low-fed m part = lt-leb (2 ^ degree key) _ (rem_lt pos _)

  same_length : (m : Mark) → (turned key m).length ≡ m.length
  unfolding turned
  same_length m = refl

  module _ (m : Mark) (low : unreduced key m ≡ false) (part : Part) (ts : List Test) where
    tests_same : ts ++ feed_tests key (turned key m) part ≡ ts ++ feed_tests key m part
    tests_same =
        ap (λ (x : List Test). ts ++ x)
        (ap₂ (λ (n : ℕ) (b : Bool). sum_test n (part_length part) ∷ b ⇒ MarkNotReduced ∷ misused part ⇒ FinalByte ∷ []) (same_length m)
        (low-turned m ∙ sym low))

    fed-alike : Alike (first_of (ts ++ feed_tests key (turned key m) part) (turned key m) (fed_mark key (turned key m) part))
        (first_of (ts ++ feed_tests key m part) m (fed_mark key m part))
    fed-alike =
        rw tests_same
        (agree (turned key) (ts ++ feed_tests key m part) m (fed_mark key m part) (fed_mark key (turned key m) part) (λ e. turn-fed key m part pos))

  low_first : (ts : List Test) (m n : Mark) → unreduced key m ≡ false → unreduced key n ≡ false → unreduced key (state_of (first_of ts m n)) ≡ false
  low_first [] m n a b = b
  low_first (true ⇒ r ∷ ts) m n a b = a
  low_first (false ⇒ r ∷ ts) m n a b = low_first ts m n a b

  handed : (F G : ℕ → Answer Mark Mark) → Alike (F key) (G key) → Alike (F (polynomial_of (key_of key))) (G (polynomial_of (key_of key)))
  handed F G a = rw (ap F (whole-key key pos), ap G (whole-key key pos)) a

  alike : (m : Mark) → unreduced key m ≡ false → (c : Feed) → Alike (step key (turned key m) c) (step key m c)
  unfolding step feed_bits feed_table
  alike m low (ByBits part) =
      handed (λ (q : ℕ). first_of (key_tests (key_of key) ++ feed_tests q (turned key m) part) (turned key m) (fed_mark q (turned key m) part))
      (λ (q : ℕ). first_of (key_tests (key_of key) ++ feed_tests q m part) m (fed_mark q m part)) (fed-alike m low part (key_tests (key_of key)))
  alike m low (ByTable words part) =
      handed (λ (q : ℕ). first_of (key_tests (key_of key) ++ table_tests q words ++ feed_tests q (turned key m) part) (turned key m)
      (fed_mark q (turned key m) part))
      (λ (q : ℕ). first_of (key_tests (key_of key) ++ table_tests q words ++ feed_tests q m part) m (fed_mark q m part))
      (fed-alike m low part (key_tests (key_of key) ++ table_tests key words))

  abbrev x : Key
  x = key_of key

  low-handed : (m : Mark) (part : Part) → unreduced key (fed_mark (polynomial_of x) m part) ≡ false
  low-handed m part = ap (λ (q : ℕ). unreduced key (fed_mark q m part)) (whole-key key pos) ∙ low-fed m part

  low_step : (m : Mark) → unreduced key m ≡ false → (c : Feed) → unreduced key (state_of (step key m c)) ≡ false
  unfolding step feed_bits feed_table
  low_step m low (ByBits part) = low_first (key_tests x ++ feed_tests (polynomial_of x) m part) m (fed_mark (polynomial_of x) m part) low (low-handed m part)
  low_step m low (ByTable words part) =
      low_first (key_tests x ++ table_tests (polynomial_of x) words ++ feed_tests (polynomial_of x) m part) m (fed_mark (polynomial_of x) m part) low
      (low-handed m part)

  turns : (m : Mark) (calls : List Feed) → unreduced key m ≡ false
      → run (step key) (turned key m) calls ≡ (turned key (run (step key) m calls).0, (run (step key) m calls).1)
  unfolding run
  turns m [] low = refl
  turns m (c ∷ cs) low =
      let a = alike m low c in
      let rest = turns (state_of (step key m c)) cs (low_step m low c) in
      ap₂ {C = Mark × List ℕ} (λ (x : Mark) (n : ℕ). ((run (step key) x cs).0, n ∷ (run (step key) x cs).1)) a.0 a.1
      ∙ ap {B = Mark × List ℕ} (λ (r : Mark × List ℕ). (r.0, number_of (step key m c) ∷ r.1)) rest

pub turns_anywhere : TurnsAnywhere
turns_anywhere key m calls a low = turns key (accepted-pos key a) m calls low

-- s and u are the two starts
goes : (s u key : ℕ) (file : List ℕ) (cs ds : List Feed) → s ⊕ u ≡ 1 → accepted key ≡ true
    → (run (step key) (turned key (run (step key) (mark_from s key file) cs).0) ds).0 ≡ (run (step key) (mark_from u key file) (cs ++ ds)).0
goes s u key file cs ds e a =
    let pos = accepted-pos key a in
    sym
    (run-append (step key) (mark_from u key file) cs ds
    ∙ ap (λ (x : Mark). (run (step key) (run (step key) x cs).0 ds).0) (sym (turn-from pos s u file e))
    ∙ ap (λ (r : Mark × List ℕ). (run (step key) r.0 ds).0) (turns_anywhere key (mark_from s key file) cs a (true_reduced s key pos file)))

pub goes_on : GoesOn
goes_on key file cs ds a = (goes 0 1 key file cs ds (zero-⊕ 1) a, goes 1 0 key file cs ds (⊕-zero 1) a)
