-- What the program prints determines the fingerprint: a numeral in base 16 reads back, so two reports that differ in the fingerprint
-- alone are different texts.
use mathlib.Core.Path.{◌≡◌, sym, ap, ◌∙◌}
use mathlib.Core.Bool.{Bool, true, false, cond}
use mathlib.Core.List.{List, [], ◌∷◌, ◌++◌}
use Prim.Native.Nat.{ℕ, zero, suc, ◌+◌, ◌*◌, ◌/◌, ◌%◌, ◌≤◌, ◌<◌}
use native.Mathlib.Nat.{le_refl}
use native.Mathlib.Decide.{dec_lt}
use native.Mathlib.Omega.{arith}
use lib.Dec.{ltb}
use Rattle.std.specs.Prelude.{Ok}
use lib.ListN.{length, get_or, drop}
use borrow.Author.Tests.{lt-ltb, le-ltb}
use Rattle.io.specs.Digits.{hex_digit_ascii}
use Rattle.lists.proofs.Sublists.{behind_common, before_common}
use Rattle.refusals.specs.declared.Refusal.TheVariants.{TooLong}
use Rattle.refusals.specs.Refusals.{Answer, ◌⇒◌, first_of, passes}
use Rattle.acceptance.specs.declared.Key.{Key}
use Rattle.acceptance.specs.Keys.{accepted, polynomial_of, key_of}
use Rattle.acceptance.proofs.Laws.{accepted-pos, whole-key}
use Rattle.acceptance.proofs.Opened.{open_accepted, opened-first}
use Rattle.files.specs.declared.Mark.{Mark}
use Rattle.files.specs.Files.{bits, fingerprint, mark_of, mark_from}
use Rattle.marks.specs.declared.Running.{Running}
use Rattle.marks.specs.Answers.{begun_under}
use Rattle.key_lines.specs.KeyLines.{digit, hex_from, key_line}
use Rattle.numerals.specs.Numerals.{digits_of, numeral}
use Rattle.printing.specs.Printing.{ascii, report, refused, answer_text, mark_file, printed_after, printed}
use Rattle.key_lines.proofs.Laws.{Line, digit_decimal, digit_letter}

-- ---- a numeral in base 16 reads back

digit-back : (d : ℕ) → d < 16 → digit (hex_digit_ascii d) ≡ d
digit-back d l = go (dec_lt d 10)
  where
    go : Dec (d < 10) → digit (hex_digit_ascii d) ≡ d
    go (yes h) = rw (lt-ltb d 10 h) (digit_decimal (48 + d) (omega arith) (omega arith) ∙ omega arith)
    go (no h) = rw (le-ltb d 10 (omega arith)) (digit_letter (87 + d) (omega arith) (omega arith) ∙ omega arith)

hex_more : (s d : ℕ) (xs : List ℕ) → d < 16 → hex_from s (xs ++ hex_digit_ascii d ∷ []) ≡ hex_from s xs * 16 + d
unfolding hex_from
hex_more s d [] l = ap (λ (x : ℕ). s * 16 + x) (digit-back d l)
hex_more s d (x ∷ xs) l = hex_more (s * 16 + digit x) d xs l

digits-back : (s n : ℕ) → n ≤ s → hex_from 0 (digits_of s 16 n) ≡ n
unfolding digits_of
digits-back zero n l = hex_more 0 (n % 16) [] (omega arith) ∙ unfold hex_from in (omega arith)
digits-back (suc s) n l = go (dec_lt n 16) (λ m. digits-back s (n / 16) m)
  where
    go : Dec (n < 16) → (n / 16 ≤ s → hex_from 0 (digits_of s 16 (n / 16)) ≡ n / 16)
        → hex_from 0 (cond (ltb n 16) (hex_digit_ascii n ∷ []) (digits_of s 16 (n / 16) ++ hex_digit_ascii (n % 16) ∷ [])) ≡ n
    go (yes h) ih = rw (lt-ltb n 16 h) (hex_more 0 n [] h ∙ unfold hex_from in (omega arith))
    go (no h) ih =
        rw (le-ltb n 16 (omega arith))
        (hex_more 0 (n % 16) (digits_of s 16 (n / 16)) (omega arith)
        ∙ ap (λ (x : ℕ). x * 16 + n % 16) (ih (omega arith))
        ∙ omega arith)

numeral_inj : (m n : ℕ) → numeral 16 m ≡ numeral 16 n → m ≡ n
unfolding numeral
numeral_inj m n e = sym (digits-back m m (le_refl m)) ∙ ap (hex_from 0) e ∙ digits-back n n (le_refl n)

-- ---- reports

-- two reports of one key and one length
module _ (x : Key) (n f g : ℕ) where
  pub report-fingerprint : report (record { key = x; fingerprint = f; length = n }) ≡ report (record { key = x; fingerprint = g; length = n }) → f ≡ g
  unfolding report
  report-fingerprint e =
      numeral_inj f g
      (behind_common (numeral 16 f) (numeral 16 g) (ascii "\nmark ")
      (behind_common (ascii "\nmark " ++ numeral 16 f) (ascii "\nmark " ++ numeral 16 g) front
      (before_common (front ++ (ascii "\nmark " ++ numeral 16 f)) (front ++ (ascii "\nmark " ++ numeral 16 g)) (ascii "\n") e)))
    where
      front : List ℕ
      front = ascii "key " ++ numeral 10 x.degree ++ (ascii " " ++ numeral 16 (polynomial_of x)) ++ (ascii "\nbytes " ++ numeral 10 (n / 8))

-- a report is no refusal
no_report : (m : Running) → refused TooLong ≡ report m → ⊥
unfolding refused report ascii
no_report m e = omega (arith, ap (λ (text : List ℕ). get_or text 0 0) e)

-- where a report is printed, its fingerprint is that of the file behind the key's line
pub printed-fingerprint : (input : List ℕ) (key at f : ℕ) → accepted key ≡ true → key_line input ≡ Ok (key_of key, at)
    → printed input ≡ report (record { key = key_of key; fingerprint = f; length = length (bits (drop at input)) })
    → f ≡ fingerprint key (bits (drop at input))
unfolding printed mark_file mark_from
printed-fingerprint input key at f a line e =
    go (passes (8 * length file ∷ [])) (sym is ∙ e) ∙ ap (λ (k : ℕ). fingerprint k (bits (drop at input))) (whole-key key (accepted-pos key a))
  where
    file : List ℕ
    file = drop at input

    answer : Bool → Answer Unit Running
    answer b = begun_under (key_of key) (first_of (b ⇒ TooLong ∷ []) tt (mark_of (polynomial_of (key_of key)) (bits (drop at input))))

    is : printed input ≡ answer_text (answer (passes (8 * length file ∷ [])))
    is =
        ap (λ (l : Line). printed_after l input) line
        ∙ ap (λ (m : Answer Unit Mark). answer_text (begun_under (key_of key) m))
        (opened-first (open_accepted key a) (passes (8 * length (drop at input) ∷ []) ⇒ TooLong ∷ []) tt
        (mark_of (polynomial_of (key_of key)) (bits (drop at input))))

    go : (b : Bool) → answer_text (answer b) ≡ report (record { key = key_of key; fingerprint = f; length = length (bits (drop at input)) })
        → f ≡ fingerprint (polynomial_of (key_of key)) (bits (drop at input))
    go true h = absurd (no_report (record { key = key_of key; fingerprint = f; length = length (bits (drop at input)) }) h)
    go false h =
        sym (report-fingerprint (key_of key) (length (bits (drop at input))) (fingerprint (polynomial_of (key_of key)) (bits (drop at input))) f h)
