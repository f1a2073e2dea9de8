-- Beginning a plain mark and turning a mark: the claims of specs/PlainMarks.antt, proved.
use mathlib.Core.Path.{◌≡◌, refl, sym, ap, ◌∙◌}
use mathlib.Core.Bool.{true}
use mathlib.Core.List.{List, [], ◌∷◌, ◌++◌}
use Prim.Native.Nat.{ℕ, ◌≤◌}
use native.Mathlib.Omega.{arith}
use lib.ListN.{length}
use Rattle.refusals.specs.Refusals.{Done, first_of, longest}
use Rattle.refusals.proofs.Laws.{Clear, clear-done, done-clear}
use Rattle.refusals.proofs.Lengths.{passes_none}
use Rattle.acceptance.specs.Keys.{accepted, polynomial_of, key_of, key_tests}
use Rattle.acceptance.proofs.Laws.{accepted_iff, accepted-pos, whole-key}
use Rattle.acceptance.proofs.Opened.{open_accepted, opened-first}
use Rattle.files.specs.declared.Mark.{Mark}
use Rattle.files.specs.Files.{low_bits, bits, value_from, fingerprint_from, mark_from}
use Rattle.files.specs.PlainMarks.{turned}
use Rattle.files.proofs.Marks.{true_reduced, empty-from}
use Rattle.files.proofs.Turning.{turn_true, turn-back}
use Rattle.marks.specs.PlainMarks.{turn_tests, turn, PlainBegins, ZeroFingerprints, TurnsToOurs, TurnsToPlain}
use Rattle.marks.proofs.Laws.{begins-from}

pub plain_begins : PlainBegins
plain_begins key a = begins-from 0 key a

pub zero-fingerprints : ZeroFingerprints
unfolding mark_from fingerprint_from value_from bits low_bits
zero-fingerprints key a =
    let none = ap (λ (m : Mark). m.fingerprint) (empty-from 0 key (omega arith) ((accepted_iff key).0 a).2.proper) in
    (none, none)

-- a true mark, whatever its start, of a file within the limit
module _ (s key : ℕ) (a : accepted key ≡ true) (file : List ℕ) (l : length file ≤ longest) where
  none : Clear (turn_tests key (mark_from s key file))
  unfolding mark_from
  none = (passes_none (length file ∷ []) (l, tt), (true_reduced s key (accepted-pos key a) file, tt))

  pub turns : turn (key_of key) (mark_from s key file) ≡ Done (turned key (mark_from s key file))
  unfolding turn
  turns =
      let m = mark_from s key file in
      let q = polynomial_of (key_of key) in
      opened-first (open_accepted key a) (turn_tests q m) m (turned q m)
      ∙ ap (λ (k : ℕ). first_of (turn_tests k m) m (turned k m)) (whole-key key (accepted-pos key a))
      ∙ clear-done (turn_tests key m) m (turned key m) none

pub turns-to_ours : TurnsToOurs
turns-to_ours key file a l = turns 0 key a file l ∙ ap Done (turn_true key file (mark_from 0 key file) (accepted-pos key a) refl)

pub turns-to_plain : TurnsToPlain
turns-to_plain key file a l = turns 1 key a file l ∙ ap Done (turn-back key file (mark_from 1 key file) (accepted-pos key a) refl)

-- what turning gives, where it is not refused
pub turn-done : (key : ℕ) (m n : Mark) → accepted key ≡ true → turn (key_of key) m ≡ Done n → n ≡ turned key m
unfolding turn
turn-done key m n a e =
    let q = polynomial_of (key_of key) in
    sym (done-clear (key_tests (key_of key) ++ turn_tests q m) m (turned q m) n e).1 ∙ ap (λ (k : ℕ). turned k m) (whole-key key (accepted-pos key a))
