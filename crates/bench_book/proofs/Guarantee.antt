-- Demand 3 at the Bench level: the claims of crate book (specs/Claims.antt), proved.
use mathlib.Core.Path.{◌≡◌, refl, sym, ap, ◌∙◌}
use mathlib.Core.Bool.{true}
use mathlib.Core.List.{List, []}
use Prim.Native.Nat.{ℕ}
use lib.Dec.{T}
use Rattle.lists.proofs.Lists.{rising}
use Rattle.refusals.specs.Refusals.{Answer, Done, value_or}
use Rattle.refusals.specs.Lowest.{numbers}
use Rattle.acceptance.specs.Keys.{accepted, key_of}
use Rattle.acceptance.proofs.Laws.{accepted-pos}
use Rattle.files.specs.declared.Mark.{Mark}
use Rattle.files.specs.Files.{fingerprint_from, fingerprint, mark_from, mark_of, TrueFrom}
use Rattle.files.proofs.Turning.{turn_true}
use Rattle.marks.specs.Feeding.{begin_from}
use Rattle.marks.proofs.Laws.{begins-from}
use Rattle.marks.proofs.Turning.{turn-done}
use Rattle.printing.proofs.Reports.{printed-fingerprint}
use Rattle.book.specs.Confusions.{Sound, Reaches}
use Rattle.book.specs.Claims.{Lists, Lowest, Confusions, Counted, Bursts}
use Rattle.book.proofs.Guarantee as AnyLevel
use Rattle.fed_parts.specs.Parts.{Feed, ByBits, ByTable}
use Rattle.bench_book.specs.Book.{book_tests, bench_from, bench, Route, ByCalls, ByTurning, Beginning, Printed}
use Rattle.bench_book.proofs.StepLaws.{keeps}

-- the book's tests stand in the order of their numbers
pub in_order : (key n : ℕ) (c : Feed) → T (rising 0 (numbers (book_tests key n c)))
unfolding book_tests rising
in_order key n (ByBits part) = tt
in_order key n (ByTable words part) = tt

-- After the list, fingerprint and length are the residue and the length of the book's file, and exactly those calls were refused
-- that the book names,
pub lists-from : (s : ℕ) → Lists (bench_from s)
lists-from s = AnyLevel.lists (bench_from s) (keeps s)

pub lists : Lists bench
lists = lists-from 1

-- each with the lowest number that applies.
pub lowest : Lowest bench
lowest = AnyLevel.lowest-first bench in_order

-- ---- two different files

-- what beginning gives, whatever the start
pub begun : (s key f : ℕ) → accepted key ≡ true → begin_from s (key_of key) ≡ Done (record { fingerprint = f; length = 0 }) → f ≡ fingerprint_from s key []
unfolding mark_from
begun s key f a b = ap (λ (x : Answer Unit Mark). (value_or (mark_from s key []) x).fingerprint) (sym b ∙ begins-from s key a)

-- the fingerprint of a true mark
pub left : (s key : ℕ) (file : List ℕ) (f : ℕ) (m : Mark) → m.fingerprint ≡ f → TrueFrom s key file m → f ≡ fingerprint_from s key file
unfolding mark_from
left s key file f m e t = sym e ∙ ap (λ (x : Mark). x.fingerprint) t

pub sound : Sound Route
sound key file f a (ByCalls m l e) = left 1 key file f m e (AnyLevel.list_sound bench lists key file m a l)
sound key file f a (ByTurning m n t d e) = left 1 key file f n e (turn-done key m n a d ∙ turn_true key file m (accepted-pos key a) t)
sound key file f a (Beginning e b) = begun 1 key f a b ∙ ap (fingerprint key) (sym e)
sound key file f a (Printed input at line e text) =
    printed-fingerprint input key at f a line (rw (← e) at text) ∙ ap (fingerprint key) e

pub print : (s key : ℕ) (file : List ℕ) → (mark_from s key file).fingerprint ≡ fingerprint_from s key file
unfolding mark_from
print s key file = refl

pub reaches : Reaches Route
reaches key file = ByCalls (mark_of key file) (AnyLevel.list_reaches bench key file) (print 1 key file)

pub confusions : Confusions Route
confusions = AnyLevel.confusions Route sound

pub counted : Counted Route
counted = AnyLevel.counted Route sound reaches

pub bursts : Bursts Route
bursts = AnyLevel.bursts Route sound
