-- Demand 3 at the Site level: the claims of crate book (specs/Claims.antt), proved.
use mathlib.Core.Path.{◌≡◌, refl, sym, ap, ap₂, ◌∙◌}
use mathlib.Core.Bool.{true}
use mathlib.Core.List.{List, map}
use Prim.Native.Nat.{ℕ}
use lib.Dec.{T}
use lib.ListN.{length}
use Rattle.lists.proofs.Lists.{rising}
use Rattle.refusals.specs.Lowest.{numbers}
use Rattle.acceptance.specs.Keys.{accepted, polynomial_of, key_of}
use Rattle.acceptance.proofs.Laws.{accepted-pos, whole-key}
use Rattle.files.specs.declared.Mark.{Mark}
use Rattle.files.specs.Files.{fingerprint}
use Rattle.book.specs.Runs.{run}
use Rattle.book.specs.Confusions.{Sound, Reaches}
use Rattle.book.specs.Claims.{Lists, Lowest, Confusions, Counted, Bursts}
use Rattle.book.proofs.Guarantee as AnyLevel
use Rattle.book.proofs.RunLaws.{run-map}
use Rattle.sheets.specs.Layout.{pages_for, Contents}
use Rattle.sheets.proofs.Routes.{written-page, written_last, read-fingerprint, read-page}
use Rattle.fed_parts.specs.Parts as feeds
use Rattle.bench_book.proofs.Guarantee as BenchLevel
use Rattle.site_book.specs.Book.{Call, Feeding, Behind, InFront, Page, step, book_tests, site_from, site}
use Rattle.site_book.specs.Book.{field_at, Route, OfBench, ByCalls, InSheet, InPageField, ByReading, ByReadingPages, BenchLists}
use Rattle.site_book.proofs.StepLaws.{keeps}

-- the book's tests stand in the order of their numbers
pub in_order : (key n : ℕ) (c : Call) → T (rising 0 (numbers (book_tests key n c)))
unfolding book_tests rising
in_order key n (Feeding c) = BenchLevel.in_order key n c
in_order key n (Behind other its) = tt
in_order key n (InFront other its) = tt
in_order key n (Page place old new) = tt

-- After the list, fingerprint and length are the residue and the length of the book's file, and exactly those calls were refused
-- that the book names,
pub lists-from : (s : ℕ) → Lists (site_from s)
lists-from s = AnyLevel.lists (site_from s) (keeps s)

pub lists : Lists site
lists = lists-from 1

-- each with the lowest number that applies.
pub lowest : Lowest site
lowest = AnyLevel.lowest-first site in_order

-- the Bench level's lists are lists of this level, so that its `parts` holds here too
pub bench-lists : BenchLists
unfolding step
bench-lists s key m calls = run-map (feeds.step key) (step s key) Feeding (λ x c. refl) m calls

-- ---- two different files

-- the key is handed in as a pair, and read as one: its polynomial is the key
is_key : (key : ℕ) → accepted key ≡ true → polynomial_of (key_of key) ≡ key
is_key key a = whole-key key (accepted-pos key a)

read-key : (key : ℕ) → accepted key ≡ true → (x : Contents) → x.key ≡ key_of key → polynomial_of x.key ≡ key
read-key key a x e = ap polynomial_of e ∙ is_key key a

pub sound : Sound Route
sound key file f a (OfBench r) = BenchLevel.sound key file f a r
sound key file f a (ByCalls m l e) = BenchLevel.left 1 key file f m e (AnyLevel.list_sound site lists key file m a l)
sound key file f a (InSheet s part buffer after done is e) =
    sym e
    ∙ ap (λ (l : List ℕ). field_at after (pages_for s (length l))) (sym is)
    ∙ written_last (key_of key) s part buffer after done
    ∙ ap₂ fingerprint (is_key key a) is
sound key file f a (InPageField s i part buffer after done l page e) =
    sym e ∙ written-page (key_of key) s part buffer after done i l ∙ ap₂ fingerprint (is_key key a) (sym page)
sound key file f a (ByReading sheet x t e) =
    sym e
    ∙ read-fingerprint sheet file x t.bytes t.read t.same_length t.same-pages
    ∙ ap (λ (k : ℕ). fingerprint k file) (read-key key a x t.same_key)
sound key file f a (ByReadingPages whole sheet words after x i t done l m page e) =
    sym e
    ∙ read-page sheet whole x t.bytes t.read t.same_length t.same-pages words after i done l m
    ∙ ap₂ fingerprint (read-key key a x t.same_key) (sym page)

pub reaches : Reaches Route
reaches key file = OfBench (BenchLevel.reaches key file)

pub confusions : Confusions Route
confusions = AnyLevel.confusions Route sound

pub counted : Counted Route
counted = AnyLevel.counted Route sound reaches

pub bursts : Bursts Route
bursts = AnyLevel.bursts Route sound
