-- Demand 3 for every level whose calls keep the book, and for every type of routes that leave a file's fingerprint.
use mathlib.Core.Path.{◌≡◌, refl, sym, ap, ◌∙◌}
use mathlib.Core.Bool.{true}
use mathlib.Core.Logic.{◌≢◌}
use mathlib.Core.List.{List, [], ◌∷◌}
use Prim.Native.Nat.{ℕ, ◌<◌}
use lib.Dec.{T}
use Rattle.lists.proofs.Lists.{rising, all_map}
use Rattle.refusals.specs.Lowest.{numbers}
use Rattle.refusals.proofs.Laws.{first-is-lowest}
use Rattle.gf2.specs.Polynomials.{rem}
use Rattle.acceptance.specs.Keys.{accepted}
use Rattle.acceptance.proofs.Laws.{accepted-pos}
use Rattle.files.specs.Files.{low_bits, bits, value_from, fingerprint_from, fingerprint, Bits}
use Rattle.files.specs.Bursts.{Burst}
use Rattle.files.proofs.Turning.{equal-starts}
use Rattle.book.specs.Runs.{Level, book_step, run, Leaves}
use Rattle.book.specs.Confusions.{Routes, SoundFrom, ReachesFrom, Sound, Reaches, Confuses}
use Rattle.book.specs.Claims.{Lists, Lowest, Few, AsTested, Confusions, Counted, PlainConfusions, PlainCounted, EmptyAndZero, Bursts}
use Rattle.book.proofs.RunLaws.{Keeps, in_step}
use Rattle.book.proofs.ConfusionLaws.{Equal, equal_iff, equal_keys, no_equal-key}

pub lists : (L : Level) → ((key : ℕ) → accepted key ≡ true → Keeps L key) → Lists L
lists L keeps key kept s calls a = in_step L key (keeps key a) kept s calls

-- where a call's tests stand in the order of their numbers
pub lowest-first : (L : Level) → ((key n : ℕ) (c : L.Call) → T (rising 0 (numbers (L.tests key n c)))) → Lowest L
unfolding book_step
lowest-first L in_order key kept c = first-is-lowest (L.tests key (L.size kept) c) kept (L.written kept c) (in_order key (L.size kept) c)

-- ---- routes

-- what a list leaves is true
pub list_sound : (L : Level) → Lists L → (key : ℕ) (kept : L.Kept) (s : L.State) → accepted key ≡ true → Leaves L key kept s → s ≡ L.truth key kept
list_sound L claim key kept s a l =
    sym l.leaves ∙ (claim key l.first (L.truth key l.first) l.calls a refl l.honest).0 ∙ ap (L.truth key) l.ends

-- the list of no call
pub list_reaches : (L : Level) (key : ℕ) (kept : L.Kept) → Leaves L key kept (L.truth key kept)
unfolding run
list_reaches L key kept = record { first = kept; calls = []; honest = tt; ends = refl; leaves = refl }

-- routes behind a start s, and two files whose fingerprints behind it are equal where they are so behind 1
module _ (s : ℕ) (Route : Routes) (sound : SoundFrom s Route) (k : ℕ) (a b : List ℕ)
    (ours : (p : ℕ) → 0 < p → fingerprint_from s p a ≡ fingerprint_from s p b → fingerprint p a ≡ fingerprint p b) where
  equal : (key : ℕ) → Confuses Route k a b key → Equal k a b key
  equal key c =
      record {
        is-accepted = c.is-accepted;
        of_degree = c.of_degree;
        prints =
            ours key (accepted-pos key c.is-accepted)
            (sym (sound key a c.fingerprint c.is-accepted c.one) ∙ sound key b c.fingerprint c.is-accepted c.other);
      }

  pub few : Few Route k a b
  few ha hb ne n la lb keys d all = equal_keys k a b ha hb ne n la lb keys d (all_map equal keys all)

  pub none : Bits a → Bits b → a ≢ b → Burst k a b → (key : ℕ) → Confuses Route k a b key → ⊥
  none ha hb ne r key c = no_equal-key k a b ha hb ne r key (equal key c)

  module _ (reaches : ReachesFrom s Route)
      (theirs : (p : ℕ) → 0 < p → fingerprint p a ≡ fingerprint p b → fingerprint_from s p a ≡ fingerprint_from s p b) where
    confuses : (key : ℕ) → Equal k a b key → Confuses Route k a b key
    confuses key e =
        record {
          is-accepted = e.is-accepted;
          of_degree = e.of_degree;
          fingerprint = fingerprint_from s key a;
          one = reaches key a;
          other = rw (theirs key (accepted-pos key e.is-accepted) e.prints) (reaches key b);
        }

    pub tested : AsTested Route k a b
    tested key = (λ c. (equal_iff k a b key).0 (equal key c), λ h. confuses key ((equal_iff k a b key).1 h))

-- ours
pub confusions : (Route : Routes) → Sound Route → Confusions Route
confusions Route sound k a b = few 1 Route sound k a b (λ p pos e. e)

pub bursts : (Route : Routes) → Sound Route → Bursts Route
bursts Route sound k a b = none 1 Route sound k a b (λ p pos e. e)

pub counted : (Route : Routes) → Sound Route → Reaches Route → Counted Route
counted Route sound reaches k a b = tested 1 Route sound k a b (λ p pos e. e) reaches (λ p pos e. e)

-- plain
pub plain_confusions : (Route : Routes) → SoundFrom 0 Route → PlainConfusions Route
plain_confusions Route sound k a b l = few 0 Route sound k a b (λ p pos e. equal-starts 0 1 p a b pos l e)

pub plain_bursts : (Route : Routes) → SoundFrom 0 Route → Bursts Route
plain_bursts Route sound k a b ha hb ne r = none 0 Route sound k a b (λ p pos e. equal-starts 0 1 p a b pos r.same_length e) ha hb ne r

pub plain_counted : (Route : Routes) → SoundFrom 0 Route → ReachesFrom 0 Route → PlainCounted Route
plain_counted Route sound reaches k a b l =
    tested 0 Route sound k a b (λ p pos e. equal-starts 0 1 p a b pos l e) reaches (λ p pos e. equal-starts 1 0 p a b pos l e)

pub empty-and-zero : (Route : Routes) → ReachesFrom 0 Route → EmptyAndZero Route
unfolding fingerprint_from bits low_bits value_from
empty-and-zero Route reaches key a =
    record {
      is-accepted = a;
      of_degree = refl;
      fingerprint = rem key 0;
      one = reaches key [];
      other = reaches key (bits (0x00 ∷ []));
    }
