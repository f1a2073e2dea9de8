-- Laws for callers: how the tests of a feed go on, and marks of files.
use mathlib.Core.Path.{◌≡◌, sym, ap, ◌∙◌}
use mathlib.Core.Bool.{Bool, true, false}
use mathlib.Core.List.{List, [], ◌∷◌, ◌++◌, append_assoc}
use Prim.Native.Nat.{ℕ, ◌+◌, ◌^◌, ◌<◌}
use native.Mathlib.Omega.{arith}
use Rattle.gf2.specs.Polynomials.{rem}
use Rattle.gf2.specs.Moduli.{polynomial}
use Rattle.gf2.specs.declared.Modulus.{Modulus}
use Rattle.refusals.specs.declared.Refusal.{Refusal}
use Rattle.refusals.specs.declared.Refusal.TheVariants.{MarkNotReduced}
use Rattle.refusals.specs.Refusals.{Done, Refused, Test, ◌⇒◌, first_of}
use Rattle.refusals.proofs.Laws.{Clear, skip, clear-done, done-clear, more-clear}
use Rattle.acceptance.specs.declared.Key.{Key}
use Rattle.acceptance.specs.Keys.{accepted, polynomial_of, key_of, key_tests}
use Rattle.acceptance.specs.Opened.{Opened}
use Rattle.acceptance.proofs.Laws.{accepted_iff, accepted-pos, whole-key}
use Rattle.acceptance.proofs.Opened.{open_accepted, opened-first, opened-whole, residue-below}
use Rattle.files.specs.declared.Mark.{Mark}
use Rattle.files.specs.Files.{value_from, mark_from, unreduced, Part, part_length, part_bits, misused, fed_mark}
use Rattle.files.proofs.Marks.{mark-eq, true_reduced, empty-mark}
use Rattle.mark_tests.specs.MarkTests.{feed_tests}
use Rattle.lookups.specs.Rule.{table}
use Rattle.table_tests.specs.TableTests.{table_tests}
use Rattle.table_tests.proofs.Laws.{clear-table}
use Rattle.house.specs.House.{house_key, house_words}
use Rattle.house.proofs.House.{house-accepted}
use Rattle.marks.specs.Feeding.{begin_from, feed_bits, feed_table, feed_house, BeginsTrue, EmptyIsOne, HouseFirst, HouseBits}
use Rattle.marks.specs.declared.Running.{Running}
use Rattle.marks.specs.declared.RefusedMark.{RefusedMark}
use Rattle.marks.specs.Answers.{mark_in, fed_under}

-- a refusal of the first tests of a call
from-refused : {A : Type 0} (ts us : List Test) (m : Running) (v : A) (w : Mark) (q : Refusal) (n : Running) → first_of ts m v ≡ Refused q n
    → Refused q n ≡ fed_under m.key (first_of (ts ++ us) (mark_in m) w)
from-refused [] us m v w q n e = absurd (let z : ◌≡◌ {A = ℕ} 0 1 = cc in omega arith)
from-refused (true ⇒ r ∷ ts) us m v w q n e = let d : r ≡ q = cc in let f : m ≡ n = cc in rw (d, f)
from-refused (false ⇒ r ∷ ts) us m v w q n e = from-refused ts us m v w q n e

-- ---- what a caller knows behind the `?` of an answer on a running mark

-- where the tests refuse, so does a call whose tests begin with them
pub still-refused : {A : Type 0} (ts us : List Test) (m : Running) (v : A) (w : Mark) (d : RefusedMark) → Refused d.refusal d.mark ≡ first_of ts m v
    → Refused d.refusal d.mark ≡ fed_under m.key (first_of (ts ++ us) (mark_in m) w)
still-refused ts us m v w d e = from-refused ts us m v w d.refusal d.mark (sym e)

-- where the test of the key doesn't, the mark goes on as it was handed in
pub same-mark : (m n : Running) → Done n ≡ first_of (key_tests m.key) m m → n ≡ m
same-mark m n e = sym (done-clear (key_tests m.key) m m n (sym e)).1

-- of the tests of a part
module _ {p : Modulus} (m : Running) (h : Opened m.key p) (part : Part) (n : ℕ)
    (e : Done n ≡ first_of (feed_tests (polynomial_of m.key) (mark_in m) part) m (m.length + part_length part)) where
  abbrev key : ℕ
  key = polynomial_of m.key

  clear : Clear (feed_tests key (mark_in m) part) × (m.length + part_length part ≡ n)
  clear = done-clear (feed_tests key (mark_in m) part) m (m.length + part_length part) n (sym e)

  pub clear-below : m.fingerprint < 2 ^ p.degree
  clear-below = residue-below h m.fingerprint clear.0.1.0

  pub clear-used : misused part ≡ false
  clear-used = clear.0.1.1.0

  -- the residue of the part behind the fingerprint, however it was computed, is the value
  pub fed-next : (y : ℕ) → y ≡ rem (polynomial p) (value_from m.fingerprint (part_bits part))
      → fed_under m.key (Done (record { fingerprint = y; length = n }))
      ≡ fed_under m.key (first_of (feed_tests key (mark_in m) part) (mark_in m) (fed_mark key (mark_in m) part))
  unfolding fed_mark
  fed-next y is =
      ap (λ (z : Mark). fed_under m.key (Done z))
      (mark-eq (is ∙ ap (λ (q : ℕ). rem q (value_from m.fingerprint (part_bits part))) (opened-whole h)) (sym clear.1))
      ∙ sym (ap (fed_under m.key) (clear-done (feed_tests key (mark_in m) part) (mark_in m) (fed_mark key (mark_in m) part) clear.0))

-- ---- marks of files

-- a true mark is reduced, so number 8 may be left out, wherever it stands
pub leave_out_8 : (s key : ℕ) (pos : 0 < key) (file : List ℕ) (ts us vs : List Test) (x y : Mark)
    → first_of (ts ++ (us ++ unreduced key (mark_from s key file) ⇒ MarkNotReduced ∷ vs)) x y ≡ first_of (ts ++ (us ++ vs)) x y
leave_out_8 s key pos file ts us vs x y =
    ap (λ (l : List Test). first_of l x y) (sym (append_assoc ts us (unreduced key (mark_from s key file) ⇒ MarkNotReduced ∷ vs)))
    ∙ ap (λ (b : Bool). first_of (ts ++ us ++ b ⇒ MarkNotReduced ∷ vs) x y) (true_reduced s key pos file)
    ∙ skip (ts ++ us) vs MarkNotReduced x y
    ∙ ap (λ (l : List Test). first_of l x y) (append_assoc ts us vs)

-- beginning, behind any start
pub begins-from : (s key : ℕ) → accepted key ≡ true → begin_from s (key_of key) ≡ Done (mark_from s key [])
unfolding begin_from
begins-from s key a =
    opened-first (open_accepted key a) [] tt (mark_from s (polynomial_of (key_of key)) [])
    ∙ ap (λ (q : ℕ). Done (mark_from s q [])) (whole-key key (accepted-pos key a))

pub begins : BeginsTrue
begins key a = begins-from 1 key a

pub empty-is-one : EmptyIsOne
unfolding mark_from
empty-is-one key a = ap (λ (m : Mark). m.fingerprint) (empty-mark key ((accepted_iff key).0 a).2.proper)

-- ---- the house key's constant words

-- under the house key no test of key and words holds
pub house-clear : {x : Key} {p : Modulus} → Opened x p → polynomial_of x ≡ house_key → (m : Mark) (part : Part)
    → feed_house x m part ≡ first_of (feed_tests (polynomial_of x) m part) m (fed_mark (polynomial_of x) m part)
unfolding feed_house feed_table
house-clear {x} h e m part =
    let key = polynomial_of x in
    opened-first h (table_tests key house_words ++ feed_tests key m part) m (fed_mark key m part)
    ∙ more-clear (table_tests key house_words) (feed_tests key m part) m (fed_mark key m part) (clear-table house_words key (ap table (sym e)))

pub house-first : HouseFirst
house-first m part =
    let e = whole-key house_key (accepted-pos house_key house-accepted) in
    house-clear (open_accepted house_key house-accepted) e m part ∙ ap (λ (q : ℕ). first_of (feed_tests q m part) m (fed_mark q m part)) e

-- so feeding by the house key's words, under that key, is feeding by bits
pub house-bits : HouseBits
unfolding feed_bits
house-bits m part =
    let h = open_accepted house_key house-accepted in
    let key = polynomial_of (key_of house_key) in
    house-clear h (whole-key house_key (accepted-pos house_key house-accepted)) m part ∙ sym (opened-first h (feed_tests key m part) m (fed_mark key m part))
