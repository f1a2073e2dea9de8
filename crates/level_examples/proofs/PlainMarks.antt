-- Plain marks (document 02, wish 9): a list of plain calls at each level with the book beside it, each kind of call refused and not, a route of
-- each kind, and a mark turned in the middle of a file. The claims of plain marks are not empty.
use mathlib.Core.Path.{◌≡◌, refl, sym, ap, ap₂, ◌∙◌}
use mathlib.Core.List.{List, [], ◌∷◌}
use Prim.Native.Nat.{ℕ}
use native.Mathlib.Omega.{arith}
use Rattle.gf2.specs.Polynomials.{◌⊕◌, halvings, degree, monic, reduce, long_division, rem}
use Rattle.lists.specs.Lists.{any_below}
use Rattle.refusals.specs.declared.Refusal.TheVariants.{KeyRange, KeyReducible, TooLong, MarkNotReduced}
use Rattle.refusals.specs.Refusals.{Done, Refused}
use Rattle.acceptance.specs.declared.Key.{Key}
use Rattle.acceptance.specs.Keys.{reducible, key_of}
use Rattle.files.specs.declared.Mark.{Mark}
use Rattle.files.specs.Files.{low_bits, bits, value_from, fingerprint_from, mark_from, mark_of, as_part, whole, used_bits, part_length, part_bits, misused}
use Rattle.files.specs.Files.{fed_mark}
use Rattle.files.specs.Files.{joined_from, replaced}
use Rattle.files.specs.PlainMarks.{plain_mark_of, turned}
use Rattle.lookups.specs.Rule.{differs}
use Rattle.marks.specs.Feeding.{begin_from, feed_bits, feed_table}
use Rattle.marks.specs.PlainMarks.{begin_plain, turn}
use Rattle.marks.proofs.Turning.{turns-to_ours, turns-to_plain}
use Rattle.house.specs.House.{house_key}
use Rattle.house.proofs.House.{house-accepted}
use Rattle.compose.specs.Composing.{join_behind_from, join_in_front_from, replace_page}
use Rattle.book.specs.Runs.{book_step, run, Honest}
use Rattle.book.specs.Confusions.{Confuses}
use Rattle.book.specs.Claims.{Few, AsTested}
use Rattle.fed_parts.specs.Parts as feeds
use Rattle.fed_parts.proofs.Turning.{turns_anywhere}
use Rattle.bench_book.specs.Book as BenchLevel
use Rattle.bench_book.specs.PlainMarks as PlainBench
use Rattle.bench_book.proofs.PlainMarks as BenchProofs
use Rattle.site_book.specs.Book.{Call, Feeding, Behind, InFront, Page, step, book_tests, written}
use Rattle.site_book.specs.PlainMarks.{plain_site, PlainRoute, OfBench, ByCalls}
use Rattle.level_examples.proofs.Bench as ours

abbrev mark : ℕ → ℕ → Mark
mark f n = record { fingerprint = f; length = n }

abbrev x : Key
x = key_of 0x11B

abbrev ours_of : List ℕ → Mark
ours_of file = mark_of 0x11B file

-- ---- beginning and turning, computed, refused and not

pub begins : (begin_plain x ≡ Done (mark 0x00 0))
    × (begin_plain (record { degree = 7; word = 0 }) ≡ Refused KeyRange tt)
    × (begin_plain (key_of 0x101) ≡ Refused KeyReducible tt)
unfolding begin_from mark_from fingerprint_from value_from monic reducible any_below rem long_division reduce degree halvings ◌⊕◌
begins = (refl, refl, refl)

pub turns : (turn x (mark 0x9D 16) ≡ Done (mark 0xC3 16))
    × (turn x (mark 0xC3 16) ≡ Done (mark 0x9D 16))
    × (turn x (mark 0x41 8) ≡ Done (mark 0x5A 8))
    × (turn x (mark 0x02 3) ≡ Done (mark 0x0A 3))
    × (turn x (mark 0x00 0) ≡ Done (mark 0x01 0))
    × (turn x (mark 0x01 0) ≡ Done (mark 0x00 0))
    × (turn x (mark 0x100 8) ≡ Refused MarkNotReduced (mark 0x100 8))
    × (turn x (mark 0x100 34359738361) ≡ Refused TooLong (mark 0x100 34359738361))
    × (turn (record { degree = 7; word = 0 }) (mark 0x100 34359738361) ≡ Refused KeyRange (mark 0x100 34359738361))
unfolding turn turned monic reducible any_below rem long_division reduce degree halvings ◌⊕◌
turns = (refl, refl, refl, refl, refl, refl, refl, refl, refl)

-- ---- 40 with 3 used bits fed to the empty plain mark, turned, then 0A 10 with 5: the mark of 41 42

pub turned-inside : (feed_bits x (mark 0x00 0) ours.front ≡ Done (mark 0x02 3))
    × (turn x (mark 0x02 3) ≡ Done (mark 0x0A 3))
    × (feed_bits x (mark 0x0A 3) ours.back ≡ Done (mark 0x9D 16))
unfolding feed_bits turn fed_mark turned misused part_bits part_length used_bits value_from bits low_bits monic reducible any_below rem long_division reduce
    degree
    halvings ◌⊕◌
turned-inside = (refl, refl, refl)

-- what `turns_anywhere` says of it: turned behind the list instead, the mark is the same
pub turned-behind : run (feeds.step 0x11B) (turned 0x11B (mark 0x02 3)) (feeds.ByBits ours.back ∷ [])
    ≡ (turned 0x11B (run (feeds.step 0x11B) (mark 0x02 3) (feeds.ByBits ours.back ∷ [])).0, 0 ∷ [])
unfolding run feeds.step feed_bits misused part_length used_bits bits low_bits monic reducible any_below rem long_division reduce degree halvings ◌⊕◌
turned-behind = turns_anywhere 0x11B (mark 0x02 3) (feeds.ByBits ours.back ∷ []) ours.accepted_11_b refl

-- ---- the Bench level's list, from the empty plain mark: by bits and by tables, refused and not

bench_book : run (book_step PlainBench.plain_bench 0x11B) [] ours.calls ≡ (bits (0x41 ∷ 0x42 ∷ []), 0 ∷ 7 ∷ 5 ∷ 6 ∷ 19 ∷ 0 ∷ [])
unfolding book_step
bench_book = ours.the_book

bench-honest : Honest PlainBench.plain_bench 0x11B [] ours.calls
unfolding book_step
bench-honest = ours.the_list_is-honest

empty_plain : mark 0x00 0 ≡ plain_mark_of 0x11B []
unfolding mark_from fingerprint_from value_from rem long_division reduce degree halvings ◌⊕◌
empty_plain = refl

plain_41_42 : plain_mark_of 0x11B (bits (0x41 ∷ 0x42 ∷ [])) ≡ mark 0xC3 16
unfolding mark_from fingerprint_from value_from bits low_bits rem long_division reduce degree halvings ◌⊕◌
plain_41_42 = refl

pub bench_list : run (feeds.step 0x11B) (mark 0x00 0) ours.calls ≡ (mark 0xC3 16, 0 ∷ 7 ∷ 5 ∷ 6 ∷ 19 ∷ 0 ∷ [])
bench_list =
    let r = BenchProofs.plain_lists 0x11B [] (mark 0x00 0) ours.calls ours.accepted_11_b empty_plain bench-honest in
    ap₂ {C = Mark × List ℕ} (λ (m : Mark) (ns : List ℕ). (m, ns))
    (r.0 ∙ ap (λ (b : List ℕ × List ℕ). plain_mark_of 0x11B b.0) bench_book ∙ plain_41_42)
    (r.1 ∙ ap (λ (b : List ℕ × List ℕ). b.1) bench_book)

-- ---- the Bench level's routes of each new kind

pub by_calls : PlainBench.PlainRoute 0x11B (bits (0x41 ∷ 0x42 ∷ [])) 0xC3
by_calls =
    PlainBench.ByCalls (mark 0xC3 16)
    (record {
      first = [];
      calls = ours.calls;
      honest = bench-honest;
      ends = ap (λ (b : List ℕ × List ℕ). b.0) bench_book;
      leaves =
          ap (λ (m : Mark). (run (feeds.step 0x11B) m ours.calls).0) (sym empty_plain) ∙ ap (λ (r : Mark × List ℕ). r.0) bench_list;
    }) refl

-- from a file that is not empty
pub by_one_call : PlainBench.PlainRoute 0x11B (bits (0x41 ∷ 0x42 ∷ [])) 0xC3
unfolding run book_step feeds.step feed_bits fed_mark BenchLevel.book_tests BenchLevel.written misused part_bits part_length used_bits mark_from
    fingerprint_from
    value_from bits low_bits monic reducible any_below rem long_division reduce degree halvings ◌⊕◌
by_one_call =
    PlainBench.ByCalls (mark 0xC3 16)
    (record {
      first = bits (0x41 ∷ []);
      calls = feeds.ByBits (whole (0x42 ∷ [])) ∷ [];
      honest = (λ e. tt, tt);
      ends = refl;
      leaves = refl;
    }) refl

pub beginning : PlainBench.PlainRoute 0x11B [] 0x00
beginning = PlainBench.Beginning refl begins.0

pub to_plain : PlainBench.PlainRoute 0x11B (bits (0x41 ∷ 0x42 ∷ [])) 0xC3
unfolding mark_from fingerprint_from value_from bits low_bits rem long_division reduce degree halvings ◌⊕◌
to_plain = PlainBench.ByTurning (mark 0x9D 16) (mark 0xC3 16) refl turns.0 refl

pub to_ours : BenchLevel.Route 0x11B (bits (0x41 ∷ 0x42 ∷ [])) 0x9D
to_ours = BenchLevel.ByTurning (mark 0xC3 16) (mark 0x9D 16) (sym plain_41_42) turns.1 refl

-- ---- what is claimed of turning and of two files, with these figures

pub the_calls : (turn x (plain_mark_of 0x11B (bits (0x41 ∷ 0x42 ∷ []))) ≡ Done (ours_of (bits (0x41 ∷ 0x42 ∷ []))))
    × (turn x (ours_of (bits (0x41 ∷ 0x42 ∷ []))) ≡ Done (plain_mark_of 0x11B (bits (0x41 ∷ 0x42 ∷ []))))
unfolding bits low_bits
the_calls = (
  turns-to_ours 0x11B (bits (0x41 ∷ 0x42 ∷ [])) ours.accepted_11_b (omega arith),
  turns-to_plain 0x11B (bits (0x41 ∷ 0x42 ∷ [])) ours.accepted_11_b (omega arith),
)

pub few : Few PlainBench.PlainRoute 8 (bits (0x00 ∷ 0x00 ∷ [])) (bits (0x01 ∷ 0x1B ∷ []))
unfolding bits low_bits
few = BenchProofs.plain_confusions 8 (bits (0x00 ∷ 0x00 ∷ [])) (bits (0x01 ∷ 0x1B ∷ [])) refl

pub tested : AsTested PlainBench.PlainRoute 8 (bits (0x00 ∷ 0x00 ∷ [])) (bits (0x01 ∷ 0x1B ∷ []))
unfolding bits low_bits
tested = BenchProofs.plain_counted 8 (bits (0x00 ∷ 0x00 ∷ [])) (bits (0x01 ∷ 0x1B ∷ [])) refl

pub empty-zero : Confuses PlainBench.PlainRoute (degree house_key) [] (bits (0x00 ∷ [])) house_key
empty-zero = BenchProofs.empty-and-zero house_key house-accepted

-- ---- the Site level: joining and page change, refused and not, between feeding. Both sides are computed.

pub calls : List Call
calls =
    Feeding (feeds.ByBits (whole (0x41 ∷ [])))
    ∷ Feeding (feeds.ByTable [] (whole (0x00 ∷ [])))
    ∷ Behind (mark 0x42 8) (bits (0x42 ∷ []))
    ∷ Behind (mark 0x100 8) []
    ∷ InFront (mark 0x41 34359738360) []
    ∷ Page 1 (as_part (0x40 ∷ []) 3) (as_part (0xA0 ∷ []) 3)
    ∷ Page 1 (as_part (0xA0 ∷ []) 3) (as_part (0x41 ∷ []) 3)
    ∷ Page 0 (whole (0x41 ∷ [])) (as_part (0x40 ∷ []) 7)
    ∷ Page 2 (whole (0x41 ∷ [])) (whole (0x00 ∷ []))
    ∷ InFront (mark 0x00 8) (bits (0x00 ∷ []))
    ∷ []

-- the numbers; the book's file. A zero byte in front leaves the plain fingerprint 23 as it was.
abbrev numbers : List ℕ
numbers = 0 ∷ 5 ∷ 0 ∷ 8 ∷ 7 ∷ 0 ∷ 19 ∷ 9 ∷ 10 ∷ 0 ∷ []

abbrev file : List ℕ
file = bits (0x00 ∷ 0x41 ∷ 0xA2 ∷ [])

pub site_book : run (book_step plain_site 0x11B) [] calls ≡ (file, numbers)
unfolding calls run book_step book_tests written BenchLevel.book_tests BenchLevel.written monic reducible any_below rem long_division reduce degree
    halvings ◌⊕◌ differs bits low_bits used_bits part_length part_bits misused
site_book = refl

pub site_list : run (step 0 0x11B) (mark 0x00 0) calls ≡ (mark 0x23 24, numbers)
unfolding calls run step feeds.step feed_bits feed_table fed_mark join_behind_from join_in_front_from joined_from replace_page replaced
    monic reducible any_below fingerprint_from value_from bits low_bits used_bits part_length part_bits misused rem long_division reduce degree halvings ◌⊕◌
    differs
site_list = refl

pub site-honest : Honest plain_site 0x11B [] calls
unfolding calls book_step book_tests written BenchLevel.book_tests BenchLevel.written
    monic reducible any_below fingerprint_from value_from bits low_bits used_bits part_length part_bits misused mark_from rem long_division reduce degree
    halvings ◌⊕◌ differs
site-honest = (
  λ e. tt,
  (
    λ e. tt,
    (
      λ e. refl,
      (
        λ e. absurd (omega (arith, e)),
        (
          λ e. absurd (omega (arith, e)),
          (
            λ e. refl,
            (
              λ e. absurd (omega (arith, e)),
              (λ e. absurd (omega (arith, e)), (λ e. absurd (omega (arith, e)), (λ e. refl, tt))),
            ),
          ),
        ),
      ),
    ),
  ),
)

pub by_site-calls : PlainRoute 0x11B file 0x23
by_site-calls =
    ByCalls (mark 0x23 24)
    (record {
      first = [];
      calls = calls;
      honest = site-honest;
      ends = ap (λ (b : List ℕ × List ℕ). b.0) site_book;
      leaves = ap (λ (m : Mark). (run (step 0 0x11B) m calls).0) (sym empty_plain) ∙ ap (λ (r : Mark × List ℕ). r.0) site_list;
    }) refl

pub of_bench : PlainRoute 0x11B [] 0x00
of_bench = OfBench beginning

-- ---- two files of one length that 0x11B confuses: 00 00 and 01 1B are both 0

pub both_zero : Confuses PlainBench.PlainRoute 8 (bits (0x00 ∷ 0x00 ∷ [])) (bits (0x01 ∷ 0x1B ∷ [])) 0x11B
unfolding fingerprint_from value_from bits low_bits rem long_division reduce degree halvings ◌⊕◌
both_zero =
    record {
      is-accepted = ours.accepted_11_b;
      of_degree = refl;
      fingerprint = 0x00;
      one = BenchProofs.plain_reaches 0x11B (bits (0x00 ∷ 0x00 ∷ []));
      other = BenchProofs.plain_reaches 0x11B (bits (0x01 ∷ 0x1B ∷ []));
    }
