-- Lists of calls under the key 0x11B, from the empty file, with the book beside them: each kind of call refused and not. And a route
-- of each kind. So the claims of Guarantee.antt are not empty.
use mathlib.Core.Path.{◌≡◌, refl, ap, subst, ◌∙◌}
use mathlib.Core.Bool.{true}
use mathlib.Core.List.{List, [], ◌∷◌, ◌++◌, map, zip_with, flatten}
use Prim.Native.Nat.{ℕ, ◌%◌, ◌≤◌}
use native.Mathlib.Omega.{arith}
use lib.Dec.{ltb, ltb→lt}
use lib.ListN.{length, take, replicate}
use Rattle.refusals.specs.Refusals.{Done}
use Rattle.big_endian.specs.Numbers.{bytes_of, fields_of, number_at, numbers_at, bytes_in}
use Rattle.sheets.specs.Layout.{version1, version4, newest, layouts, known, layout_among, sheet_bytes, contents_in}
use Rattle.sheets.specs.Layout.{sheet_length, pages_for, key_number, key_from}
use Rattle.sheets.specs.Sheets.{filled, page_fingerprints, contents_of, write_sheet, joined_pages, some_unreduced, read_sheet, read_pages}
use Rattle.sheets.specs.Claims.{highest, Holds}
use Rattle.sheets.proofs.Versions.{of_each}
use Rattle.sheets.proofs.Guarantee.{written-reads}
use Rattle.lists.proofs.Lists.{all_map, every, all_by_test}
use Rattle.gf2.specs.Polynomials.{◌⊕◌, halvings, degree, monic, reduce, long_division, rem}
use Rattle.lists.specs.Lists.{list_from, any_below, overlay}
use Rattle.acceptance.specs.Keys.{reducible, key_of}
use Rattle.files.specs.declared.Mark.{Mark}
use Rattle.files.specs.Files.{low_bits, bits, value_from, fingerprint_from, fingerprint, mark_from, as_part, whole, used_bits, part_length, part_bits, misused}
use Rattle.files.specs.Files.{fed_mark, joined_from, replaced}
use Rattle.files.proofs.Marks.{empty-mark}
use Rattle.files.proofs.Parts.{whole-bits}
use Rattle.lookups.specs.Rule.{differs}
use Rattle.marks.specs.Feeding.{feed_bits, feed_table}
use Rattle.compose.specs.Composing.{join_behind_from, join_in_front_from, replace_page}
use Rattle.book.specs.Runs.{book_step, run, Honest}
use Rattle.book.specs.Confusions.{Confuses}
use Rattle.fed_parts.specs.Parts as feeds
use Rattle.bench_book.specs.Book as BenchLevel
use Rattle.level_examples.proofs.Bench as BenchExamples
use Rattle.site_book.specs.Book.{Call, Feeding, Behind, InFront, Page, step, book_tests, written, site}
use Rattle.site_book.specs.Book.{TruePages, Route, OfBench, ByCalls, InSheet, InPageField, ByReading, ByReadingPages}
use Rattle.site_book.proofs.Guarantee.{bench-lists}

abbrev mark : ℕ → ℕ → Mark
mark f n = record { fingerprint = f; length = n }

-- ---- feeding: the Bench level's list, by bits and by tables, refused and not

pub the_feeding_list : run (step 1 0x11B) (mark 0x01 0) (map Feeding BenchExamples.calls) ≡ (mark 0x9D 16, 0 ∷ 7 ∷ 5 ∷ 6 ∷ 19 ∷ 0 ∷ [])
the_feeding_list = bench-lists 1 0x11B (mark 0x01 0) BenchExamples.calls ∙ BenchExamples.the_list

-- ---- joining and page change, refused and not, between feeding. Both sides are computed.

pub calls : List Call
calls =
    Feeding (feeds.ByBits (whole (0x41 ∷ [])))
    ∷ Feeding (feeds.ByTable [] (whole (0x00 ∷ [])))
    ∷ Behind (mark 0x59 8) (bits (0x42 ∷ []))
    ∷ Behind (mark 0x100 8) []
    ∷ InFront (mark 0x5A 34359738360) []
    ∷ Page 1 (as_part (0x40 ∷ []) 3) (as_part (0xA0 ∷ []) 3)
    ∷ Page 1 (as_part (0xA0 ∷ []) 3) (as_part (0x41 ∷ []) 3)
    ∷ Page 0 (whole (0x41 ∷ 0xA2 ∷ [])) (whole (0x00 ∷ 0x00 ∷ []))
    ∷ Page 0 (whole (0x41 ∷ [])) (as_part (0x40 ∷ []) 7)
    ∷ Page 2 (whole (0x41 ∷ [])) (whole (0x00 ∷ []))
    ∷ InFront (mark 0x5A 8) (bits (0x41 ∷ []))
    ∷ []

-- the numbers; the book's file
abbrev numbers : List ℕ
numbers = 0 ∷ 5 ∷ 0 ∷ 8 ∷ 7 ∷ 0 ∷ 19 ∷ 0 ∷ 9 ∷ 10 ∷ 0 ∷ []

pub the_book : run (book_step site 0x11B) [] calls ≡ (bits (0x41 ∷ 0x00 ∷ 0x00 ∷ []), numbers)
unfolding calls run book_step book_tests written BenchLevel.book_tests BenchLevel.written monic reducible any_below rem long_division reduce degree
    halvings ◌⊕◌ differs bits low_bits used_bits part_length part_bits misused
the_book = refl

pub the_list : run (step 1 0x11B) (mark 0x01 0) calls ≡ (mark (fingerprint 0x11B (bits (0x41 ∷ 0x00 ∷ 0x00 ∷ []))) 24, numbers)
unfolding calls run step feeds.step feed_bits feed_table fed_mark join_behind_from join_in_front_from joined_from replace_page replaced
    monic reducible any_below fingerprint_from value_from bits low_bits used_bits part_length part_bits misused rem long_division reduce degree halvings ◌⊕◌
    differs
the_list = refl

pub the_list_is-honest : Honest site 0x11B [] calls
unfolding calls book_step book_tests written BenchLevel.book_tests BenchLevel.written
    monic reducible any_below fingerprint_from value_from bits low_bits used_bits part_length part_bits misused mark_from rem long_division reduce degree
    halvings ◌⊕◌ differs
the_list_is-honest = (
  λ e. tt,
  (
    λ e. tt,
    (
      λ e. refl,
      (
        λ e. absurd (omega (arith, e)),
        (
          λ e. absurd (omega (arith, e)),
          (
            λ e. refl,
            (
              λ e. absurd (omega (arith, e)),
              (λ e. refl, (λ e. absurd (omega (arith, e)), (λ e. absurd (omega (arith, e)), (λ e. refl, tt)))),
            ),
          ),
        ),
      ),
    ),
  ),
)

-- the three first bits of the byte 42 changed in the mark of 41 42
pub three_bits : replace_page (key_of 0x11B) (mark 0x9D 16) 1 (as_part (0x40 ∷ []) 3) (as_part (0xA0 ∷ []) 3) ≡ Done (mark 0x7D 16)
unfolding replace_page replaced monic reducible any_below fingerprint_from value_from bits low_bits used_bits part_length part_bits misused
    rem long_division reduce degree halvings ◌⊕◌
three_bits = refl

-- ---- routes: the list above; and the beginning of a mark, which is one of the Bench level's

pub by_calls : Route 0x11B (bits (0x41 ∷ 0x00 ∷ 0x00 ∷ [])) (fingerprint 0x11B (bits (0x41 ∷ 0x00 ∷ 0x00 ∷ [])))
by_calls =
    ByCalls (mark (fingerprint 0x11B (bits (0x41 ∷ 0x00 ∷ 0x00 ∷ []))) 24)
    (record {
      first = [];
      calls = calls;
      honest = the_list_is-honest;
      ends = ap (λ (x : List ℕ × List ℕ). x.0) the_book;
      leaves =
          ap (λ (m : Mark). (run (step 1 0x11B) m calls).0) (empty-mark 0x11B (omega arith)) ∙ ap (λ (x : Mark × List ℕ). x.0) the_list;
    }) refl

pub beginning : Route 0x11B [] 0x01
beginning = OfBench BenchExamples.beginning

-- ---- routes through the sheets of the file 41 42, with pages of 16 bytes: its one page is not whole

abbrev two : List ℕ
two = bits (0x41 ∷ 0x42 ∷ [])

-- a number below 256 in 8 bytes; the key 0x11B as a degree and a word, and as a number
abbrev field : ℕ → List ℕ
field f = 0x00 ∷ 0x00 ∷ 0x00 ∷ 0x00 ∷ 0x00 ∷ 0x00 ∷ 0x00 ∷ f ∷ []

abbrev pair_field : List ℕ
pair_field = 0x08 ∷ field 0x1B

abbrev key_field : List ℕ
key_field = 0x00 ∷ 0x00 ∷ 0x00 ∷ 0x00 ∷ 0x00 ∷ 0x00 ∷ 0x01 ∷ 0x1B ∷ []

-- the premises of what is claimed of the sheet of a file in each version
pub two-held : (version : ℕ) → known layouts version ≡ true → Holds version 0x11B 16 two
unfolding bits low_bits degree halvings
two-held version known =
    record {
      is_known = known;
      is-accepted = BenchExamples.accepted_11_b;
      has_room = of_each (λ v. degree 0x11B ≤ highest v) (omega arith) (omega arith) (omega arith) (omega arith) version;
      within = omega arith;
      whole = of_each (λ v. length two % v.length_unit ≡ 0) refl refl refl refl version;
      page-size = (omega arith, omega arith);
    }

-- what is written: version 4, the length in bits, the page as it is. 40 bytes.
sheet : List ℕ
sheet = 0x47 ∷ 0x46 ∷ 0x50 ∷ 0x00 ∷ 0x04 ∷ pair_field ++ field 0x10 ++ 0x00 ∷ 0x10 ∷ field 0x9D ++ field 0x9D

written-sheet : write_sheet (key_of 0x11B) 16 (whole (0x41 ∷ 0x42 ∷ [])) (replicate 40 0) ≡ Done sheet
unfolding sheet write_sheet overlay sheet_bytes key_number layout_among bytes_in zip_with flatten fields_of bytes_of contents_of page_fingerprints filled
    monic reducible any_below fingerprint_from value_from bits low_bits used_bits part_length part_bits misused rem long_division reduce degree halvings ◌⊕◌
written-sheet = refl

the_two : part_bits (whole (0x41 ∷ 0x42 ∷ [])) ≡ two
the_two = whole-bits (0x41 ∷ 0x42 ∷ [])

pub last-field : Route 0x11B two 0x9D
unfolding sheet number_at value_from bits low_bits
last-field = InSheet 16 (whole (0x41 ∷ 0x42 ∷ [])) (replicate 40 0) sheet written-sheet the_two refl

pub page-field : Route 0x11B two 0x9D
unfolding sheet filled number_at value_from bits low_bits used_bits part_length part_bits
page-field = InPageField 16 0 (whole (0x41 ∷ 0x42 ∷ [])) (replicate 40 0) sheet written-sheet (omega arith) refl refl

true_pages : TruePages 0x11B two sheet (contents_of 4 (key_of 0x11B) 16 two)
unfolding sheet every contents_of bits low_bits
true_pages =
    record {
      bytes = all_map (λ b t. ltb→lt b 256 t) sheet (all_by_test (λ b. ltb b 256) sheet tt);
      read =
          subst (λ (l : List ℕ). read_sheet (take (sheet_length newest (pages_for 16 (length l))) sheet) ≡ Done (contents_of 4 (key_of 0x11B) 16 l)) the_two
          (written-reads (key_of 0x11B) 16 (whole (0x41 ∷ 0x42 ∷ [])) (replicate 40 0) sheet written-sheet);
      same_key = refl;
      same_length = refl;
      same-pages = refl;
    }

pub read_9_d : Route 0x11B two 0x9D
unfolding contents_of monic fingerprint_from value_from bits low_bits rem long_division reduce degree halvings ◌⊕◌
read_9_d = ByReading sheet (contents_of 4 (key_of 0x11B) 16 two) true_pages refl

-- version 1 is read by its filling: document 01's sheet of 41 42, its length in bytes
old-sheet : List ℕ
old-sheet = 0x47 ∷ 0x46 ∷ 0x50 ∷ 0x00 ∷ 0x01 ∷ key_field ++ 0x00 ∷ 0x00 ∷ 0x00 ∷ 0x02 ∷ 0x00 ∷ 0x10 ∷ field 0xAC ++ field 0x9D

old-pages : TruePages 0x11B two old-sheet (contents_of 1 (key_of 0x11B) 16 two)
unfolding old-sheet every overlay filled contents_of page_fingerprints read_sheet contents_in key_from known layout_among numbers_at number_at
    fingerprint_from value_from bits low_bits joined_pages joined_from some_unreduced mark_from monic reducible any_below rem long_division reduce degree
    halvings ◌⊕◌
old-pages =
    record {
      bytes = all_map (λ b t. ltb→lt b 256 t) old-sheet (all_by_test (λ b. ltb b 256) old-sheet tt);
      read = refl;
      same_key = refl;
      same_length = refl;
      same-pages = refl;
    }

pub read_AC : Route 0x11B (two ++ replicate 112 0) 0xAC
unfolding old-sheet overlay filled contents_of page_fingerprints read_pages read_sheet contents_in key_from known layout_among numbers_at number_at
    fingerprint_from value_from bits low_bits joined_pages joined_from some_unreduced mark_from monic reducible any_below rem long_division reduce degree
    halvings ◌⊕◌
read_AC = ByReadingPages two old-sheet (0x00 ∷ []) (0xAC ∷ []) (contents_of 1 (key_of 0x11B) 16 two) 0 old-pages refl (omega arith) (omega arith) refl refl

-- ---- the pages of the 17 bytes 00 to 10, the last of one byte: filled up in version 1, as it is in versions 2 to 4

abbrev seventeen : List ℕ
seventeen = bits (list_from (λ b. b) 0 17)

pub filled-pages : page_fingerprints version1 0x11B 128 2 seventeen ≡ 0x6E ∷ 0x90 ∷ []
unfolding list_from page_fingerprints filled fingerprint_from value_from bits low_bits rem long_division reduce degree halvings ◌⊕◌
filled-pages = refl

pub own-pages : page_fingerprints version4 0x11B 128 2 seventeen ≡ 0x6E ∷ 0x0B ∷ []
unfolding list_from page_fingerprints filled fingerprint_from value_from bits low_bits rem long_division reduce degree halvings ◌⊕◌
own-pages = refl

pub their_file : fingerprint 0x11B seventeen ≡ 0x45
unfolding list_from fingerprint_from value_from bits low_bits rem long_division reduce degree halvings ◌⊕◌
their_file = refl

-- ---- keys that confuse two files at Bench confuse them here

of_bench : {k : ℕ} {a b : List ℕ} {key : ℕ} → Confuses BenchLevel.Route k a b key → Confuses Route k a b key
of_bench c = record { is-accepted = c.is-accepted; of_degree = c.of_degree; fingerprint = c.fingerprint; one = OfBench c.one; other = OfBench c.other }

-- 00 00 and 01 1B under 0x11B
pub both_5_e : Confuses Route 8 (bits (0x00 ∷ 0x00 ∷ [])) (bits (0x01 ∷ 0x1B ∷ [])) 0x11B
both_5_e = of_bench BenchExamples.both_5_e

-- degree 64: nine bytes 00, and 01, seven times 00, 1B, under the stock key
pub both_1_b00 : Confuses Route 64 BenchExamples.nine-zeros BenchExamples.nine-other BenchExamples.key64
both_1_b00 = of_bench BenchExamples.both_1_b00
