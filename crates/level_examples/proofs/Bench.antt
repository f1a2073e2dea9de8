-- Lists of calls with the book beside them, each kind of call refused and not, and a route of each kind: the claims of Guarantee.antt are
-- not empty.
use mathlib.Core.Path.{◌≡◌, refl, sym, ap, ap₂, ◌∙◌}
use mathlib.Core.Bool.{true, false}
use mathlib.Core.List.{List, [], ◌∷◌, ◌++◌, append-nil}
use Prim.Native.Nat.{ℕ}
use native.Mathlib.Omega.{arith}
use lib.ListN.{length, replicate, length-replicate}
use Rattle.gf2.specs.Polynomials.{◌⊕◌, halvings, degree, monic, reduce, long_division, rem}
use Rattle.lists.specs.Lists.{list_from, any_below}
use Rattle.refusals.specs.declared.Refusal.TheVariants.{TableSize, TableWord, TooLong, FinalByte}
use Rattle.refusals.specs.Refusals.{Done, Refused, ◌⇒◌, longest}
use Rattle.refusals.proofs.Lengths.{sum-passes}
use Rattle.acceptance.specs.Keys.{reducible, accepted, key_of}
use Rattle.files.specs.declared.Mark.{Mark}
use Rattle.files.specs.Files.{low_bits, bits, value_from, fingerprint_from, fingerprint, mark_from, mark_of}
use Rattle.files.specs.Files.{Part, as_part, whole, used_bits, part_length, part_bits, misused, fed_mark}
use Rattle.files.proofs.Marks.{empty-mark}
use Rattle.files.proofs.Parts.{whole_long}
use Rattle.acceptance.proofs.Opened.{open_accepted, opened-first}
use Rattle.mark_tests.specs.MarkTests.{sum_test}
use Rattle.marks.specs.Feeding.{begin_from, feed_bits}
use Rattle.lookups.specs.Rule.{word, differs}
use Rattle.printing.specs.Printing.{ascii}
use Rattle.printing.proofs.Readings.{example-line, example-report}
use Rattle.house.specs.House.{house_key, house_words}
use Rattle.house.proofs.House.{house-accepted}
use Rattle.stock.proofs.Table.{stock_smallest, stock_64}
use Rattle.book.specs.Runs.{book_step, run, Honest}
use Rattle.book.specs.Confusions.{Confuses}
use Rattle.fed_parts.specs.Parts.{Feed, ByBits, ByTable, step, AllUsable}
use Rattle.fed_parts.proofs.Parts.{parts, cut_anywhere}
use Rattle.bench_book.specs.Book.{book_tests, bench, Route, ByCalls, Beginning, Printed}
use Rattle.bench_book.proofs.StepLaws.{taken}
use Rattle.bench_book.proofs.Guarantee.{lists, reaches}

pub accepted_11_b : accepted 0x11B ≡ true
unfolding accepted reducible any_below rem long_division reduce degree halvings ◌⊕◌
accepted_11_b = refl

-- ---- under the key 0x11B, from the empty file

-- the key's table, and 1,024 zero words
right : List ℕ
right = list_from (word 8 0x11B) 0 1024

wrong : List ℕ
wrong = list_from (λ n. 0) 0 1024

zeros : ℕ → List ℕ
zeros n = replicate n 0

length-zeros : (n : ℕ) → length (zeros n) ≡ n
unfolding zeros
length-zeros n = length-replicate n 0

-- one byte more than the limit
abbrev long : Part
long = whole (zeros 4294967296)

-- of the bits 0100 0001 the first three are said to be used, and the last is not zero
abbrev dirty : Part
dirty = as_part (0x41 ∷ []) 3

abbrev byte_41 : List ℕ
byte_41 = bits (0x41 ∷ [])

pub calls : List Feed
calls =
    ByBits (whole (0x41 ∷ []))
    ∷ ByBits long
    ∷ ByTable [] (whole (0x00 ∷ []))
    ∷ ByTable wrong (whole (0x00 ∷ []))
    ∷ ByBits dirty
    ∷ ByTable right (whole (0x42 ∷ []))
    ∷ []

by_bits : book_step bench 0x11B [] (ByBits (whole (0x41 ∷ []))) ≡ Done byte_41
unfolding misused part_bits part_length used_bits bits low_bits
by_bits = taken 1 0x11B accepted_11_b [] (ByBits (whole (0x41 ∷ []))) refl (omega arith)

too_long : book_step bench 0x11B byte_41 (ByBits long) ≡ Refused TooLong byte_41
unfolding book_step book_tests
too_long =
    opened-first (open_accepted 0x11B accepted_11_b) (sum_test (length byte_41) (part_length long) ∷ misused long ⇒ FinalByte ∷ []) byte_41 _
    ∙ rw (sum-passes (length byte_41) (part_length long) (omega (arith, whole_long (zeros 4294967296), length-zeros 4294967296)))

no_words : book_step bench 0x11B byte_41 (ByTable [] (whole (0x00 ∷ []))) ≡ Refused TableSize byte_41
unfolding book_step book_tests monic reducible any_below rem long_division reduce degree halvings ◌⊕◌
no_words = refl

wrong-words : book_step bench 0x11B byte_41 (ByTable wrong (whole (0x00 ∷ []))) ≡ Refused TableWord byte_41
unfolding wrong book_step book_tests monic reducible any_below rem long_division reduce degree halvings ◌⊕◌ list_from differs word
wrong-words = refl

dirty-byte : book_step bench 0x11B byte_41 (ByBits dirty) ≡ Refused FinalByte byte_41
unfolding book_step book_tests monic reducible any_below rem long_division reduce degree halvings ◌⊕◌ part_length used_bits misused bits low_bits
dirty-byte = refl

right-words : book_step bench 0x11B byte_41 (ByTable right (whole (0x42 ∷ []))) ≡ Done (bits (0x41 ∷ 0x42 ∷ []))
unfolding right misused part_bits part_length used_bits bits low_bits
right-words = taken 1 0x11B accepted_11_b byte_41 (ByTable right (whole (0x42 ∷ []))) (refl, refl) (omega arith)

-- the book's file, and the numbers
pub the_book : run (book_step bench 0x11B) [] calls ≡ (bits (0x41 ∷ 0x42 ∷ []), 0 ∷ 7 ∷ 5 ∷ 6 ∷ 19 ∷ 0 ∷ [])
unfolding calls run
the_book = simp (by_bits, too_long, no_words, wrong-words, dirty-byte, right-words)

pub the_list_is-honest : Honest bench 0x11B [] calls
unfolding calls
the_list_is-honest = (λ e. tt, (λ e. tt, (λ e. tt, (λ e. tt, (λ e. tt, (λ e. tt, tt))))))

-- the mark of the empty file
abbrev begun : Mark
begun = record { fingerprint = 0x1; length = 0 }

-- the marks' side, by the list theorem
mark_41_42 : mark_of 0x11B (bits (0x41 ∷ 0x42 ∷ [])) ≡ record { fingerprint = 0x9D; length = 16 }
unfolding mark_from fingerprint_from value_from bits low_bits rem long_division reduce degree halvings ◌⊕◌
mark_41_42 = refl

pub the_list : run (step 0x11B) begun calls ≡ (record { fingerprint = 0x9D; length = 16 }, 0 ∷ 7 ∷ 5 ∷ 6 ∷ 19 ∷ 0 ∷ [])
the_list =
    let r = lists 0x11B [] begun calls accepted_11_b (sym (empty-mark 0x11B (omega arith))) the_list_is-honest in
    ap₂ {C = Mark × List ℕ} (λ (x : Mark) (ns : List ℕ). (x, ns)) (r.0 ∙ ap (λ (x : List ℕ × List ℕ). mark_of 0x11B x.0) the_book ∙ mark_41_42)
    (r.1 ∙ ap (λ (x : List ℕ × List ℕ). x.1) the_book)

-- ---- parts that end inside a byte (document 02, wish 7), under 0x11B: 41 42 cut behind its third bit

abbrev pub front : Part
front = as_part (0x40 ∷ []) 3

abbrev pub back : Part
back = as_part (0x0A ∷ 0x10 ∷ []) 5

cut_41_42 : part_bits front ++ part_bits back ≡ bits (0x41 ∷ 0x42 ∷ [])
unfolding part_bits part_length used_bits bits low_bits
cut_41_42 = refl

well-front : misused front ≡ false
unfolding misused
well-front = refl

well-back : misused back ≡ false
unfolding misused
well-back = refl

length_41_42 : length (bits (0x41 ∷ 0x42 ∷ [])) ≡ 16
unfolding bits low_bits
length_41_42 = refl

-- the premises of `cut_anywhere` hold, and what it says is the mark of the whole file
pub both-parts : run (step 0x11B) begun (ByBits front ∷ ByBits back ∷ []) ≡ (record { fingerprint = 0x9D; length = 16 }, 0 ∷ 0 ∷ [])
both-parts =
    cut_anywhere 1 0x11B [] (bits (0x41 ∷ 0x42 ∷ [])) begun front back accepted_11_b (sym (empty-mark 0x11B (omega arith))) well-front well-back cut_41_42
    (omega (arith, length_41_42))
    ∙ ap {B = Mark × List ℕ} (λ (x : Mark). (x, 0 ∷ 0 ∷ [])) mark_41_42

-- feeding a part to a mark, computed
abbrev Gives : Mark → Part → ℕ → ℕ → Type 0
Gives m part f n = feed_bits (key_of 0x11B) m part ≡ Done (record { fingerprint = f; length = n })

pub computed : Gives begun (as_part (0x00 ∷ []) 1) 0x02 1
    × Gives begun (as_part (0x80 ∷ []) 1) 0x03 1
    × Gives begun (as_part (0x00 ∷ []) 7) 0x80 7
    × Gives begun (as_part (0x41 ∷ 0x40 ∷ []) 3) 0xE4 11
    × Gives begun front 0x0A 3
    × Gives (record { fingerprint = 0x0A; length = 3 }) back 0x9D 16
unfolding feed_bits fed_mark misused part_bits part_length used_bits value_from bits low_bits monic reducible any_below rem long_division reduce degree
    halvings ◌⊕◌
computed = (refl, refl, refl, refl, refl, refl)

-- ---- under the house key, from the empty file

pub house-calls : List Feed
house-calls = ByTable house_words (whole (0x41 ∷ [])) ∷ ByBits (whole (0x42 ∷ [])) ∷ ByTable house_words (whole []) ∷ []

pub house_usable : AllUsable house_key house-calls
unfolding house-calls misused
house_usable = ((refl, refl), (refl, ((refl, refl), tt)))

-- two bytes fit below t^61, so that the fingerprint is t^16 and the bits themselves
mark-below_61 : mark_of house_key (bits (0x41 ∷ 0x42 ∷ [])) ≡ record { fingerprint = 0x14142; length = 16 }
unfolding mark_from fingerprint_from value_from bits low_bits rem long_division reduce degree halvings ◌⊕◌
mark-below_61 = refl

pub the_house_list : run (step house_key) begun house-calls ≡ (record { fingerprint = 0x14142; length = 16 }, 0 ∷ 0 ∷ 0 ∷ [])
unfolding house-calls part_bits part_length used_bits bits low_bits
the_house_list =
    parts 1 house_key [] begun house-calls house-accepted (sym (empty-mark house_key (omega arith))) house_usable (omega arith)
    ∙ ap {B = Mark × List ℕ} (λ (x : Mark). (x, 0 ∷ 0 ∷ 0 ∷ [])) mark-below_61

-- ---- the limit: 34,359,738,360 bits plus one bit gives 7; plus none is accepted

module _ (key : ℕ) (a : accepted key ≡ true) (file : List ℕ) (full : length file ≡ longest) where
  pub one_more : (b : ℕ) → book_step bench key file (ByBits (as_part (b ∷ []) 1)) ≡ Refused TooLong file
  unfolding book_step book_tests part_length used_bits
  one_more b =
      opened-first (open_accepted key a) (sum_test (length file) 1 ∷ misused (as_part (b ∷ []) 1) ⇒ FinalByte ∷ []) file _
      ∙ rw full

  pub none_more : book_step bench key file (ByBits (whole [])) ≡ Done file
  unfolding misused part_bits part_length bits
  none_more = taken 1 key a file (ByBits (whole [])) refl (omega (arith, full)) ∙ ap Done (append-nil file)

-- ---- a route of each kind: the list above, the beginning of a mark, and the printing program on document 01's example

pub by_calls : Route 0x11B (bits (0x41 ∷ 0x42 ∷ [])) 0x9D
by_calls =
    ByCalls (record { fingerprint = 0x9D; length = 16 })
    (record {
      first = [];
      calls = calls;
      honest = the_list_is-honest;
      ends = ap (λ (x : List ℕ × List ℕ). x.0) the_book;
      leaves =
          ap (λ (m : Mark). (run (step 0x11B) m calls).0) (empty-mark 0x11B (omega arith)) ∙ ap (λ (x : Mark × List ℕ). x.0) the_list;
    }) refl

pub beginning : Route 0x11B [] 0x01
unfolding begin_from mark_from fingerprint_from value_from monic reducible any_below rem long_division reduce degree halvings ◌⊕◌
beginning = Beginning refl refl

pub printed_9_d : Route 0x11B (bits (0x41 ∷ 0x42 ∷ [])) 0x9D
unfolding ascii bits low_bits
printed_9_d = Printed (ascii "11b\nAB") 4 example-line refl example-report

-- ---- a key that confuses two files: 00 00 and 01 1B under 0x11B

pub both_5_e : Confuses Route 8 (bits (0x00 ∷ 0x00 ∷ [])) (bits (0x01 ∷ 0x1B ∷ [])) 0x11B
unfolding fingerprint_from value_from bits low_bits rem long_division reduce degree halvings ◌⊕◌
both_5_e =
    record {
      is-accepted = accepted_11_b;
      of_degree = refl;
      fingerprint = 0x5E;
      one = reaches 0x11B (bits (0x00 ∷ 0x00 ∷ []));
      other = reaches 0x11B (bits (0x01 ∷ 0x1B ∷ []));
    }

-- ---- degree 64 (document 02, wish 8): nine bytes 00, and 01, seven times 00, 1B, under the stock key

abbrev pub key64 : ℕ
key64 = 0x1000000000000001B

pub accepted_64 : accepted key64 ≡ true
accepted_64 = rw stock_64 at (stock_smallest 64 (omega arith) (omega arith)).is-accepted

pub degree_64 : degree key64 ≡ 64
degree_64 = rw stock_64 at (stock_smallest 64 (omega arith) (omega arith)).of_degree

abbrev pub nine-zeros : List ℕ
nine-zeros = bits (0x00 ∷ 0x00 ∷ 0x00 ∷ 0x00 ∷ 0x00 ∷ 0x00 ∷ 0x00 ∷ 0x00 ∷ 0x00 ∷ [])

abbrev pub nine-other : List ℕ
nine-other = bits (0x01 ∷ 0x00 ∷ 0x00 ∷ 0x00 ∷ 0x00 ∷ 0x00 ∷ 0x00 ∷ 0x00 ∷ 0x1B ∷ [])

pub both_1_b00 : Confuses Route 64 nine-zeros nine-other key64
unfolding fingerprint_from value_from bits low_bits rem long_division reduce degree halvings ◌⊕◌
both_1_b00 =
    record {
      is-accepted = accepted_64;
      of_degree = degree_64;
      fingerprint = 0x1B00;
      one = reaches key64 nine-zeros;
      other = reaches key64 nine-other;
    }
