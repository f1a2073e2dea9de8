-- `over_blocks` meets its contract: the first pages have the expected fingerprints, and these are written.
use mathlib.Core.Path.{◌≡◌, refl, sym, ap, ◌∙◌}
use mathlib.Core.List.{List, []}
use Prim.Native.Nat.{ℕ, ◌+◌, ◌*◌, ◌^◌, ◌≤◌, ◌<◌}
use native.Mathlib.Nat.{zero-add}
use native.Mathlib.Omega.{arith}
use lib.ListN.{length, take, drop, drop_of_length-le}
use lib.Seq.{sets, length-take-le}
use Rattle.gf2.specs.Moduli.{polynomial}
use Rattle.files.specs.Files.{Part, as_part, part_bits, misused}
use Rattle.files.proofs.Parts.{rest-misused}
use Rattle.big_endian.specs.Numbers.{fields_of}
use Rattle.sheets.specs.Layout.{Layout, page_count}
use Rattle.sheets.specs.Sheets.{page_fingerprints}
use Rattle.sheets.specs.Inner.{filling}
use Rattle.sheets.proofs.Pages.{length-pages, page-begins, count-few, count-reached, all_left}
use Rattle.sheets.proofs.Changes.{agree-le}
use Rattle.sheet_pass.specs.Passes.{expected}
use Rattle.sheet_pass.proofs.Passes.{block-long, block-few, block-ends, block_agrees, block_written, known_fewer}
use Rattle.sheet_pass.proofs.Turns.{turn-within, turn-some, turn-marks}
use Rattle.sheet_pass.proofs.over_blocks.Goals as goal
use Rattle.sheet_pass.proofs.over_blocks.Goals.{After-agreeing-same, After-marks-1, After-next_pages-n, After-put_fields, Start}

abbrev key : Start → ℕ
key s = polynomial s.args.x.p

abbrev layout : Start → Layout
layout s = filling s.args.x.filled

abbrev file : Start → Part
file s = as_part s.args.file.now s.args.x.used

abbrev count : Start → ℕ
count s = page_count s.args.x.size (length (file s).bytes)

abbrev prints : Start → List ℕ
prints s = page_fingerprints (layout s) (key s) (8 * s.args.x.size) (count s) (part_bits (file s))

positive : (s : Start) → 0 < s.args.x.size
positive s = omega (arith, s.requires.1)

small : (s : Start) → count s < 2 ^ 29
small s = count-few s.args.x.size (length (file s).bytes) s.requires.1 s.requires.2 s.requires.3

many : (s : Start) → length (prints s) ≡ count s
many s = length-pages (layout s) (key s) (count s) (8 * s.args.x.size) (part_bits (file s))

abbrev file-at_after_marks_1 : After-marks-1 → Part
file-at_after_marks_1 s = as_part s.args.file.now s.args.x.used

more : (c : After-marks-1) → c.loop-page.page * c.args.x.size < length (file-at_after_marks_1 c).bytes
more c = c.loop-page-test.true

abbrev file-at_after_next_pages_n : After-next_pages-n → Part
file-at_after_next_pages_n s = as_part s.args.file.now s.args.x.used

abbrev count-at_after_next_pages_n : After-next_pages-n → ℕ
count-at_after_next_pages_n s = page_count s.args.x.size (length (file-at_after_next_pages_n s).bytes)

abbrev layout-at_after_next_pages_n : After-next_pages-n → Layout
layout-at_after_next_pages_n s = filling s.args.x.filled

abbrev key-at_after_next_pages_n : After-next_pages-n → ℕ
key-at_after_next_pages_n s = polynomial s.args.x.p

positive-at_after_next_pages_n : (s : After-next_pages-n) → 0 < s.args.x.size
positive-at_after_next_pages_n s = omega (arith, s.requires.1)

more-at_after_next_pages_n : (c : After-next_pages-n) → c.loop-page.page * c.args.x.size < length (file-at_after_next_pages_n c).bytes
more-at_after_next_pages_n c = c.loop-page-test.true

-- the pages of the block are pages of the file, at least one
within : (c : After-next_pages-n) → c.loop-page.page + c.next_pages-n.result ≤ count-at_after_next_pages_n c
within c =
    turn-within (layout-at_after_next_pages_n c) (key-at_after_next_pages_n c) c.args.x.size (file-at_after_next_pages_n c) c.loop-page.page
    (positive-at_after_next_pages_n c) (more-at_after_next_pages_n c) c.next_pages-n.result _ _
    c.next_pages-n.ensures

some : (c : After-next_pages-n) → 0 < c.next_pages-n.result
some c =
    turn-some (layout-at_after_next_pages_n c) (key-at_after_next_pages_n c) c.args.x.size (file-at_after_next_pages_n c) c.loop-page.page
    (positive-at_after_next_pages_n c) (more-at_after_next_pages_n c) c.next_pages-n.result _ _
    c.next_pages-n.ensures

-- the marks of the block, as they are lent
abbrev block : After-next_pages-n → List ℕ
block c = take c.next_pages-n.result c.next_pages-n.new.marks

abbrev prints-at_after_next_pages_n : After-next_pages-n → List ℕ
prints-at_after_next_pages_n s = page_fingerprints (layout-at_after_next_pages_n s) (key-at_after_next_pages_n s) (8 * s.args.x.size)
    (count-at_after_next_pages_n s) (part_bits (file-at_after_next_pages_n s))

marks : (c : After-next_pages-n) → block c ≡ take c.next_pages-n.result (drop c.loop-page.page (prints-at_after_next_pages_n c))
marks c =
    turn-marks (layout-at_after_next_pages_n c) (key-at_after_next_pages_n c) c.args.x.size (file-at_after_next_pages_n c) c.loop-page.page
    (positive-at_after_next_pages_n c) (more-at_after_next_pages_n c) c.next_pages-n.result _ _
    c.next_pages-n.ensures

many-at_after_next_pages_n : (s : After-next_pages-n) → length (prints-at_after_next_pages_n s) ≡ count-at_after_next_pages_n s
many-at_after_next_pages_n s = length-pages (layout-at_after_next_pages_n s) (key-at_after_next_pages_n s) (count-at_after_next_pages_n s) (8 * s.args.x.size)
    (part_bits (file-at_after_next_pages_n s))

fits : (c : After-next_pages-n) → c.loop-page.page + c.next_pages-n.result ≤ length (prints-at_after_next_pages_n c)
fits c = omega (arith, within c, many-at_after_next_pages_n c)

long : (c : After-next_pages-n) → length (block c) ≡ c.next_pages-n.result
long c = block-long c.args.known (prints-at_after_next_pages_n c) (block c) c.loop-page.page c.next_pages-n.result (marks c) (fits c)

all-marks : (c : After-next_pages-n) → c.next_pages-n.result ≤ length c.next_pages-n.new.marks
all-marks c = omega (arith, c.next_pages-n.ensures.count, c.next_pages-n.auto.marks, c.loop-page.invariant.1)

abbrev layout-at_after_agreeing_same : After-agreeing-same → Layout
layout-at_after_agreeing_same s = filling s.args.x.filled

abbrev key-at_after_agreeing_same : After-agreeing-same → ℕ
key-at_after_agreeing_same s = polynomial s.args.x.p

abbrev file-at_after_agreeing_same : After-agreeing-same → Part
file-at_after_agreeing_same s = as_part s.args.file.now s.args.x.used

abbrev count-at_after_agreeing_same : After-agreeing-same → ℕ
count-at_after_agreeing_same s = page_count s.args.x.size (length (file-at_after_agreeing_same s).bytes)

abbrev prints-at_after_agreeing_same : After-agreeing-same → List ℕ
prints-at_after_agreeing_same s = page_fingerprints (layout-at_after_agreeing_same s) (key-at_after_agreeing_same s) (8 * s.args.x.size)
    (count-at_after_agreeing_same s) (part_bits (file-at_after_agreeing_same s))

abbrev block-at_after_agreeing_same : After-agreeing-same → List ℕ
block-at_after_agreeing_same c = take c.next_pages-n.result c.next_pages-n.new.marks

positive-at_after_agreeing_same : (s : After-agreeing-same) → 0 < s.args.x.size
positive-at_after_agreeing_same s = omega (arith, s.requires.1)

more-at_after_agreeing_same : (c : After-agreeing-same) → c.loop-page.page * c.args.x.size < length (file-at_after_agreeing_same c).bytes
more-at_after_agreeing_same c = c.loop-page-test.true

marks-at_after_agreeing_same : (c : After-agreeing-same)
    → block-at_after_agreeing_same c ≡ take c.next_pages-n.result (drop c.loop-page.page (prints-at_after_agreeing_same c))
marks-at_after_agreeing_same c =
    turn-marks (layout-at_after_agreeing_same c) (key-at_after_agreeing_same c) c.args.x.size (file-at_after_agreeing_same c) c.loop-page.page
    (positive-at_after_agreeing_same c) (more-at_after_agreeing_same c) c.next_pages-n.result _ _
    c.next_pages-n.ensures

within-at_after_agreeing_same : (c : After-agreeing-same) → c.loop-page.page + c.next_pages-n.result ≤ count-at_after_agreeing_same c
within-at_after_agreeing_same c =
    turn-within (layout-at_after_agreeing_same c) (key-at_after_agreeing_same c) c.args.x.size (file-at_after_agreeing_same c) c.loop-page.page
    (positive-at_after_agreeing_same c) (more-at_after_agreeing_same c) c.next_pages-n.result _ _
    c.next_pages-n.ensures

many-at_after_agreeing_same : (s : After-agreeing-same) → length (prints-at_after_agreeing_same s) ≡ count-at_after_agreeing_same s
many-at_after_agreeing_same s = length-pages (layout-at_after_agreeing_same s) (key-at_after_agreeing_same s) (count-at_after_agreeing_same s)
    (8 * s.args.x.size) (part_bits (file-at_after_agreeing_same s))

fits-at_after_agreeing_same : (c : After-agreeing-same) → c.loop-page.page + c.next_pages-n.result ≤ length (prints-at_after_agreeing_same c)
fits-at_after_agreeing_same c = omega (arith, within-at_after_agreeing_same c, many-at_after_agreeing_same c)

few : (c : After-agreeing-same) → c.agreeing-same.result ≤ c.next_pages-n.result
few c =
    block-few c.args.known (prints-at_after_agreeing_same c) (block-at_after_agreeing_same c) c.loop-page.page c.next_pages-n.result
    (marks-at_after_agreeing_same c) (fits-at_after_agreeing_same c) c.agreeing-same.result
    c.agreeing-same.ensures

all-marks-at_after_agreeing_same : (c : After-agreeing-same) → c.next_pages-n.result ≤ length c.next_pages-n.new.marks
all-marks-at_after_agreeing_same c = omega (arith, c.next_pages-n.ensures.count, c.next_pages-n.auto.marks, c.loop-page.invariant.1)

taken : (c : After-agreeing-same) → length (take c.agreeing-same.result c.next_pages-n.new.marks) ≡ c.agreeing-same.result
taken c = length-take-le c.agreeing-same.result c.next_pages-n.new.marks (omega (arith, few c, all-marks-at_after_agreeing_same c))

abbrev layout-at_after_put_fields : After-put_fields → Layout
layout-at_after_put_fields s = filling s.args.x.filled

abbrev key-at_after_put_fields : After-put_fields → ℕ
key-at_after_put_fields s = polynomial s.args.x.p

abbrev file-at_after_put_fields : After-put_fields → Part
file-at_after_put_fields s = as_part s.args.file.now s.args.x.used

abbrev count-at_after_put_fields : After-put_fields → ℕ
count-at_after_put_fields s = page_count s.args.x.size (length (file-at_after_put_fields s).bytes)

abbrev prints-at_after_put_fields : After-put_fields → List ℕ
prints-at_after_put_fields s = page_fingerprints (layout-at_after_put_fields s) (key-at_after_put_fields s) (8 * s.args.x.size) (count-at_after_put_fields s)
    (part_bits (file-at_after_put_fields s))

abbrev block-at_after_put_fields : After-put_fields → List ℕ
block-at_after_put_fields c = take c.next_pages-n.result c.next_pages-n.new.marks

positive-at_after_put_fields : (s : After-put_fields) → 0 < s.args.x.size
positive-at_after_put_fields s = omega (arith, s.requires.1)

more-at_after_put_fields : (c : After-put_fields) → c.loop-page.page * c.args.x.size < length (file-at_after_put_fields c).bytes
more-at_after_put_fields c = c.loop-page-test.true

marks-at_after_put_fields : (c : After-put_fields)
    → block-at_after_put_fields c ≡ take c.next_pages-n.result (drop c.loop-page.page (prints-at_after_put_fields c))
marks-at_after_put_fields c =
    turn-marks (layout-at_after_put_fields c) (key-at_after_put_fields c) c.args.x.size (file-at_after_put_fields c) c.loop-page.page
    (positive-at_after_put_fields c) (more-at_after_put_fields c) c.next_pages-n.result _ _
    c.next_pages-n.ensures

within-at_after_put_fields : (c : After-put_fields) → c.loop-page.page + c.next_pages-n.result ≤ count-at_after_put_fields c
within-at_after_put_fields c =
    turn-within (layout-at_after_put_fields c) (key-at_after_put_fields c) c.args.x.size (file-at_after_put_fields c) c.loop-page.page
    (positive-at_after_put_fields c) (more-at_after_put_fields c) c.next_pages-n.result _ _
    c.next_pages-n.ensures

many-at_after_put_fields : (s : After-put_fields) → length (prints-at_after_put_fields s) ≡ count-at_after_put_fields s
many-at_after_put_fields s = length-pages (layout-at_after_put_fields s) (key-at_after_put_fields s) (count-at_after_put_fields s) (8 * s.args.x.size)
    (part_bits (file-at_after_put_fields s))

fits-at_after_put_fields : (c : After-put_fields) → c.loop-page.page + c.next_pages-n.result ≤ length (prints-at_after_put_fields c)
fits-at_after_put_fields c = omega (arith, within-at_after_put_fields c, many-at_after_put_fields c)

few-at_after_put_fields : (c : After-put_fields) → c.agreeing-same.result ≤ c.next_pages-n.result
few-at_after_put_fields c =
    block-few c.args.known (prints-at_after_put_fields c) (block-at_after_put_fields c) c.loop-page.page c.next_pages-n.result
    (marks-at_after_put_fields c) (fits-at_after_put_fields c) c.agreeing-same.result
    c.agreeing-same.ensures

-- the fingerprints that agree are written behind the others
written : (c : After-put_fields)
    → c.put_fields.new.out
    ≡ sets c.args.out.now 0
    (fields_of 8 (take (c.loop-page.page + c.agreeing-same.result) (prints-at_after_put_fields c)))
written c =
    let l = c.loop-page in
    c.put_fields.ensures
    ∙ ap (λ (b : List ℕ). sets b (8 * l.page) (fields_of 8 (take c.agreeing-same.result c.next_pages-n.new.marks))) l.invariant.3
    ∙ block_written (prints-at_after_put_fields c) c.next_pages-n.new.marks c.args.out.now l.page c.next_pages-n.result c.agreeing-same.result
    (marks-at_after_put_fields c) (fits-at_after_put_fields c) (few-at_after_put_fields c)

pub loop-page-init : goal.loop-page-init
unfolding fields_of
loop-page-init c = (omega arith, refl, refl, refl, zero-add _)

pub overflow_mul-page : goal.overflow_mul-page
overflow_mul-page c =
    omega (
      arith,
      page-begins c.args.x.size (length (file (goal.at.overflow_mul-page c).Start).bytes) c.loop-page.page
          (positive (goal.at.overflow_mul-page c).Start) c.loop-page.invariant.0,
      c.requires.2,
      c.requires.3,
    )

pub slice_bounds-next_pages-end : goal.slice_bounds-next_pages-end
slice_bounds-next_pages-end c = sym c.loop-page.invariant.1

pub next_pages-n-requires : goal.next_pages-n-requires
next_pages-n-requires c =
    let from = c.loop-page.page * c.args.x.size in (
      c.requires.0,
      omega (arith, c.requires.1),
      c.requires.2,
      omega (arith, c.loop-page.invariant.1),
      ap (λ (q : List ℕ). misused (as_part q (file (goal.at.next_pages-n-requires c).Start).used))
          (all_left (file (goal.at.next_pages-n-requires c).Start).bytes from)
          ∙ rest-misused (file (goal.at.next_pages-n-requires c).Start).bytes (file (goal.at.next_pages-n-requires c).Start).used from
          (more (goal.at.next_pages-n-requires c).After-marks-1)
          ∙ c.requires.6,
    )

pub overflow_mul-page-in-loop-page : goal.overflow_mul-page-in-loop-page
overflow_mul-page-in-loop-page c = omega (
  arith,
  within (goal.at.overflow_mul-page-in-loop-page c).After-next_pages-n,
  small
      (goal.at.overflow_mul-page-in-loop-page c).Start,
)

pub slice_bounds-marks-end : goal.slice_bounds-marks-end
slice_bounds-marks-end c = all-marks (goal.at.slice_bounds-marks-end c).After-next_pages-n

pub slice_bounds-agreeing-end : goal.slice_bounds-agreeing-end
slice_bounds-agreeing-end c = sym (long (goal.at.slice_bounds-agreeing-end c).After-next_pages-n)

pub agreeing-same-requires : goal.agreeing-same-requires
agreeing-same-requires c =
    known_fewer _ _ c.args.known
    (omega (arith, long (goal.at.agreeing-same-requires c).After-next_pages-n, within (goal.at.agreeing-same-requires c).After-next_pages-n))
    c.requires.5

pub overflow_mul-page-in-loop-page-2 : goal.overflow_mul-page-in-loop-page-2
overflow_mul-page-in-loop-page-2 c = omega (
  arith,
  within (goal.at.overflow_mul-page-in-loop-page-2 c).After-next_pages-n,
  small
      (goal.at.overflow_mul-page-in-loop-page-2 c).Start,
)

pub slice_bounds-marks-end-in-loop-page : goal.slice_bounds-marks-end-in-loop-page
slice_bounds-marks-end-in-loop-page c = omega (
  arith,
  few (goal.at.slice_bounds-marks-end-in-loop-page c).After-agreeing-same,
  all-marks
      (goal.at.slice_bounds-marks-end-in-loop-page c).After-next_pages-n,
)

pub slice_bounds-put_fields-end : goal.slice_bounds-put_fields-end
slice_bounds-put_fields-end c = sym (taken (goal.at.slice_bounds-put_fields-end c).After-agreeing-same)

pub put_fields-requires : goal.put_fields-requires
put_fields-requires c lent =
    let l = c.loop-page in
    omega (
      arith,
      taken (goal.at.put_fields-requires c).After-agreeing-same,
      few (goal.at.put_fields-requires c).After-agreeing-same,
      within
          (goal.at.put_fields-requires c).After-next_pages-n,
      l.invariant.2,
      c.requires.4 (omega (arith, l.invariant.2)),
    )

pub overflow_add-page : goal.overflow_add-page
overflow_add-page c = omega (
  arith,
  few (goal.at.overflow_add-page c).After-agreeing-same,
  within (goal.at.overflow_add-page c).After-next_pages-n,
  small
      (goal.at.overflow_add-page c).Start,
)

pub shape_of-out-then-same-n : goal.shape_of-out-then-same-n
shape_of-out-then-same-n c = c.put_fields.auto.out ∙ c.loop-page.invariant.2

-- one of the block differs: the first page that does
pub returns-then-same-n : goal.returns-then-same-n
returns-then-same-n c =
    let l = c.loop-page in
    let ends =
    block-ends c.args.known (prints (goal.at.returns-then-same-n c).Start) (block (goal.at.returns-then-same-n c).After-next_pages-n) l.page
    c.next_pages-n.result (marks (goal.at.returns-then-same-n c).After-next_pages-n) (fits (goal.at.returns-then-same-n c).After-next_pages-n)
    c.agreeing-same.result c.agreeing-same.ensures
    c.if-same-n.true in
    record { same = omega (arith, l.invariant.4, ends); written = written (goal.at.returns-then-same-n c).After-put_fields }

pub loop-page-smaller : goal.loop-page-smaller
loop-page-smaller c = omega (
  arith,
  few (goal.at.loop-page-smaller c).After-agreeing-same,
  within (goal.at.loop-page-smaller c).After-next_pages-n,
  some
      (goal.at.loop-page-smaller c).After-next_pages-n,
  c.if-same-n.false,
)

pub loop-page-preserved : goal.loop-page-preserved
loop-page-preserved c =
    let l = c.loop-page in
    let agrees =
    block_agrees c.args.known (prints (goal.at.loop-page-preserved c).Start) (block (goal.at.loop-page-preserved c).After-next_pages-n) l.page
    c.next_pages-n.result (marks (goal.at.loop-page-preserved c).After-next_pages-n) (fits (goal.at.loop-page-preserved c).After-next_pages-n)
    c.agreeing-same.result c.agreeing-same.ensures
    c.if-same-n.false in (
      omega (arith, few (goal.at.loop-page-preserved c).After-agreeing-same, within (goal.at.loop-page-preserved c).After-next_pages-n),
      c.next_pages-n.auto.marks ∙ l.invariant.1,
      c.put_fields.auto.out ∙ l.invariant.2,
      written (goal.at.loop-page-preserved c).After-put_fields,
      omega (arith, l.invariant.4, agrees),
    )

pub shape_of-out : goal.shape_of-out
shape_of-out c = c.loop-page.invariant.2

pub returns : goal.returns
returns c =
    let l = c.loop-page in
    let known = c.args.known in
    let reached = count-reached c.args.x.size (length (file (goal.at.returns c).Start).bytes) l.page (positive (goal.at.returns c).Start) (omega arith) in
    let none : drop l.page (prints (goal.at.returns c).Start) ≡ [] = drop_of_length-le (prints (goal.at.returns c).Start) {i = l.page}
    (omega (arith, many (goal.at.returns c).Start)) in
    let least = agree-le (expected known (8 * l.page) (drop l.page (prints (goal.at.returns c).Start))) (drop l.page (prints (goal.at.returns c).Start)) in
    record { same = omega (arith, l.invariant.4, least, ap length none); written = l.invariant.3 }
