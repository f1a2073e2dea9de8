-- `put_fingerprints` meets its contract.
use mathlib.Core.Path.{◌≡◌, ◌∙◌}
use mathlib.Core.Bool.{false}
use Prim.Native.Nat.{◌*◌}
use native.Mathlib.Omega.{arith}
use lib.ListN.{length}
use lib.Seq.{sets}
use Rattle.gf2.specs.Moduli.{polynomial}
use Rattle.files.specs.Files.{as_part, part_bits}
use Rattle.big_endian.specs.Numbers.{fields_of}
use Rattle.sheets.specs.Layout.{page_count}
use Rattle.sheets.specs.Sheets.{page_fingerprints}
use Rattle.sheets.specs.Inner.{filling}
use Rattle.sheets.proofs.Pages.{length-pages}
use Rattle.sheets.proofs.Parts.{part-fits}
use Rattle.sheet_pass.proofs.Passes.{pass_count, pass_all}
use Rattle.sheet_writing.proofs.Fingerprints.{pages-counted, all-stored}
use Rattle.sheet_writing.proofs.put_fingerprints.Goals as goal
use Rattle.sheet_writing.proofs.put_fingerprints.Goals.{After-over_pages-count}

-- all pages were passed, and their fingerprints are stored
passed : (c : After-over_pages-count) → c.over_pages-count.result ≡ page_count c.args.size (length c.args.file.now)
passed c =
    let a = c.args in
    let part = as_part a.file.now a.used in
    let fs = page_fingerprints (filling false) (polynomial a.p) (8 * a.size) (page_count a.size (length a.file.now)) (part_bits part) in
    pass_count fs a.fields.now _ c.over_pages-count.result c.over_pages-count.ensures
    ∙ length-pages (filling false) (polynomial a.p) (page_count a.size (length a.file.now)) (8 * a.size) (part_bits part)

stored : (c : After-over_pages-count) → c.over_pages-count.new.out ≡ sets c.args.fields.now 0
    (fields_of 8 (page_fingerprints (filling false) (polynomial c.args.p) (8 * c.args.size) (page_count c.args.size (length c.args.file.now))
    (part_bits (as_part c.args.file.now c.args.used))))
stored c = pass_all _ c.args.fields.now _ c.over_pages-count.result c.over_pages-count.ensures

pub pages_joined-joined-requires : goal.pages_joined-joined-requires
pages_joined-joined-requires c =
    let a = c.args in
    let q = c.requires in
    let part = as_part a.file.now a.used in
    let known = (goal.at.pages_joined-joined-requires c).After-over_pages-count in (
      q.0,
      q.2,
      q.3,
      omega (arith, q.7, part-fits part (omega (arith, q.4))),
      pages-counted a.p q.0 a.size q.2 part a.n q.7 a.fields.now _ _ (passed known) (stored known),
      omega (arith, passed known, c.over_pages-count.auto.out, q.5),
    )

pub overflow_mul-count : goal.overflow_mul-count
overflow_mul-count c = omega (arith, passed (goal.at.overflow_mul-count c).After-over_pages-count, c.requires.5)

pub put-requires : goal.put-requires
put-requires c = (omega arith, omega (arith, passed (goal.at.put-requires c).After-over_pages-count, c.over_pages-count.auto.out, c.requires.5))

pub returns : goal.returns
returns c =
    let a = c.args in
    let q = c.requires in
    let known = (goal.at.returns c).After-over_pages-count in
    all-stored a.p q.0 a.size q.2 (as_part a.file.now a.used) a.n q.7 a.fields.now _ _ (passed known) (stored known) q.5 c.pages_joined-joined.result
    c.pages_joined-joined.ensures _ c.put.ensures
