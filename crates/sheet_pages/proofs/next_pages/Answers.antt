-- `next_pages` meets its contract: the whole pages lie inside the whole bytes, and what is left behind them is one page more.
use mathlib.Core.Path.{◌≡◌, ap, ◌∙◌}
use mathlib.Core.List.{List}
use Prim.Native.Nat.{ℕ, ◌*◌}
use native.Mathlib.Omega.{arith}
use lib.ListN.{length, take, length-drop}
use lib.Seq.{length-take-le}
use Rattle.gf2.specs.Moduli.{polynomial}
use Rattle.files.specs.Files.{as_part, misused, part_bits, fingerprint}
use Rattle.files.proofs.Parts.{rest-misused}
use Rattle.sheets.specs.Sheets.{page_of}
use Rattle.sheets.specs.Inner.{filling}
use Rattle.sheets.proofs.Pages.{all_left}
use Rattle.sheet_pages.proofs.Blocks.{next-whole, short, next-last}
use Rattle.sheet_pages.proofs.next_pages.Goals as goal
use Rattle.sheet_pages.proofs.next_pages.Goals.{then-n-eq64-via-then-n-eq64, then-n-eq64-via-else-n-eq64+then-rest-n}

pub returns-then-n-eq64 : goal.returns-then-n-eq64
returns-then-n-eq64 c =
    let a = c.args in
    let n = c.block-n.result in
    let w = c.whole_bytes in
    let seen : length (take n a.marks.now) ≡ n = length-take-le n a.marks.now (omega (arith, c.requires.3, c.block-n.ensures)) in
    next-whole _ (polynomial a.x.p) a.x.size n w.result (as_part a.rest.now a.x.used) a.marks.now c.whole_marks.new.marks c.requires.1 w.ensures.0
    c.block-n.ensures (c.whole_marks.auto.marks ∙ seen) c.requires.3 (λ i l. c.whole_marks.ensures i (omega (arith, l, seen)))
    (λ d.
    elim c.then-n-eq64.branch [
      | then-n-eq64-via-then-n-eq64 w ↦ absurd (d w.if-n-eq64.true)
      | then-n-eq64-via-else-n-eq64+then-rest-n w ↦ w.if-rest-n.true
    ])

pub last_page-requires : goal.last_page-requires
last_page-requires c =
    let a = c.args in
    let from = c.block-n.result * a.x.size in
    let same = all_left a.rest.now from in
    let fits = short a.x.size c.block-n.result c.whole_bytes.result (as_part a.rest.now a.x.used) c.requires.1 c.whole_bytes.ensures.0 c.block-n.ensures
    c.if-n-eq64.false in (
      c.requires.0,
      omega (arith, ap length same ∙ length-drop from a.rest.now, fits),
      c.requires.2,
      ap (λ (q : List ℕ). misused (as_part q a.x.used)) same ∙ rest-misused a.rest.now a.x.used from (omega (arith, c.if-rest-n.false)) ∙ c.requires.4,
    )

pub returns : goal.returns
returns c =
    let a = c.args in
    let n = c.block-n.result in
    let w = c.whole_bytes in
    let seen : length (take n a.marks.now) ≡ n = length-take-le n a.marks.now (omega (arith, c.requires.3, c.block-n.ensures)) in
    next-last _ (polynomial a.x.p) a.x.size n w.result (as_part a.rest.now a.x.used) a.marks.now c.whole_marks.new.marks c.requires.1 w.ensures.0
    c.block-n.ensures (c.whole_marks.auto.marks ∙ seen) c.requires.3 (λ i l. c.whole_marks.ensures i (omega (arith, l, seen))) c.if-n-eq64.false
    c.if-rest-n.false c.last_page.result
    (c.last_page.ensures
    ∙ ap (λ (q : List ℕ). fingerprint (polynomial a.x.p) (page_of (filling a.x.filled) (8 * a.x.size) (part_bits (as_part q a.x.used))))
    (all_left a.rest.now (n * a.x.size)))
