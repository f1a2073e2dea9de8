-- `last_page` meets its contract: its own fingerprint, or with zeros behind it, as the sheet takes it.
use mathlib.Core.Path.{◌≡◌, sym, ap, ◌∙◌}
use mathlib.Core.Bool.{Bool, cond}
use Prim.Native.Nat.{ℕ, ◌-◌, ◌*◌, ◌^◌, ◌<◌}
use native.Mathlib.Omega.{arith}
use lib.ListN.{length}
use Rattle.gf2.specs.Polynomials.{rem}
use Rattle.gf2.specs.Moduli.{polynomial}
use Rattle.gf2.proofs.Monics.{monic-pos}
use Rattle.gf2.proofs.Steps.{residue-below}
use Rattle.files.specs.Files.{value, fingerprint, Part, as_part, part_length, part_bits, fingerprint_from}
use Rattle.files.proofs.Parts.{part-length, part-range}
use Rattle.sheets.specs.Sheets.{filled}
use Rattle.sheets.proofs.Pages.{with_zeros}
use Rattle.sheet_pages.proofs.last_page.Goals as goal
use Rattle.sheet_pages.proofs.last_page.Goals.{After-fed_last-own, After-part_length, Start}

abbrev key : Start → ℕ
key s = polynomial s.args.x.p

abbrev page : Start → Part
page s = as_part s.args.page.now s.args.x.used

abbrev page-at_after_part_length : After-part_length → Part
page-at_after_part_length s = as_part s.args.page.now s.args.x.used

-- the page's length is counted in full
counted : (c : After-part_length) → c.part_length.result ≡ part_length (page-at_after_part_length c)
counted c =
    c.part_length.ensures ∙ omega (arith, (part-range (page-at_after_part_length c)).0, c.requires.1, c.requires.2)

abbrev page-at_after_fed_last_own : After-fed_last-own → Part
page-at_after_fed_last_own s = as_part s.args.page.now s.args.x.used

residue : (c : After-fed_last-own) → c.fed_last-own.result < 2 ^ c.args.x.p.degree
unfolding fingerprint_from
residue c = residue-below c.args.x.p c.requires.0.proper _ (value (part_bits (page-at_after_fed_last_own c))) c.fed_last-own.ensures

pub overflow_sub-bits : goal.overflow_sub-bits
overflow_sub-bits c = omega (arith, counted c, (part-range (page (goal.at.overflow_sub-bits c).Start)).0, c.requires.1)

pub with_zeros-requires : goal.with_zeros-requires
with_zeros-requires c =
    (c.requires.0.proper, residue (goal.at.with_zeros-requires c).After-fed_last-own)

pub returns-then-x : goal.returns-then-x
unfolding filled
returns-then-x c =
    let p = c.args.x.p in
    let bits = part_bits (page (goal.at.returns-then-x c).Start) in
    let zeros = 8 * c.args.x.size - length bits in
    c.with_zeros.ensures
    ∙ ap (λ (n : ℕ). rem (key (goal.at.returns-then-x c).Start) (c.fed_last-own.result * 2 ^ (8 * c.args.x.size - n)))
    (counted (goal.at.returns-then-x c).After-part_length ∙ sym (part-length (page (goal.at.returns-then-x c).Start)))
    ∙ ap (λ (g : ℕ). rem (key (goal.at.returns-then-x c).Start) (g * 2 ^ zeros)) c.fed_last-own.ensures
    ∙ with_zeros (monic-pos p.degree p.low c.requires.0.proper.2) zeros bits
    ∙ ap (λ (b : Bool). fingerprint (key (goal.at.returns-then-x c).Start) (cond b (filled (8 * c.args.x.size) bits) bits)) (sym c.if-x.true)

pub returns : goal.returns
returns c =
    c.fed_last-own.ensures
    ∙ ap (λ (b : Bool). fingerprint (key (goal.at.returns c).Start) (cond b (filled (8 * c.args.x.size) (part_bits (page (goal.at.returns c).Start)))
    (part_bits (page (goal.at.returns c).Start)))) (sym c.if-x.false)
