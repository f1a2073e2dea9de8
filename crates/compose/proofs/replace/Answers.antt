-- `compose::replace` meets its contract: the tests in their order, and the value by `replaced_residue`.
use mathlib.Core.Path.{◌≡◌, sym, subst, ◌∙◌}
use mathlib.Core.Bool.{false}
use mathlib.Core.List.{List}
use Prim.Native.Nat.{ℕ, ◌+◌, ◌-◌, ◌*◌, ◌^◌, ◌≤◌, ◌<◌}
use native.Mathlib.Omega.{arith}
use lib.ListN.{length}
use borrow.Author.Tests.{not-true, leb-false}
use Rattle.std.proofs.Common.{rules}
use Rattle.gf2.specs.Polynomials.{◌⊕◌}
use Rattle.gf2.specs.Moduli.{polynomial, Proper}
use Rattle.gf2.specs.declared.Modulus.{Modulus}
use Rattle.gf2.proofs.Sums.{⊕-lt}
use Rattle.gf2.proofs.Steps.{residue-lt}
use Rattle.refusals.specs.Refusals.{longest}
use Rattle.acceptance.proofs.Opened.{opened-degree, opened-proper, opened-whole}
use Rattle.files.specs.Files.{fingerprint_from, fingerprint, Part, as_part, part_length, misused, replaced}
use Rattle.files.proofs.Parts.{well-used, same-used}
use Rattle.compose.proofs.Laws.{counted-pages}
use Rattle.compose.proofs.replace.Goals as goal
use Rattle.compose.proofs.replace.Goals.{Else-is_misused-2, Else-not-within}

abbrev old : Else-not-within → Part
old s = as_part s.args.old.now s.args.old_used

abbrev new : Else-not-within → Part
new s = as_part s.args.new.now s.args.new_used

-- the lengths are those that were counted
lengths : (c : Else-not-within)
    → (c.part_length-n.result ≡ part_length (old c)) × (c.part_length-other.result ≡ part_length (new c)) × (c.args.open.mark.length ≤ longest)
lengths c = counted-pages _ _ _ _ _ c.part_length-n.ensures c.part_length-other.ensures c.if-not-within.ensures

-- as many bytes in either page, and as many used bits
used : (c : Else-is_misused-2) → (length c.args.old.now ≡ length c.args.new.now) × (c.args.old_used ≡ c.args.new_used)
used c =
    let x = as_part c.args.old.now c.args.old_used in
    let y = as_part c.args.new.now c.args.new_used in
    let k = counted-pages _ _ _ _ _ c.part_length-n.ensures c.part_length-other.ensures c.if-not-within.ensures in
    same-used x y (well-used x (sym c.if-is_misused.ensures)) (well-used y (sym c.if-is_misused-2.ensures)) (sym k.0 ∙ c.if-n-other.false ∙ k.1)

-- the difference of two fingerprints is a residue
fingerprints-lt : (p : Modulus) → Proper p → (a b : List ℕ) → fingerprint (polynomial p) a ⊕ fingerprint (polynomial p) b < 2 ^ p.degree
unfolding fingerprint_from
fingerprints-lt p h a b = let lt = residue-lt p.degree p.low h.2 in ⊕-lt p.degree _ _ (lt _) (lt _)

-- the bits after the page, as the code counts them and as the definition does
after-page : (n page place : ℕ) → n - page - 8 * place ≡ n - (8 * place + page)
after-page n page place = omega arith

-- ---- the needs

pub returns-then-not-is_residue : goal.returns-then-not-is_residue
returns-then-not-is_residue c =
    let e = opened-degree c.args.open.opened in
    search rules

pub returns-then-n-other : goal.returns-then-n-other
returns-then-n-other c =
    let e = opened-degree c.args.open.opened in
    let k = lengths (goal.at.returns-then-n-other c).Else-not-within in
    search rules

pub returns-then-not-page_within : goal.returns-then-not-page_within
returns-then-not-page_within c =
    let e = opened-degree c.args.open.opened in
    let k = lengths (goal.at.returns-then-not-page_within c).Else-not-within in
    search rules

pub returns-then-is_misused : goal.returns-then-is_misused
returns-then-is_misused c =
    let e = opened-degree c.args.open.opened in
    let k = lengths (goal.at.returns-then-is_misused c).Else-not-within in
    search rules

pub page_difference-change-requires : goal.page_difference-change-requires
page_difference-change-requires c =
    let u = used c in (
      opened-proper c.args.open.opened,
      u.0,
      sym c.if-is_misused.ensures,
      subst (λ (n : ℕ). misused (as_part c.args.new.now n) ≡ false) (sym u.1) (sym c.if-is_misused-2.ensures),
    )

pub replaced_residue-replaced-requires : goal.replaced_residue-replaced-requires
replaced_residue-replaced-requires c =
    let proper = opened-proper c.args.open.opened in (
      proper,
      leb-false _ _ (not-true _ (sym c.if-not-is_residue.ensures)),
      rw c.page_difference-change.ensures (fingerprints-lt c.args.open.p proper _ _),
    )

pub returns : goal.returns
unfolding replaced
returns c =
    let e = opened-degree c.args.open.opened in
    let k = lengths (goal.at.returns c).Else-not-within in
    let u = used (goal.at.returns c).Else-is_misused-2 in
    let after = after-page c.args.open.mark.length c.part_length-n.result c.args.place in
    let whole = opened-whole c.args.open.opened in
    search rules
