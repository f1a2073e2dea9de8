-- `judge` meets its contract: the tests in their order. A length that is not above the limit was counted in full.
use mathlib.Core.Path.{◌≡◌, sym, ap, ◌∙◌}
use mathlib.Core.Bool.{Bool, false}
use mathlib.Core.List.{List, [], ◌∷◌}
use Prim.Native.Nat.{ℕ, ◌+◌, ◌≤◌}
use native.Mathlib.Omega.{arith}
use Rattle.gf2.specs.Moduli.{polynomial}
use Rattle.refusals.specs.Refusals.{Done, longest, passes}
use Rattle.refusals.proofs.Laws.{holds, fails}
use Rattle.refusals.proofs.Lengths.{counted_is, counted-sum, sum-within}
use Rattle.files.specs.Files.{unreduced, Part, as_part, part_length}
use Rattle.mark_tests.proofs.Laws.{feed-long, feed-unreduced, feed-misused, feed-passed, not-residue, is-residue}
use Rattle.mark_tests.proofs.judge.Goals as goal
use Rattle.mark_tests.proofs.judge.Goals.{After-part_length-n, Else-not-fits, Else-not-is_residue, Start}

abbrev part_at : Start → Part
part_at s = as_part s.args.part.now s.args.used

-- two lengths and their sum
abbrev lengths : ℕ → ℕ → List ℕ
lengths a n = a ∷ n ∷ (a + n) ∷ []

-- number 7 of the length as it was counted
abbrev long : After-part_length-n → Bool
long c = passes (lengths c.args.m.length c.part_length-n.result)

counted : (c : After-part_length-n) → long c ≡ passes (lengths c.args.m.length (part_length (part_at c.before.before.before)))
counted c =
    ap (λ (n : ℕ). passes (lengths c.args.m.length n)) c.part_length-n.ensures ∙ counted-sum c.args.m.length (part_length (part_at c.before.before.before))

abbrev long-at_else_not_fits : Else-not-fits → Bool
long-at_else_not_fits c = passes (lengths c.args.m.length c.part_length-n.result)

counted-at_else_not_fits : (c : Else-not-fits)
    → long-at_else_not_fits c ≡ passes (lengths c.args.m.length (part_length (part_at c.before.before.before.before.before)))
counted-at_else_not_fits c =
    ap (λ (n : ℕ). passes (lengths c.args.m.length n)) c.part_length-n.ensures ∙ counted-sum c.args.m.length
    (part_length (part_at c.before.before.before.before.before))

short : (c : Else-not-fits) → passes (lengths c.args.m.length (part_length (part_at c.before.before.before.before.before))) ≡ false
short c = sym (counted-at_else_not_fits c) ∙ fails _ (long-at_else_not_fits c) c.fits.ensures c.if-not-fits.false-raw

within : (c : Else-not-fits) → c.args.m.length + part_length (part_at c.before.before.before.before.before) ≤ longest
within c = sum-within c.args.m.length (part_length (part_at c.before.before.before.before.before)) (short c)

in-full : (c : Else-not-fits) → c.part_length-n.result ≡ part_length (part_at c.before.before.before.before.before)
in-full c = c.part_length-n.ensures ∙ counted_is (part_length (part_at c.before.before.before.before.before)) (omega (arith, within c))

low : (c : Else-not-is_residue) → unreduced (polynomial c.args.p) c.args.m ≡ false
low c =
    let r = c.is_residue in
    is-residue c.args.p c.requires c.args.m.fingerprint r.result r.ensures c.if-not-is_residue.false-raw

pub returns-then-not-fits : goal.returns-then-not-fits
returns-then-not-fits c =
    sym (feed-long (polynomial c.args.p) c.args.m (part_at (goal.at.returns-then-not-fits c).Start) _
    (sym (counted (goal.at.returns-then-not-fits c).After-part_length-n) ∙ holds _ (long (goal.at.returns-then-not-fits c).After-part_length-n) c.fits.ensures
    c.if-not-fits.true-raw))

pub is_residue-requires : goal.is_residue-requires
is_residue-requires c = c.requires

pub returns-then-not-is_residue : goal.returns-then-not-is_residue
returns-then-not-is_residue c =
    let m = c.args.m in
    let r = c.is_residue in
    let high = not-residue c.args.p c.requires m.fingerprint r.result r.ensures c.if-not-is_residue.true-raw in
    sym (feed-unreduced (polynomial c.args.p) m (part_at (goal.at.returns-then-not-is_residue c).Start) _
    (short (goal.at.returns-then-not-is_residue c).Else-not-fits) high)

pub returns-then-is_misused : goal.returns-then-is_misused
returns-then-is_misused c =
    sym (feed-misused (polynomial c.args.p) c.args.m (part_at (goal.at.returns-then-is_misused c).Start) _
    (short (goal.at.returns-then-is_misused c).Else-not-fits) (low (goal.at.returns-then-is_misused c).Else-not-is_residue)
    (sym c.is_misused.ensures ∙ c.if-is_misused.true))

pub overflow_add-total : goal.overflow_add-total
overflow_add-total c = record {
  fits = omega (arith, in-full (goal.at.overflow_add-total c).Else-not-fits, within (goal.at.overflow_add-total c).Else-not-fits);
}

pub returns : goal.returns
returns c =
    ap (λ (n : ℕ). Done (c.args.m.length + n)) (in-full (goal.at.returns c).Else-not-fits)
    ∙ sym (feed-passed (polynomial c.args.p) c.args.m (part_at (goal.at.returns c).Start) _ (short (goal.at.returns c).Else-not-fits)
    (low (goal.at.returns c).Else-not-is_residue)
    (sym c.is_misused.ensures ∙ c.if-is_misused.false))
