-- `length` meets its contract.
use mathlib.Core.Path.{◌≡◌, sym, ap, ◌∙◌}
use mathlib.Core.Bool.{false, not}
use mathlib.Core.List.{[], ◌∷◌}
use Prim.Native.Nat.{◌*◌}
use native.Mathlib.Omega.{arith}
use Rattle.refusals.specs.Refusals.{Done, passes}
use Rattle.refusals.proofs.Laws.{holds, fails}
use Rattle.sheets.specs.Layout.{Layout, newest, layout_of, sheet_length, page_count}
use Rattle.sheets.proofs.Versions.{newest-is, length_from}
use Rattle.sheet_writing.proofs.Answers.{length-long, length-size, length-done}
use Rattle.sheet_writing.proofs.length.Goals as goal
use Rattle.sheet_writing.proofs.length.Goals.{Else-not-bytes_fit}

fit : (c : Else-not-bytes_fit) → passes (8 * c.args.n ∷ []) ≡ false
fit c = fails _ _ c.bytes_fit.ensures (ap not c.if-not-bytes_fit.false)

pub returns-then-not-bytes_fit : goal.returns-then-not-bytes_fit
returns-then-not-bytes_fit c = sym (length-long c.args.n c.args.size (holds _ _ c.bytes_fit.ensures (ap not c.if-not-bytes_fit.true)))

pub returns-then-not-size_right : goal.returns-then-not-size_right
returns-then-not-size_right c =
    sym (length-size c.args.n c.args.size (fit (goal.at.returns-then-not-size_right c).Else-not-bytes_fit)
    (holds _ _ c.size_right.ensures (ap not c.if-not-size_right.true)))

pub returns : goal.returns
returns c =
    let count = page_count c.args.size c.args.n in
    let total : c.sheet_length.result ≡ sheet_length (layout_of newest.version) count =
    omega (arith, c.sheet_length.ensures, c.pages_place.ensures.0, c.page_count-count.ensures, length_from newest.version count) in
    ap Done (total ∙ ap (λ (v : Layout). sheet_length v count) newest-is)
    ∙ sym (length-done c.args.n c.args.size (fit (goal.at.returns c).Else-not-bytes_fit)
    (fails _ _ c.size_right.ensures (ap not c.if-not-size_right.false)))
