-- `body_right` meets its contract.
use mathlib.Core.Path.{◌≡◌, sym, ap}
use mathlib.Core.Bool.{false, not}
use Prim.Native.Nat.{◌^◌}
use lib.Bits.{bit_or}
use lib.Dec.{leb}
use Rattle.refusals.proofs.Laws.{holds, fails}
use Rattle.acceptance.proofs.Opened.{opened-proper}
use Rattle.sheet_opening.proofs.Joining.{fields-wrong, covers, file-reduced, joining-decides}
use Rattle.sheet_opening.proofs.body_right.Goals as goal
use Rattle.sheet_opening.proofs.body_right.Goals.{Else-not-is_residue}

-- no bit stands too high
reduced : (c : Else-not-is_residue) → leb (2 ^ c.args.p.degree) (bit_or c.pages_joined-joined.result.bits c.args.file) ≡ false
reduced c = fails _ _ c.is_residue.ensures (ap not c.if-not-is_residue.false)

pub returns-then-not-is_residue : goal.returns-then-not-is_residue
returns-then-not-is_residue c =
    let a = c.args in
    let q = c.requires in
    sym (ap not (fields-wrong a.sheet.now a.head q.0 q.1 a.p q.3 a.count a.file q.4 c.page_fields-fields.result.now c.page_fields-fields.ensures
    c.pages_joined-joined.result c.pages_joined-joined.ensures (holds _ _ c.is_residue.ensures (ap not c.if-not-is_residue.true))))

pub file_filled-requires : goal.file_filled-requires
file_filled-requires c =
    let a = c.args in
    let q = c.requires in (
      opened-proper q.3,
      file-reduced a.sheet.now a.head q.0 q.1 a.p q.3 a.count a.file q.4 c.page_fields-fields.result.now c.page_fields-fields.ensures
          c.pages_joined-joined.result c.pages_joined-joined.ensures (reduced c),
      covers a.sheet.now a.head q.0 q.1 a.p q.3 a.count a.file q.4 c.page_fields-fields.result.now c.page_fields-fields.ensures
          c.pages_joined-joined.result c.pages_joined-joined.ensures,
    )

pub returns : goal.returns
returns c =
    let a = c.args in
    let q = c.requires in
    joining-decides a.sheet.now a.head q.0 q.1 a.p q.3 a.count a.file q.4 c.page_fields-fields.result.now c.page_fields-fields.ensures
    c.pages_joined-joined.result c.pages_joined-joined.ensures (reduced (goal.at.returns c).Else-not-is_residue) c.file_filled.result c.file_filled.ensures
