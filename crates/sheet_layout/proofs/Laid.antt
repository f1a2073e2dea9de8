-- Laws of a layout as the code has it: where its fields stand.
use mathlib.Core.Path.{◌≡◌, ap, ◌∙◌}
use mathlib.Core.Bool.{Bool, cond}
use Prim.Native.Nat.{◌+◌}
use native.Mathlib.Omega.{arith}
use Rattle.sheets.specs.Layout.{Layout, page_place}
use Rattle.sheet_layout.specs.declared.Fields.{Fields}
use Rattle.sheet_layout.specs.Laid.{LaidOut}

module _ {v : Layout} {r : Fields} (h : LaidOut v r) where
  pub place_laid : page_place v 0 ≡ 5 + r.key + r.length + r.size
  place_laid = rw h.widths (omega arith)

  -- the key's width, and its field, by its form
  pub key-wide : (b : Bool) → r.paired ≡ b → r.key ≡ cond b 9 8
  key-wide b e = h.key-width ∙ ap (λ (c : Bool). cond c 9 8) e
