-- For inner functions: a reader of the promises need not read this page. A layout as the code has it.
use Rattle.std.specs.Prelude.{◌≡◌, true, false, cond, [], ◌∷◌, ℕ, ◌*◌, ◌^◌, ◌≤◌, ◌<◌, Option, Some, None}
use Rattle.sheets.specs.Layout.{Layout, layouts, known, layout_of}
use Rattle.sheet_layout.specs.declared.Fields.{Fields}

-- a layout, as the code has it
pub record LaidOut (v : Layout) (r : Fields) : Type 0 where
  pub widths : v.widths ≡ r.key ∷ r.length ∷ r.size ∷ []
  pub paired : v.paired ≡ r.paired
  pub unit : v.length_unit ≡ r.unit
  pub filled : v.filled ≡ r.filled
  pub key-width : r.key ≡ cond r.paired 9 8
  pub key_fits : r.key ≤ 9
  pub length-fits : r.length ≤ 8
  pub size_fits : r.size ≤ 2
  pub unit-some : 0 < r.unit
  pub counts : r.unit * 2 ^ (8 * r.length) ≤ 2 ^ 64

-- the fields of a version, or none where no layout that is read has the version
abbrev pub FieldsOf : ℕ → Option Fields → Type 0
FieldsOf n (Some r) = (known layouts n ≡ true) × LaidOut (layout_of n) r
FieldsOf n None = known layouts n ≡ false
