-- For inner functions: a reader of the promises need not read this page. A sheet as the code opens it.
use Rattle.std.specs.Prelude.{◌≡◌, List, ℕ, length}
use Rattle.big_endian.specs.Numbers.{number_at}
use Rattle.sheets.specs.Layout.{layout_of, page_place, sheet_length, pages_for}
use Rattle.sheet_heads.specs.declared.Head.{Head}

-- a sheet has the bytes of so many pages as its head asks, and this is the file's fingerprint
pub record Sized (sheet : List ℕ) (head : Head) (count file : ℕ) : Type 0 where
  pub counted : count ≡ pages_for head.size head.length
  pub total : length sheet ≡ sheet_length (layout_of head.version) count
  pub last : file ≡ number_at (page_place (layout_of head.version) count) 8 sheet
