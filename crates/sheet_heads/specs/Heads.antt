-- For inner functions: a reader of the promises need not read this page. The head of a sheet as the code has it.
use Rattle.std.specs.Prelude.{◌≡◌, Bool, true, false, List, [], ℕ, ◌^◌, ◌≤◌, ◌<◌, Option, Some, None}
use Rattle.refusals.specs.Refusals.{longest}
use Rattle.acceptance.specs.declared.Key.{Key}
use Rattle.sheets.specs.Layout.{version_in, newest, layout_of, page_place, Contents, size_in, key_in, length_in}
use Rattle.sheet_heads.specs.declared.Head.{Head}

-- the numbers in front of a sheet's fingerprints, as the code reads them
pub record HeadOf (sheet : List ℕ) (head : Head) : Type 0 where
  pub version : head.version ≡ version_in sheet
  pub key : head.key ≡ key_in (layout_of (version_in sheet)) sheet
  pub length : head.length ≡ length_in (layout_of (version_in sheet)) sheet
  pub size : head.size ≡ size_in (layout_of (version_in sheet)) sheet
  pub place : head.place ≡ page_place (layout_of (version_in sheet)) 0
  pub filled : head.filled ≡ (layout_of (version_in sheet)).filled
  pub length-fits : head.length ≤ longest
  pub size_fits : head.size < 2 ^ 16
  pub place-fits : head.place < 32

-- the head is wrong, or these are its numbers
abbrev pub HeaderOf : List ℕ → Bool → Option Head → Type 0
HeaderOf sheet wrong None = wrong ≡ true
HeaderOf sheet wrong (Some head) = (wrong ≡ false) × HeadOf sheet head

-- what stands in front of the fingerprints, as the code writes it
abbrev pub head_only : Key → ℕ → ℕ → Contents
head_only key n size = record { version = newest.version; key = key; length = n; page_size = size; pages = []; fingerprint = 0 }
