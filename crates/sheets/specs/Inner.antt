-- For inner functions: a reader of the promises need not read this page. What they promise.
use Rattle.std.specs.Prelude.{◌≡◌, Bool, cond, List, [], ◌∷◌, ℕ, suc, ◌-◌, ◌*◌, eqb, length, drop}
use Rattle.refusals.specs.declared.Refusal.TheVariants.{TooLong, SheetMalformed, FinalByte}
use Rattle.refusals.specs.Refusals.{Answer, Done, mapped, ◌⇒◌, first_of, passes}
use Rattle.files.specs.Files.{Part, part_length, part_bits, misused}
use Rattle.sheets.specs.declared.Sheet.{Sheet}
use Rattle.sheets.specs.Layout.{Layout, newest, layout_of, page_place, page_count, Contents, contents_in}
use Rattle.sheets.specs.Sheets.{page_size_test, body_wrong, read_sheet, Outcome, compared}
use Rattle.sheets.specs.Outputs.{numbers_of, range_in}

-- a layout that fills up a last page, or does not: what the pages of a file depend on. All else is as in the newest.
abbrev pub filling : Bool → Layout
filling b =
    record {
      version = newest.version;
      widths = newest.widths;
      paired = newest.paired;
      length_unit = newest.length_unit;
      filled = b;
    }

-- how many zeros the pages, of `pageBits` bits, of a file of n bits have behind it: none where they are not filled up
abbrev pub zeros_behind : Layout → ℕ → ℕ → ℕ
zeros_behind v pageBits n = cond v.filled (page_count pageBits n * pageBits - n) 0

-- how many numbers, from the first on, two lists have in common
unfoldable pub agreeing : List ℕ → List ℕ → ℕ
agreeing [] gs = 0
agreeing (f ∷ fs) [] = 0
agreeing (f ∷ fs) (g ∷ gs) = cond (eqb f g) (suc (agreeing fs gs)) 0

-- the rest of reading, where the head is right and the key accepted
abbrev pub read_body : List ℕ → Answer Unit Contents
read_body sheet =
    let x = contents_in sheet in
    first_of (page_size_test x.page_size ∷ body_wrong (length sheet) x ⇒ SheetMalformed ∷ []) tt x

-- the sheet was read, as the numbers x
pub record ReadAs (sheet : List ℕ) (x : Sheet) : Type 0 where
  pub done : read_sheet sheet ≡ Done (contents_in sheet)
  pub numbers : x ≡ numbers_of (contents_in sheet)

-- the rest of a check, where the sheet is read
abbrev pub comparison : List ℕ → Part → Answer Unit Outcome
comparison sheet file =
    first_of (passes (part_length file ∷ []) ⇒ TooLong ∷ misused file ⇒ FinalByte ∷ []) tt (compared (contents_in sheet) (part_bits file))

-- a check's answer as that of `changed_range`
abbrev pub ranged : Contents → Answer Unit Outcome → Answer Unit (List ℕ)
ranged x a = mapped (range_in x) a

-- the part of a sheet that begins with the fingerprints, by its version
abbrev pub fingerprints_part : ℕ → List ℕ → List ℕ
fingerprints_part version sheet = drop (page_place (layout_of version) 0) sheet
