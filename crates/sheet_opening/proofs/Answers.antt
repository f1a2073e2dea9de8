-- How the calls answer, test by test.
use mathlib.Core.Path.{◌≡◌, sym, ap, ◌∙◌}
use mathlib.Core.Bool.{true, false, ◌||◌}
use mathlib.Core.List.{List, [], ◌∷◌, ◌++◌}
use Prim.Native.Nat.{ℕ, ◌+◌, ◌*◌}
use native.Mathlib.Omega.{arith}
use borrow.Author.Tests.{ne_eqb}
use lib.Dec.{ltb}
use lib.ListN.{length}
use Rattle.std.specs.Prelude.{Result, Err}
use Rattle.gf2.specs.declared.Modulus.{Modulus}
use Rattle.refusals.specs.declared.Refusal.{Refusal}
use Rattle.refusals.specs.declared.Refusal.TheVariants.{PageSize, SheetMalformed}
use Rattle.refusals.specs.Refusals.{Done, Refused, Test, ◌⇒◌, first_of}
use Rattle.acceptance.specs.Keys.{key_tests}
use Rattle.acceptance.specs.Opened.{Opened}
use Rattle.acceptance.proofs.Opened.{opened-first}
use Rattle.refusals.specs.Answers.{told}
use Rattle.keys.specs.Testing.{test_key}
use Rattle.keys.proofs.Laws.{refused}
use Rattle.sheet_heads.specs.declared.Head.{Head}
use Rattle.big_endian.specs.Numbers.{number_at}
use Rattle.sheets.specs.Layout.{version_in, Layout, layouts, layout_of, page_place, sheet_length, pages_for, Contents, size_in, key_in, pages_in, contents_in}
use Rattle.sheets.specs.Sheets.{page_size_test, head_wrong, body_wrong, read_sheet}
use Rattle.sheets.specs.Outputs.{numbers_of}
use Rattle.sheets.specs.Answers.{sheet_read}
use Rattle.sheets.proofs.Sound.{size_bounds}
use Rattle.sheets.proofs.Versions.{place-from, length_from}
use Rattle.sheet_opening.specs.Opening.{Sized}
use Rattle.sheet_opening.proofs.Joining.{body_is}
use Rattle.sheet_heads.specs.Heads.{HeadOf}
use Rattle.sheets.specs.Inner.{read_body}
use Rattle.big_endian.proofs.Numbers.{length-numbers_at}
use Rattle.refusals.proofs.Laws.{first_true, first_false}

-- ---- reading

-- the numbers of a sheet, as the code reads them
pub numbers_are : (sheet : List ℕ) (head : Head) (c f : ℕ) → HeadOf sheet head → c ≡ pages_for head.size head.length
    → f ≡ number_at (page_place (layout_of head.version) c) 8 sheet
    → numbers_of (contents_in sheet)
    ≡ record { version = head.version; key = head.key; length = head.length; size = head.size; pages = c; fingerprint = f }
unfolding contents_in
numbers_are sheet head c f h ec ef =
    let v = layout_of (version_in sheet) in
    rw (length-numbers_at (page_place v 0) 8 (pages_in v sheet) sheet, ← h.key, ← h.length, ← h.size, ← ec, ← h.version, ef)

module _ (sheet : List ℕ) where
  abbrev x : Contents
  x = contents_in sheet

  abbrev v : Layout
  v = layout_of (version_in sheet)

  abbrev rest : List Test
  rest = page_size_test x.page_size ∷ body_wrong (length sheet) x ⇒ SheetMalformed ∷ []

  pub read_head : head_wrong layouts sheet ≡ true → read_sheet sheet ≡ Refused SheetMalformed tt
  unfolding read_sheet
  read_head e = first_true (head_wrong layouts sheet) SheetMalformed (key_tests x.key ++ rest) tt x e

  module _ (head : head_wrong layouts sheet ≡ false) where
    after-head : read_sheet sheet ≡ first_of (key_tests (key_in v sheet) ++ rest) tt x
    unfolding read_sheet contents_in
    after-head = first_false (head_wrong layouts sheet) SheetMalformed (key_tests (key_in v sheet) ++ rest) tt x head

    pub read-refused : (t : Result Modulus Refusal) (q : Refusal) → told t ≡ test_key (key_in (layout_of (version_in sheet)) sheet) → t ≡ Err q
        → read_sheet sheet ≡ Refused q tt
    read-refused t q e a = after-head ∙ refused t (key_in v sheet) e rest tt x q a

    pub read_opened : (p : Modulus) → Opened (key_in (layout_of (version_in sheet)) sheet) p → read_sheet sheet ≡ read_body sheet
    read_opened p o = after-head ∙ opened-first o rest tt x

  pub body-size : (ltb (size_in (layout_of (version_in sheet)) sheet) 16 || ltb 4096 (size_in (layout_of (version_in sheet)) sheet)) ≡ true
      → read_body sheet ≡ Refused PageSize tt
  unfolding contents_in
  body-size e = first_true (ltb x.page_size 16 || ltb 4096 x.page_size) PageSize (body_wrong (length sheet) x ⇒ SheetMalformed ∷ []) tt x e

  module _ (size : (ltb (size_in (layout_of (version_in sheet)) sheet) 16 || ltb 4096 (size_in (layout_of (version_in sheet)) sheet)) ≡ false) where
    after-size : read_body sheet ≡ first_of (body_wrong (length sheet) x ⇒ SheetMalformed ∷ []) tt x
    unfolding contents_in
    after-size = first_false (ltb x.page_size 16 || ltb 4096 x.page_size) PageSize (body_wrong (length sheet) x ⇒ SheetMalformed ∷ []) tt x size

    pub body-wrong : body_wrong (length sheet) (contents_in sheet) ≡ true → read_body sheet ≡ Refused SheetMalformed tt
    body-wrong e = after-size ∙ first_true (body_wrong (length sheet) x) SheetMalformed [] tt x e

    pub body-done : body_wrong (length sheet) (contents_in sheet) ≡ false → read_body sheet ≡ Done (contents_in sheet)
    body-done e = after-size ∙ first_false (body_wrong (length sheet) x) SheetMalformed [] tt x e

-- ---- the rest of reading, by what the code has at hand: the head, the number of pages and the file's fingerprint

module _ (sheet : List ℕ) (head : Head) (h : HeadOf sheet head) where
  -- the fingerprints begin where the version says
  pub place_is : head.place ≡ page_place (layout_of head.version) 0
  place_is = h.place ∙ ap (λ (v : ℕ). page_place (layout_of v) 0) (sym h.version)

  pub size_refused : (ltb head.size 16 || ltb 4096 head.size) ≡ true → Refused PageSize tt ≡ sheet_read (read_body sheet)
  size_refused e = sym (ap sheet_read (body-size sheet (rw (← h.size) e)))

  module _ (right : (ltb head.size 16 || ltb 4096 head.size) ≡ false) where
    pub body_refused : body_wrong (length sheet) (contents_in sheet) ≡ true → Refused SheetMalformed tt ≡ sheet_read (read_body sheet)
    body_refused e = sym (ap sheet_read (body-wrong sheet (rw (← h.size) right) e))

    module _ (count : ℕ) (counted : count ≡ pages_for head.size head.length) where
      asked : sheet_length (layout_of head.version) count ≡ head.place + 8 * count + 8
      asked = omega (arith, length_from head.version count, place_is)

      pub total_refused : (length sheet ≡ head.place + 8 * count + 8 → ⊥) → Refused SheetMalformed tt ≡ sheet_read (read_body sheet)
      total_refused n =
          let long = sheet_length (layout_of head.version) (pages_for head.size head.length) in
          let other : length sheet ≡ long → ⊥ = λ d. n (d ∙ ap (sheet_length (layout_of head.version)) (sym counted) ∙ asked) in
          body_refused (rw (body_is sheet head h (size_bounds head.size right).0, ne_eqb (length sheet) long other))

      module _ (file : ℕ) (total : length sheet ≡ head.place + 8 * count + 8) (last : file ≡ number_at (head.place + 8 * count) 8 sheet) where
        pub sized : Sized sheet head count file
        sized =
            record {
              counted = counted;
              total = total ∙ sym asked;
              last = last ∙ ap (λ (n : ℕ). number_at n 8 sheet) (omega (arith, place_is, place-from head.version count));
            }

        pub body_read : body_wrong (length sheet) (contents_in sheet) ≡ false
            → Done (record { version = head.version; key = head.key; length = head.length; size = head.size; pages = count; fingerprint = file })
            ≡ sheet_read (read_body sheet)
        body_read e =
            sym (ap sheet_read (body-done sheet (rw (← h.size) right) e) ∙ ap Done (numbers_are sheet head count file h counted sized.last))
