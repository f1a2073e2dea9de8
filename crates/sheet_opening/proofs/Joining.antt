-- Laws of reading's tests: the rest of number 14, by the numbers that the code has at hand.
use mathlib.Core.Path.{◌≡◌, sym, ap, ap₂, ◌∙◌}
use mathlib.Core.Bool.{Bool, true, false, cond, ◌||◌, not, not-not}
use mathlib.Core.List.{List, [], ◌∷◌, ◌++◌}
use Prim.Native.Nat.{ℕ, ◌-◌, ◌*◌, ◌^◌, ◌≤◌, ◌<◌}
use native.Mathlib.Nat.{mul_comm}
use native.Mathlib.Omega.{arith}
use lib.Bits.{bit_or}
use lib.Dec.{eqb, leb}
use lib.ListN.{length, drop}
use borrow.Author.Tests.{eq-eqb, leb-false}
use Rattle.gf2.specs.Polynomials.{rem, degree}
use Rattle.gf2.specs.Moduli.{polynomial}
use Rattle.gf2.specs.declared.Modulus.{Modulus}
use Rattle.gf2.proofs.Steps.{or_leb}
use Rattle.lists.proofs.Truth.{or-neither}
use Rattle.acceptance.specs.Keys.{polynomial_of}
use Rattle.acceptance.specs.Opened.{Opened}
use Rattle.acceptance.proofs.Opened.{opened-degree, opened-whole}
use Rattle.files.specs.declared.Mark.{Mark}
use Rattle.files.specs.Files.{mark_of}
use Rattle.sheet_heads.specs.declared.Head.{Head}
use Rattle.big_endian.specs.Numbers.{number_at, numbers_at}
use Rattle.sheets.specs.Layout.{version_in, Layout, layout_of, page_place, sheet_length, page_count, pages_for, contents_in}
use Rattle.sheets.specs.Sheets.{body_wrong, some_unreduced, joined_pages}
use Rattle.sheet_heads.specs.Heads.{HeadOf}
use Rattle.sheets.specs.Inner.{filling, zeros_behind, fingerprints_part}
use Rattle.big_endian.proofs.Numbers.{length-numbers_at, numbers_of_part}
use Rattle.sheets.proofs.Pages.{pages-count, count-covers, zeros_are}
use Rattle.sheet_layout.proofs.Filling.{joined-filling}
use Rattle.sheet_joining.specs.Joining.{PagesJoined}
use Rattle.sheet_joining.specs.declared.Joined.{Joined}
use Rattle.sheet_joining.proofs.Joining.{bits-last}
use Rattle.sheet_opening.specs.Opening.{Sized}

module _ (sheet : List ℕ) (head : Head) (h : HeadOf sheet head) (some : 16 ≤ head.size) where
  abbrev v : Layout
  v = layout_of head.version

  abbrev key : ℕ
  key = polynomial_of head.key

  abbrev count : ℕ
  count = pages_for head.size head.length

  abbrev pages : List ℕ
  pages = numbers_at 0 8 count (fingerprints_part head.version sheet)

  abbrev file : ℕ
  file = number_at (page_place v count) 8 sheet

  as_bits : count ≡ page_count (8 * head.size) head.length
  as_bits = pages-count head.size head.length (omega arith)

  -- fingerprints w bytes wide
  abbrev wide : ℕ → Type 0
  wide w =
      let fs = numbers_at (page_place v 0) w count sheet in
      let f = number_at (page_place v count) w sheet in
      body_wrong (length sheet) (contents_in sheet)
      ≡ (not (eqb (length sheet) (sheet_length v count)) || some_unreduced (degree key) (fs ++ f ∷ [])
      || not (eqb (joined_pages v key (8 * head.size) head.length (mark_of key []) fs).fingerprint
      (rem key (f * 2 ^ zeros_behind v (8 * head.size) head.length))))

  by_fields : wide 8
  unfolding contents_in
  by_fields =
      let fs = numbers_at (page_place v 0) 8 count sheet in
      let many = length-numbers_at (page_place v 0) 8 count sheet in
      rw (
        ← h.key,
        ← h.length,
        ← h.size,
        ← h.version,
        zeros_are v key (8 * head.size) head.length fs (omega arith) (many ∙ as_bits),
        many,
      )

  pub body_is : body_wrong (length sheet) (contents_in sheet)
      ≡ (not (eqb (length sheet) (sheet_length (layout_of head.version) (pages_for head.size head.length)))
      || some_unreduced (degree key) (pages ++ file ∷ [])
      || not (eqb (joined_pages v key (8 * head.size) head.length (mark_of key []) pages).fingerprint
      (rem key (file * 2 ^ zeros_behind v (8 * head.size) head.length))))
  body_is = rw (numbers_of_part (page_place v 0) 8 count sheet) by_fields

  -- the total and the fields are right: the joining decides
  pub body-joined : (m x : ℕ) → length sheet ≡ sheet_length (layout_of head.version) (pages_for head.size head.length)
      → some_unreduced (degree key) (pages ++ file ∷ []) ≡ false
      → m ≡ (joined_pages v key (8 * head.size) head.length (mark_of key []) pages).fingerprint
      → x ≡ rem key (file * 2 ^ zeros_behind v (8 * head.size) head.length)
      → eqb m x ≡ not (body_wrong (length sheet) (contents_in sheet))
  body-joined m x l t em ex = rw (body_is, eq-eqb (length sheet) (sheet_length v count) l, t, ← em, ← ex) (sym (not-not (eqb m x)))

  -- what the code computes: r are the marks of the pages in the sheet's part joined, under the opened key
  module _ (p : Modulus) (o : Opened head.key p) (c f : ℕ) (z : Sized sheet head c f) (part : List ℕ) (ep : part ≡ drop head.place sheet) (r : Joined)
      (j : PagesJoined (filling head.filled) (polynomial p) p.degree (8 * head.size) head.length (numbers_at 0 8 c part) r) where
    version-is : v ≡ layout_of (version_in sheet)
    version-is = ap layout_of h.version

    total : length sheet ≡ sheet_length v count
    total = z.total ∙ ap (sheet_length v) z.counted

    fields : numbers_at 0 8 c part ≡ pages
    fields =
        ap₂ (λ (n : ℕ) (l : List ℕ). numbers_at 0 8 n l) z.counted
        (ep ∙ ap (λ (n : ℕ). drop n sheet) (h.place ∙ ap (λ (w : Layout). page_place w 0) (sym version-is)))

    last : f ≡ file
    last = z.last ∙ ap (λ (n : ℕ). number_at (page_place v n) 8 sheet) z.counted

    -- the bits of all fields, the file's among them
    bits : leb (2 ^ p.degree) (bit_or r.bits f) ≡ some_unreduced (degree key) (pages ++ file ∷ [])
    bits =
        bits-last (numbers_at 0 8 c part) r.bits f j.bits p.degree
        ∙ ap₂ some_unreduced (opened-degree o) (ap₂ (λ (fs : List ℕ) (x : ℕ). fs ++ x ∷ []) fields last)

    -- a field is not reduced
    pub fields-wrong : leb (2 ^ p.degree) (bit_or r.bits f) ≡ true → body_wrong (length sheet) (contents_in sheet) ≡ true
    fields-wrong e = rw (body_is, eq-eqb (length sheet) (sheet_length v count) total, sym bits ∙ e)

    all-bits : 8 * head.size * c ≡ page_count (8 * head.size) head.length * (8 * head.size)
    all-bits = ap (λ (n : ℕ). 8 * head.size * n) (z.counted ∙ as_bits) ∙ mul_comm (8 * head.size) (page_count (8 * head.size) head.length)

    -- the pages reach the file's end
    pub covers : head.length ≤ 8 * head.size * c
    covers = omega (arith, all-bits, count-covers (8 * head.size) head.length (omega arith))

    module _ (e : leb (2 ^ p.degree) (bit_or r.bits f) ≡ false) where
      reduced : (leb (2 ^ p.degree) r.bits ≡ false) × (leb (2 ^ p.degree) f ≡ false)
      reduced = or-neither (leb (2 ^ p.degree) r.bits) (leb (2 ^ p.degree) f) (sym (or_leb p.degree r.bits f) ∙ e)

      pub file-reduced : f < 2 ^ p.degree
      file-reduced = leb-false (2 ^ p.degree) f reduced.1

      mark : r.mark ≡ (joined_pages v key (8 * head.size) head.length (mark_of key []) pages).fingerprint
      mark =
          let filled = ap (λ (w : Layout). w.filled) version-is ∙ sym h.filled in
          let size = 8 * head.size in
          j.mark (sym (j.bits p.degree) ∙ reduced.0)
          ∙ ap (λ (x : Mark). x.fingerprint)
          (sym (joined-filling v head.filled filled (polynomial p) size head.length (mark_of (polynomial p) []) (numbers_at 0 8 c part)))
          ∙ ap₂ (λ (m : ℕ) (fs : List ℕ). (joined_pages v m size head.length (mark_of m []) fs).fingerprint) (opened-whole o) fields

      -- the joining decides
      pub joining-decides : (x : ℕ) → x ≡ rem (polynomial p) (f * 2 ^ cond head.filled (8 * head.size * c - head.length) 0)
          → eqb r.mark x ≡ not (body_wrong (length sheet) (contents_in sheet))
      joining-decides x ex =
          let filled = h.filled ∙ ap (λ (w : Layout). w.filled) (sym version-is) in
          let zeros = ap₂ (λ (b : Bool) (m : ℕ). cond b (m - head.length) 0) filled all-bits in
          let same =
          ex
          ∙ ap₂ (λ (a b : ℕ). rem (polynomial p) (a * 2 ^ b)) last zeros
          ∙ ap (λ (m : ℕ). rem m (file * 2 ^ zeros_behind v (8 * head.size) head.length)) (opened-whole o) in
          body-joined r.mark x total (sym bits ∙ e) mark same
