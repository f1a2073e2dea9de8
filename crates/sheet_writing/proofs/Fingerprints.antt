-- The pages' fingerprints in a sheet, and what stands behind them: these joined have the file's.
use mathlib.Core.Path.{◌≡◌, refl, sym, ap, ap₂, ◌∙◌}
use mathlib.Core.Bool.{false}
use mathlib.Core.List.{List, [], ◌++◌}
use Prim.Native.Nat.{ℕ, ◌+◌, ◌*◌, ◌≤◌}
use native.Mathlib.Nat.{zero-add}
use native.Mathlib.Omega.{arith}
use lib.ListN.{length}
use lib.Seq.{sets}
use Rattle.gf2.specs.Moduli.{polynomial, Proper}
use Rattle.gf2.specs.declared.Modulus.{Modulus}
use Rattle.gf2.proofs.Monics.{monic-pos, monic-degree}
use Rattle.files.specs.declared.Mark.{Mark}
use Rattle.files.specs.Files.{fingerprint, mark_from, mark_of, Part, part_length, part_bits}
use Rattle.files.proofs.Parts.{part-length, part_bytes}
use Rattle.big_endian.specs.Numbers.{bytes_of, fields_of, numbers_at}
use Rattle.big_endian.proofs.Numbers.{length-fields_of, sets_behind}
use Rattle.sheets.specs.Layout.{Layout, newest, layout_of, page_count, pages_for}
use Rattle.sheets.specs.Sheets.{page_fingerprints, joined_pages, some_unreduced}
use Rattle.sheets.specs.Inner.{filling}
use Rattle.sheets.proofs.Versions.{newest-is}
use Rattle.sheets.proofs.Pages.{length-pages, pages-count, fingerprints-lt, own-joined}
use Rattle.sheets.proofs.Parts.{pages-held}
use Rattle.sheets.proofs.Sound.{list_reduced}
use Rattle.sheet_layout.proofs.Filling.{prints-filling}
use Rattle.sheet_joining.specs.declared.Joined.{Joined}
use Rattle.sheet_joining.specs.Joining.{PagesJoined}
use Rattle.sheet_writing.proofs.Stores.{pages-stored}

-- c pages of a file of n bits, which are not filled up, whose fingerprints were stored
module _ (p : Modulus) (m : Proper p) (size : ℕ) (some : 16 ≤ size) (part : Part) (n : ℕ) (measured : n ≡ part_length part) where
  abbrev v : Layout
  v = filling false

  abbrev key : ℕ
  key = polynomial p

  abbrev file : List ℕ
  file = part_bits part

  abbrev count : ℕ
  count = page_count size (length part.bytes)

  abbrev prints : List ℕ
  prints = page_fingerprints v key (8 * size) count file

  module _ (before after : List ℕ) (c : ℕ) (passed : c ≡ count) (stored : after ≡ sets before 0 (fields_of 8 prints)) where
    pub pages-counted : c ≡ pages_for size n
    pages-counted = passed ∙ sym (ap (pages_for size) measured ∙ ap (page_count size) (part_bytes part))

    module _ (room : 8 * count + 8 ≤ length before) (r : Joined) (j : PagesJoined v key p.degree (8 * size) n (numbers_at 0 8 c after) r) where
      read_back : numbers_at 0 8 c after ≡ prints
      read_back = ap₂ (λ (i : ℕ) (b : List ℕ). numbers_at 0 8 i b) passed stored ∙ pages-stored p m v (8 * size) count file before (omega arith)

      -- the pages joined have the file's fingerprint
      joined : r.mark ≡ fingerprint key file
      unfolding mark_from
      joined =
          let pos = monic-pos p.degree p.low m.2 in
          let small = rw (monic-degree p.degree p.low m.2) at (fingerprints-lt pos v count (8 * size) file) in
          let all : count ≡ page_count (8 * size) (length file) = sym (pages-held size part) ∙ pages-count size (length file) (omega arith) in
          j.mark (ap (some_unreduced p.degree) read_back ∙ list_reduced p.degree prints small)
          ∙ ap₂ (λ (i : ℕ) (fs : List ℕ). (joined_pages v key (8 * size) i (mark_of key []) fs).fingerprint) (measured ∙ sym (part-length part)) read_back
          ∙ ap (λ (i : ℕ). (joined_pages v key (8 * size) (length file) (mark_of key []) (page_fingerprints v key (8 * size) i file)).fingerprint) all
          ∙ ap (λ (x : Mark). x.fingerprint) (own-joined pos v refl (8 * size) file (omega arith))

      -- so all fingerprints stand there, where it is stored behind the pages'
      pub all-stored : (whole : List ℕ) → whole ≡ sets after (8 * c) (bytes_of 8 r.mark)
          → whole
          ≡ sets before 0 (fields_of 8 (page_fingerprints (layout_of newest.version) key (8 * size) count file) ++ bytes_of 8 (fingerprint key file))
      all-stored whole e =
          let fields = fields_of 8 prints in
          let last = bytes_of 8 (fingerprint key file) in
          let long : 8 * count ≡ 0 + length fields =
          sym (zero-add (length fields) ∙ length-fields_of 8 prints ∙ ap (λ (i : ℕ). 8 * i) (length-pages v key count (8 * size) file)) in
          let own = ap (λ (w : Layout). w.filled) newest-is in
          e
          ∙ ap₂ (λ (i f : ℕ). sets after (8 * i) (bytes_of 8 f)) passed joined
          ∙ ap (λ (b : List ℕ). sets b (8 * count) last) stored
          ∙ sets_behind fields last before 0 (8 * count) long
          ∙ ap (λ (fs : List ℕ). sets before 0 (fields_of 8 fs ++ last))
          (sym (prints-filling (layout_of newest.version) false own key (8 * size) count file))
