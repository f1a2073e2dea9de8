-- One turn of the loop over the pages of a file: what the next pages are, from page i on.
use mathlib.Core.Path.{◌≡◌, sym, ap, ◌∙◌}
use mathlib.Core.List.{List}
use Prim.Native.Nat.{ℕ, ◌+◌, ◌-◌, ◌*◌, ◌≤◌, ◌<◌}
use native.Mathlib.Nat.{mul_left_comm}
use native.Mathlib.Omega.{arith}
use lib.ListN.{length, take, drop, length-drop}
use Rattle.files.specs.Files.{Part, as_part, part_length, part_bits}
use Rattle.files.proofs.Parts.{rest-bits}
use Rattle.sheets.specs.Layout.{Layout, page_count}
use Rattle.sheets.specs.Sheets.{page_fingerprints}
use Rattle.sheets.proofs.Pages.{count-le, block_within, part-pages, pages-from, all_left}
use Rattle.sheet_pages.specs.Blocks.{NextPages}

module _ (v : Layout) (key s : ℕ) (file : Part) (i : ℕ) (pos : 0 < s) (more : i * s < length file.bytes) where
  -- what is left, as the code lends it
  abbrev lent : List ℕ
  lent = take (length file.bytes - i * s) (drop (i * s) file.bytes)

  same : lent ≡ drop (i * s) file.bytes
  same = all_left file.bytes (i * s)

  -- its pages, by its bits and by its bytes
  pages : page_count (8 * s) (part_length (as_part lent file.used)) ≡ page_count s (length (drop (i * s) file.bytes))
  pages = sym (part-pages s (as_part lent file.used) pos) ∙ ap (λ (l : List ℕ). page_count s (length l)) same

  bits_left : part_bits (as_part lent file.used) ≡ drop (i * (8 * s)) (part_bits file)
  bits_left =
      ap (λ (l : List ℕ). part_bits (as_part l file.used)) same
      ∙ rest-bits file.bytes file.used (i * s) more
      ∙ ap (λ (m : ℕ). drop m (part_bits file)) (sym (mul_left_comm i 8 s))

  -- n pages, whose fingerprints are the first of the marks
  module _ (n : ℕ) (before marks : List ℕ) (h : NextPages v key s (as_part lent file.used) n before marks) where
    within : n ≤ page_count s (length (drop (i * s) file.bytes))
    within = omega (arith, h.count, pages)

    pub turn-within : i + n ≤ page_count s (length file.bytes)
    turn-within = block_within s i n file.bytes pos (omega arith) within

    pub turn-some : 0 < n
    turn-some =
        let left : 0 < length (drop (i * s) file.bytes) = rw length-drop (omega arith) in
        omega (arith, h.count, pages, count-le s (length (drop (i * s) file.bytes)) 1 pos (omega (arith, left)))

    pub turn-marks : take n marks ≡ take n (drop i (page_fingerprints v key (8 * s) (page_count s (length file.bytes)) (part_bits file)))
    turn-marks =
        h.prints
        ∙ ap (page_fingerprints v key (8 * s) n) bits_left
        ∙ sym (pages-from v key (8 * s) (page_count s (length file.bytes)) i n (part_bits file) turn-within)
