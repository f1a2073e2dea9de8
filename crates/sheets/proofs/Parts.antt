-- Laws of a file that is handed in as a part: its pages and number 7, by its bytes.
use mathlib.Core.Path.{◌≡◌, ap, ◌∙◌}
use mathlib.Core.List.{[], ◌∷◌}
use Prim.Native.Nat.{ℕ, ◌*◌, ◌≤◌, ◌<◌}
use native.Mathlib.Decide.{dec_le}
use native.Mathlib.Omega.{arith}
use lib.ListN.{length}
use borrow.Author.Tests.{lt-ltb, le-ltb}
use Rattle.refusals.specs.Refusals.{longest, passes}
use Rattle.refusals.proofs.Lengths.{counted_is}
use Rattle.files.specs.Files.{Part, part_length, part_bits, bytes_for}
use Rattle.files.specs.Ends.{counted_length}
use Rattle.files.proofs.Parts.{part-range, part-length, part_bytes}
use Rattle.sheets.specs.Layout.{page_count, pages_for}

pub part-fits : (p : Part) → length p.bytes ≤ 4294967295 → part_length p ≤ longest
part-fits p h = omega (arith, (part-range p).0)

pub part-long : (p : Part) → 4294967295 < length p.bytes → longest < part_length p
part-long p h = omega (arith, (part-range p).1)

pub part-passes : (p : Part) → passes (part_length p ∷ []) ≡ passes (8 * length p.bytes ∷ [])
part-passes p = go (dec_le (length p.bytes) 4294967295)
  where
    go : Dec (length p.bytes ≤ 4294967295) → passes (part_length p ∷ []) ≡ passes (8 * length p.bytes ∷ [])
    go (yes h) = rw (le-ltb longest (part_length p) (part-fits p h), le-ltb longest (8 * length p.bytes) (omega arith))
    go (no h) = rw (lt-ltb longest (part_length p) (part-long p (omega arith)), lt-ltb longest (8 * length p.bytes) (omega arith))

pub counted-part : (p : Part) → length p.bytes ≤ 4294967295 → counted_length p ≡ part_length p
counted-part p h = counted_is (part_length p) (part-fits p h)

pub pages-held : (s : ℕ) (p : Part) → pages_for s (length (part_bits p)) ≡ page_count s (length p.bytes)
pages-held s p = ap (page_count s) (ap bytes_for (part-length p) ∙ part_bytes p)
