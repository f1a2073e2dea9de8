-- `over_blocks` meets its contract: the first pages have the expected fingerprints, and these are written.
use mathlib.Core.Path.{◌≡◌}
use Prim.Native.Nat.{◌+◌, ◌-◌, ◌*◌, ◌≤◌}
use lib.ListN.{length, take, drop}
use lib.Seq.{sets}
use Rattle.gf2.specs.Moduli.{polynomial}
use Rattle.files.specs.Files.{as_part, part_bits}
use Rattle.big_endian.specs.Numbers.{fields_of}
use Rattle.sheets.specs.Layout.{page_count}
use Rattle.sheets.specs.Sheets.{page_fingerprints}
use Rattle.sheets.specs.Inner.{filling, agreeing}
use Rattle.sheet_pass.specs.Passes.{expected}
use Rattle.sheet_pass.proofs.over_blocks.Given as goal

abbrev pub invariant-loop-page : goal.invariant-loop-page
invariant-loop-page l =
    let count = page_count l.x.size (length l.file) in
    let fs = page_fingerprints (filling l.x.filled) (polynomial l.x.p) (8 * l.x.size) count (part_bits (as_part l.file l.x.used)) in
    (l.page ≤ count) × (length l.marks ≡ 64) × (length l.out ≡ length l.initial.out) × (l.out ≡ sets l.initial.out 0 (fields_of 8 (take l.page fs)))
    × (l.page + agreeing (expected l.known (8 * l.page) (drop l.page fs)) (drop l.page fs) ≡ agreeing (expected l.known 0 fs) fs)

abbrev pub decreases-loop-page : goal.decreases-loop-page
decreases-loop-page l = page_count l.x.size (length l.file) - l.page
