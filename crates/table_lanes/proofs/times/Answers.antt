-- `times` meets its contract: the sum is the product of the bytes of x before this one.
use mathlib.Core.Path.{◌≡◌, sym, ap, ◌∙◌}
use mathlib.Core.List.{List}
use Prim.Native.Nat.{ℕ, ◌+◌, ◌-◌, ◌*◌, ◌/◌, ◌%◌, ◌^◌, ◌<◌}
use native.Mathlib.Nat.{div-eq_of_lt, mod-lt}
use native.Mathlib.Omega.{arith}
use lib.ListN.{get_or}
use Rattle.gf2.specs.Polynomials.{◌⊕◌}
use Rattle.gf2.specs.Moduli.{polynomial}
use Rattle.gf2.proofs.Products.{zero-⊗}
use Rattle.gf2.proofs.Residues.{rem-zero}
use Rattle.gf2.proofs.Monics.{monic-pos}
use Rattle.gf2.proofs.Steps.{residue-below}
use Rattle.lookups.specs.Groups.{looked}
use Rattle.lookups.proofs.Cut.{looked-all}
use Rattle.table_lanes.proofs.Powers.{product-byte, look_halves, high-byte}
use Rattle.table_lanes.proofs.times.Goals as goal

pub loop-byte-init : goal.loop-byte-init
loop-byte-init c =
    let z : c.args.x / 2 ^ 64 ≡ 0 = div-eq_of_lt c.ranges.x.fits in
    sym (rw (z, zero-⊗) (rem-zero (polynomial c.args.table.p)))

pub feed_byte-requires : goal.feed_byte-requires
feed_byte-requires c =
    let l = c.loop-byte in
    residue-below c.args.table.p c.args.table.holds.0 l.sum _ l.invariant

pub loop-byte-preserved : goal.loop-byte-preserved
unfolding ◌⊕◌
loop-byte-preserved c =
    let a = c.args in
    let l = c.loop-byte in
    let i = 64 - 8 * l.byte-index in
    let pos = monic-pos a.table.p.degree a.table.p.low c.args.table.holds.0.2 in
    let rows = a.rows.now in
    let t = get_or rows 1 0 in
    let b = a.x / 2 ^ (i - 8) % 256 in
    let byte : b < 256 = mod-lt (a.x / 2 ^ (i - 8)) (omega arith) in
    let read : get_or c.to_be_bytes-byte-items.result l.byte-index 0 ≡ b =
    ap (λ (bs : List ℕ). get_or bs l.byte-index 0) c.to_be_bytes-byte-items.ensures ∙ high-byte 8 a.x l.byte-index (omega arith) in
    let next : 64 - 8 * (l.byte-index + 1) ≡ i - 8 = omega arith in
    rw (read, next)
    (look_halves rows c.feed_byte.result b byte
    ∙ ap (λ (y : ℕ). y ⊕ looked 4 rows 2 0 b) c.feed_byte.ensures
    ∙ product-byte pos a.x t i l.sum (looked 4 rows 2 0 b) (omega arith) l.invariant
    (looked-all 4 pos t 2 rows c.requires.1 2 b (omega arith) byte))
