-- `feed_lane` meets its contract: x stands for f and the groups before this one.
use mathlib.Core.Path.{◌≡◌, ap, ◌∙◌}
use mathlib.Core.List.{List, []}
use Prim.Native.Nat.{ℕ, ◌+◌, ◌*◌, ◌/◌, ◌≤◌, ◌<◌}
use native.Mathlib.Omega.{arith}
use lib.ListN.{get_or, length}
use Rattle.std.proofs.Common.{w32}
use Rattle.std.specs.Int.{from_be_bytes}
use Rattle.big_endian.proofs.Pieces.{going-first, going-four}
use Rattle.lookups.proofs.Groups.{group-at, four-bytes}
use Rattle.lookups.proofs.KeyTable.feed_lane.Goals as goal

pub loop-group-init : goal.loop-group-init
loop-group-init c = going-first c.args.self.p c.args.f c.args.part.now c.requires

pub loop-group-preserved : goal.loop-group-preserved
loop-group-preserved c =
    let a = c.args in
    let l = c.loop-group in
    let i = l.group-index in
    let groups = c.as_chunks.ensures in
    let next : (i + 1) * 4 ≡ i * 4 + 4 = omega arith in
    let inside : i < length a.part.now / 4 = omega (arith, groups.front_len) in
    let group = ap (λ (gs : List (List ℕ)). get_or gs i []) groups.front ∙ group-at [] 4 (length a.part.now / 4) a.part.now i inside in
    let fits : i * 4 + 4 ≤ length a.part.now = omega (arith, inside) in
    rw next
    (going-four a.self.p a.self.holds.0 a.f a.part.now 0 (i * 4) _ l.invariant c.from_be_bytes.result _ fits
    (c.from_be_bytes.ensures ∙ ap (from_be_bytes w32) group ∙ four-bytes a.part.now (i * 4) fits (λ j. (c.type_inv.part j).fits))
    c.append-x.ensures)
