-- `append_low` meets its contract: the cut into four groups of eight bits, from the number with the new bits.
use mathlib.Core.Path.{◌≡◌, ap, ap₂, ◌∙◌}
use Prim.Native.Nat.{ℕ, ◌+◌, ◌*◌, ◌/◌, ◌%◌, ◌^◌}
use native.Mathlib.Omega.{arith}
use Rattle.gf2.specs.Polynomials.{◌⊕◌}
use Rattle.lookups.specs.Groups.{looked}
use Rattle.lookups.proofs.Rule.{table-rows}
use Rattle.lookups.proofs.Cut.{cut_low}
use Rattle.lookups.proofs.KeyTable.append_low.Goals as goal

pub returns : goal.returns
returns c =
    let a = c.args in
    let p = a.self.p in
    let ws = a.self.words.now in
    let t = a.self.holds in
    ap (λ (y : ℕ). y % 2 ^ p.degree)
    (c.look_up.ensures
    ∙ ap (λ (v : ℕ). a.x % 2 ^ 32 * 2 ^ 32 + v ⊕ looked 8 ws 4 0 ((a.x % 2 ^ 32 * 2 ^ 32 + v) / 2 ^ p.degree)) c.from.ensures)
    ∙ cut_low 8 p t.0 ws 4 (table-rows p ws t) 4 a.x a.v (omega arith) c.ranges.v.fits (omega (arith, c.requires))
