-- `cut` meets its contract: what stands at t^k and above is looked up, what stands below stays.
use mathlib.Core.Path.{sym, ap, ◌∙◌}
use Prim.Native.Nat.{ℕ, ◌*◌, ◌/◌, ◌%◌, ◌^◌, ◌≤◌, ◌<◌}
use native.Mathlib.Nat.{div-lt_iff_lt-mul}
use native.Mathlib.Omega.{arith}
use lib.ListN.{get_or}
use lib.Pow.{pow_mono, pow_pos}
use Rattle.gf2.specs.Polynomials.{◌⊕◌, rem}
use Rattle.gf2.specs.Moduli.{polynomial}
use Rattle.gf2.proofs.Sums.{⊕_comm}
use Rattle.gf2.proofs.Monics.{monic-pos}
use Rattle.gf2.proofs.Steps.{residue-split}
use Rattle.lookups.proofs.Rule.{table-long, table-rows}
use Rattle.lookups.proofs.Cut.{looked-shift, look_one}
use Rattle.page_marks.proofs.cut.Goals as goal
use Rattle.page_marks.proofs.cut.Goals.{Start}

-- what stands at t^k and above is a byte
top : (s : Start) → s.args.x / 2 ^ s.args.table.p.degree < 256
top s =
    let a = s.args in
    let wide : 2 ^ 56 ≤ 2 ^ a.table.p.degree = pow_mono {i = 56} {j = a.table.p.degree} s.requires.0 in
    (div-lt_iff_lt-mul (pow_pos a.table.p.degree)).1 (omega (arith, wide))

pub offset_bounds-table-x : goal.offset_bounds-table-x
offset_bounds-table-x c = omega (arith, top (goal.at.offset_bounds-table-x c).Start)

pub bounds-table-x : goal.bounds-table-x
bounds-table-x c =
    omega (arith, top (goal.at.bounds-table-x c).Start, table-long c.args.table.p c.args.table.words.now c.args.table.holds)

pub returns : goal.returns
unfolding ◌⊕◌
returns c =
    let a = c.args in
    let k = a.table.p.degree in
    let h = a.x / 2 ^ k in
    let ws = a.table.words.now in
    let m = a.table.holds.0.2 in
    ap (λ (r : ℕ). r ⊕ get_or ws h 0) c.low_bits.ensures
    ∙ look_one ws (a.x % 2 ^ k) h (top (goal.at.returns c).Start)
    ∙ ap (λ (y : ℕ). a.x % 2 ^ k ⊕ y)
    (looked-shift 8 (monic-pos k a.table.p.low m) k 4 ws (table-rows a.table.p ws a.table.holds) 1 h (omega arith)
    (omega (arith, top (goal.at.returns c).Start)))
    ∙ ⊕_comm (a.x % 2 ^ k) (rem (polynomial a.table.p) (h * 2 ^ k))
    ∙ sym (residue-split k a.table.p.low m a.x)
