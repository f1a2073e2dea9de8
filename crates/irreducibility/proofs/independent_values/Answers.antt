-- The first i rows are put through the function.
use mathlib.Core.Path.{refl, sym, ap, ◌∙◌}
use mathlib.Core.List.{List}
use Prim.Native.Nat.{ℕ, ◌<◌}
use native.Mathlib.Nat.{zero-add}
use native.Mathlib.Omega.{arith}
use Rattle.std.proofs.Common.{rules}
use lib.ListN.{length, get_or}
use Rattle.lists.specs.Lists.{list_from}
use Rattle.irreducibility.proofs.Filling.{filled_at, fill, fill-whole, same-independent}
use Rattle.irreducibility.proofs.independent_values.Goals as goal

pub loop-i-init : goal.loop-i-init
unfolding list_from
loop-i-init g c = λ v h. refl

pub loop-i-preserved : goal.loop-i-preserved
loop-i-preserved g c = λ v h.
    let given = c.args.rows.now in
    let l = c.loop-i in
    let f : ℕ → ℕ = λ i. v i (get_or given i 0) in
    let below : l.i < length given = omega arith in
    let filled = l.invariant v h in
    let row = ap (λ (x : List ℕ). get_or x l.i 0) filled ∙ filled_at f 0 l.i given below in
    let value = h l.i (get_or l.rows l.i 0) c.value.result below (search rules) c.value.ensures in
    rw filled (fill f 0 l.i given c.value.result below (value ∙ ap (v l.i) row ∙ ap f (sym (zero-add l.i))))

pub returns : goal.returns
returns g c =
    let given = c.args.rows.now in
    let l = c.loop-i in (
      (λ v h. same-independent (l.invariant v h ∙ fill-whole (λ i. v i (get_or given i 0)) 0 l.i given (omega arith)) c.independent.ensures.0),
      c.independent.auto.rows ∙ l.auto.rows,
    )
