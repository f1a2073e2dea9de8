-- `independent` meets its contract.
use Rattle.std.proofs.Common.{◌≡◌, ◌↔◌, get_or, take, arith, ltb-true, lt-ltb}
use mathlib.Core.Bool.{false≢true}
use Rattle.basis.specs.Rows.{Independent}
use Rattle.basis.proofs.Turns.{last-zero, next-zero, turn-before, only_row}
use Rattle.basis.proofs.independent.Goals as goal

-- ---- the needs

pub returns-then-v-eq0 : goal.returns-then-v-eq0
returns-then-v-eq0 c =
    let l = c.loop-n in (
      (λ f. absurd (false≢true f), λ i. absurd (last-zero l.n l.rows (omega arith) (omega arith) c.if-v-eq0.true (l.invariant.1.0 i))),
      l.auto.rows,
    )

pub returns-then-w-eq0 : goal.returns-then-w-eq0
returns-then-w-eq0 c =
    let w = c.cleared-w in
    let one = c.lowest_one-c in
    let l = c.loop-n in (
      (
        λ f. absurd (false≢true f),
        λ i. absurd (next-zero l.n l.rows (omega arith) (omega arith) one.result one.ensures.2 w.result w.ensures c.if-w-eq0.true
            (l.invariant.1.0 i)),
      ),
      l.auto.rows,
    )

pub loop-n-preserved : goal.loop-n-preserved
loop-n-preserved c =
    let one = c.lowest_one-c in
    let w = c.cleared-w in
    let two = c.lowest_one-d in
    let l = c.loop-n in
    let clear = c.clear_columns in
    let t = turn-before l.n l.rows (omega arith) (omega arith) one.result one.ensures.2 w.result w.ensures
    two.result clear.new.rows two.ensures.2 clear.ensures in
    (omega arith, (λ i. t.0 (l.invariant.1.0 i), λ i. l.invariant.1.1 (t.1 i)))

pub returns-else-n-eq0 : goal.returns-else-n-eq0
returns-else-n-eq0 c =
    let l = c.loop-n in
    let e : l.n ≡ 1 = omega arith in
    let o = only_row l.rows (omega arith) in
    let i = l.invariant.1 in
    let j : Independent (take l.n l.rows) ↔ Independent (take 1 l.rows) = rw e (λ x. x, λ x. x) in
    ((λ t. i.1 (j.1 (o.0 (ltb-true 0 (get_or l.rows 0 0) t))), λ x. lt-ltb 0 (get_or l.rows 0 0) (o.1 (j.0 (i.0 x)))), l.auto.rows)
