-- `comparing::compare` meets its contract.
use mathlib.Core.Path.{sym, ◌∙◌}
use Prim.Native.Nat.{◌+◌}
use native.Mathlib.Omega.{arith}
use lib.Seq.{set_out}
use Rattle.comparing.proofs.Comparing.{same_bytes, byte_differs}
use Rattle.comparing.proofs.Numbers.{tally_begin, tally_end}
use Rattle.comparing.proofs.Counting.{skipped, place-next, alarm_next, ahead-next, place-low}
use Rattle.comparing.proofs.compare.Goals as goal
use Rattle.comparing.proofs.compare.Goals.{then-n-places, else-n-places}

pub windows-init : goal.windows-init
windows-init c =
    let a = c.args in
    let n = c.next_flagged-next in
    let low = place-low a.flags.now 0 a.size n.result (omega arith) n.ensures in (
      ahead-next a.flags.now 0 a.size n.result n.ensures,
      omega arith,
      omega arith,
      skipped a.flags.now a.text.now a.pattern.now a.from a.size tally_begin (omega arith) n.result n.ensures,
    )

pub windows-preserved-then-text-at : goal.windows-preserved-then-text-at
windows-preserved-then-text-at c =
    let a = c.args in
    let i = c.in-Some.i in
    let j = c.loop-j.j in
    let v = rw (c.in-Some.is, ← c.loop-j.invariant.0) at c.windows.invariant in
    let n = c.next_flagged-next-in-Some in
    let low = place-low a.flags.now (i + 1) a.size n.result (omega (arith, v.0.0)) n.ensures in
    let other = byte_differs a.text.now a.pattern.now (a.from + i) j c.loop-j-test.true c.if-text-at.true in (
      ahead-next a.flags.now (i + 1) a.size n.result n.ensures,
      omega (arith, v.1),
      omega (arith, v.2),
      alarm_next a.flags.now a.text.now a.pattern.now a.from a.size v.3 v.0.0 v.0.1 n.result n.ensures other,
    )

pub windows-preserved : goal.windows-preserved
windows-preserved c =
    let a = c.args in
    let l = c.windows in
    let i = c.in-Some.i in
    let v = rw (c.in-Some.is, ← c.loop-j.invariant.0) at l.invariant in
    let n = c.next_flagged-next-in-Some in
    let low = place-low a.flags.now (i + 1) a.size n.result (omega (arith, v.0.0)) n.ensures in
    let fits = c.requires.1 in
    let bytes = same_bytes a.text.now a.pattern.now (a.from + i) (omega (arith, v.0.0)) (λ k h. c.loop-j.invariant.1 k (omega arith)) in (
      ahead-next a.flags.now (i + 1) a.size n.result n.ensures,
      omega (arith, v.1),
      omega (arith, v.2),
      place-next a.flags.now a.text.now a.pattern.now a.from a.size v.3 v.0.0 v.0.1 n.result n.ensures c.if-n-places.places
          (elim c.if-n-places.branch [
            | then-n-places t ↦ t.places-is
            | else-n-places t ↦ t.places-is ∙ sym (set_out l.places c.loop-j.counts.places (a.from + i) t.if-n-places.false)
          ])
          bytes,
    )

pub returns : goal.returns
returns c =
    let a = c.args in
    let v = rw c.in_default.is at c.windows.invariant in
    tally_end v.3 (omega arith)
