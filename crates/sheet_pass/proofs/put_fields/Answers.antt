-- `put_fields` meets its contract: the fingerprints from the i-th on, stored behind those that stand there, give them all.
use mathlib.Core.Path.{◌≡◌, sym, ap, ◌∙◌}
use mathlib.Core.List.{List}
use Prim.Native.Nat.{ℕ, ◌+◌, ◌*◌}
use native.Mathlib.Omega.{arith}
use lib.ListN.{get_or, drop, drop_of_length-le}
use lib.Seq.{sets}
use Rattle.lists.proofs.Lists.{drop-next}
use Rattle.big_endian.specs.Numbers.{fields_of}
use Rattle.big_endian.proofs.Numbers.{fields-behind}
use Rattle.sheet_pass.proofs.Passes.{sets_none}
use Rattle.sheet_pass.proofs.put_fields.Goals as goal

pub returns-then-out-eq0 : goal.returns-then-out-eq0
returns-then-out-eq0 c = let a = c.args in sets_none (fields_of 8 a.marks.now) a.out.now a.from c.if-out-eq0.true

pub loop-i-preserved : goal.loop-i-preserved
loop-i-preserved c =
    let a = c.args in
    let l = c.loop-i in
    let marks = a.marks.now in
    let rest = drop (l.i + 1) marks in
    let place = a.from + 8 * l.i in
    let e : a.from + 8 * (l.i + 1) ≡ place + 8 = omega arith in (
      c.put.auto.bytes ∙ l.invariant.0,
      rw e (ap (λ (b : List ℕ). sets b (place + 8) (fields_of 8 rest)) c.put.ensures)
          ∙ fields-behind 8 (get_or marks l.i 0) rest l.out place
          ∙ ap (λ (fs : List ℕ). sets l.out place (fields_of 8 fs)) (sym (drop-next marks l.i 0 (omega arith)))
          ∙ l.invariant.1,
    )

pub returns : goal.returns
unfolding fields_of
returns c =
    let l = c.loop-i in
    let none = drop_of_length-le c.args.marks.now {i = l.i} (omega arith) in
    sym (ap (λ (fs : List ℕ). sets l.out (c.args.from + 8 * l.i) (fields_of 8 fs)) none) ∙ l.invariant.1
