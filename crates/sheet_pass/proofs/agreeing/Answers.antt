-- `agreeing` meets its contract: the first i numbers agree.
use mathlib.Core.Path.{◌≡◌, refl, sym, ap, ◌∙◌}
use mathlib.Core.List.{List}
use Prim.Native.Nat.{ℕ, ◌+◌, ◌-◌, ◌*◌}
use native.Mathlib.Nat.{zero-add, add-zero, sub-zero}
use native.Mathlib.Omega.{arith}
use lib.ListN.{length}
use Rattle.big_endian.specs.Numbers.{number_at, numbers_at}
use Rattle.sheets.specs.Inner.{agreeing}
use Rattle.sheets.proofs.Changes.{agree-all, agree_on, agree_off, agree-end}
use Rattle.sheet_pass.specs.Passes.{expected}
use Rattle.sheet_pass.proofs.Passes.{expected-known}
use Rattle.sheet_pass.proofs.agreeing.Goals as goal
use Rattle.sheet_pass.proofs.agreeing.Goals.{In-Some}

-- the expected ones are those that are known
all-known : (c : In-Some) → let a = c.args in
    agreeing (expected a.known a.from a.marks.now) a.marks.now ≡ agreeing (numbers_at a.from 8 (length a.marks.now) c.in-Some.fields.now) a.marks.now
all-known c =
    let a = c.args in
    ap (λ (fs : List ℕ). agreeing fs a.marks.now) (expected-known a.known c.in-Some.fields a.from a.marks.now c.in-Some.is)

pub returns-in_default : goal.returns-in_default
unfolding expected
returns-in_default c = let a = c.args in rw c.in_default.is (sym (agree-all a.marks.now))

pub loop-i-init : goal.loop-i-init
loop-i-init c = rw (zero-add, add-zero, sub-zero) refl

pub eight_at-requires : goal.eight_at-requires
eight_at-requires c = let room = rw c.in-Some.is at c.requires in omega (arith, room)

pub returns-then-eight_at-mark : goal.returns-then-eight_at-mark
unfolding number_at
returns-then-eight_at-mark c =
    let l = c.loop-i in
    let a = c.args in
    let off = agree_off (a.from + 8 * l.i) c.in-Some.fields.now a.marks.now l.i (omega arith) (λ d. c.if-eight_at-mark.true (c.eight_at.ensures ∙ d)) in
    omega (arith, l.invariant, off, all-known (goal.at.returns-then-eight_at-mark c).In-Some)

pub loop-i-preserved : goal.loop-i-preserved
unfolding number_at
loop-i-preserved c =
    let l = c.loop-i in
    let a = c.args in
    let place = a.from + 8 * l.i in
    let e : a.from + 8 * (l.i + 1) ≡ place + 8 = omega arith in
    let on = agree_on place c.in-Some.fields.now a.marks.now l.i (omega arith) (sym c.eight_at.ensures ∙ c.if-eight_at-mark.false) in
    rw e (omega (arith, l.invariant, on))

pub returns : goal.returns
returns c =
    let l = c.loop-i in
    let a = c.args in
    let end = agree-end a.marks.now (numbers_at (a.from + 8 * l.i) 8 (length a.marks.now - l.i) c.in-Some.fields.now) l.i (omega arith) in
    omega (arith, l.invariant, end, all-known (goal.at.returns c).In-Some)
