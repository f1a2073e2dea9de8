-- `pages_joined` meets its contract: the whole pages, and what is left.
use mathlib.Core.Path.{◌≡◌}
use mathlib.Core.Bool.{false}
use Prim.Native.Nat.{ℕ, ◌+◌, ◌-◌, ◌*◌, ◌≤◌, ◌<◌}
use native.Mathlib.Omega.{arith}
use Rattle.big_endian.specs.Numbers.{number_at}
use Rattle.sheets.specs.Inner.{filling}
use Rattle.sheet_joining.proofs.Joining.{run-joined, last-joined}
use Rattle.sheet_joining.proofs.pages_joined.Goals as goal
use Rattle.sheet_joining.proofs.pages_joined.Goals.{Else-whole-count, Start}

abbrev page : Start → ℕ
page s = 8 * s.args.size

-- something is left: the last page has a field
abbrev whole : Else-whole-count → ℕ
whole c = c.whole_pages-whole.result

last : (c : Else-whole-count)
    → (c.args.filled ≡ false) × (whole c + 1 ≡ c.args.count) × (whole c * page c.before.before.before.before ≤ c.args.n)
    × (c.args.n < whole c * page c.before.before.before.before + page c.before.before.before.before)
last c = c.whole_pages-whole.ensures.but_last c.if-whole-count.false

pub returns-then-whole-count : goal.returns-then-whole-count
returns-then-whole-count c =
    let a = c.args in
    run-joined c.requires.0 (filling a.filled) (page (goal.at.returns-then-whole-count c).Start) a.n a.fields.now a.count _
    (c.whole_pages-whole.ensures.all c.if-whole-count.true)
    c.join_run.ensures

pub returns : goal.returns
unfolding number_at
returns c =
    let a = c.args in
    let w = whole (goal.at.returns c).Else-whole-count in
    let l = last (goal.at.returns c).Else-whole-count in
    rw (← l.1)
    (last-joined c.requires.0 (filling a.filled) (page (goal.at.returns c).Start) a.n a.fields.now w (a.n - w * page (goal.at.returns c).Start) _ _ _ l.0
    (omega (arith, l.2))
    (omega (arith, l.3)) c.eight_at.ensures c.join_run-x.ensures c.join_last.ensures)
