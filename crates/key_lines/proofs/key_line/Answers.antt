-- `key_lines::key_line` meets its contract: each return follows from the tests before it.
use mathlib.Core.Path.{◌≡◌, sym, subst}
use mathlib.Core.Logic.{◌⊎◌}
use Prim.Native.Nat.{ℕ, ◌≤◌, ◌<◌}
use native.Mathlib.Omega.{arith}
use lib.ListN.{length}
use Rattle.std.proofs.Common.{rules, tests, Some, None, ◌≢◌, MatchOption}
use Rattle.std.proofs.lemmas.Result.{err_from_is_err_and}
use Rattle.std.proofs.lemmas.Iterator.{YieldsList-from_slice, IsFirst-from_position}
use Rattle.key_lines.specs.declared.LineError.TheVariants.{NoKey}
use Rattle.key_lines.specs.KeyLines.{index_of}
use Rattle.key_lines.proofs.Laws.{newline-found, unended, line-length, line-other, Written, line-0, line-1, line-large}
use Rattle.key_lines.proofs.key_line.Goals as goal
use Rattle.key_lines.proofs.key_line.Goals.{After-position, In_ok-n, In_ok-top}

-- the search for the newline
found : (c : After-position)
    → MatchOption c.position.result (length c.args.input.now ≤ index_of 10 c.args.input.now)
    (λ n. (n < length c.args.input.now) × (n ≡ index_of 10 c.args.input.now))
found c =
    newline-found c.args.input.now c.position.result
    (IsFirst-from_position _ _ _ (λ x. x ≡ 10) (λ x. x ≢ 10) c.position.ensures.ran (YieldsList-from_slice c.args.input.now c.iter.ensures.rest)
    (λ x q k. search (rules, tests)) (λ x q k. search (rules, tests)))

newline : (c : After-position) (n : ℕ) → c.position.result ≡ Some n → (n < length c.args.input.now) × (n ≡ index_of 10 c.args.input.now)
newline c n e =
    subst
    (λ r. MatchOption r (length c.args.input.now ≤ index_of 10 c.args.input.now)
    (λ k. (k < length c.args.input.now) × (k ≡ index_of 10 c.args.input.now)))
    e (found c)

pub returns-in_err-n : goal.returns-in_err-n
returns-in_err-n c =
    let p = err_from_is_err_and c.from_residual.result c.from_residual.ensures.1 in
    let e : c.position.result ≡ None = grind arith in
    let r : c.in_err-n.field-0.0 ≡ NoKey = grind arith in
    let h = found (goal.at.returns-in_err-n c).After-position in
    rw (p.1, p.2, r) (sym (unended c.args.input.now (rw e at h)))

pub returns-then-not-contains : goal.returns-then-not-contains
returns-then-not-contains c =
    let out : (c.in_ok-n.n < 1) ⊎ (17 < c.in_ok-n.n) = search (rules, tests) in
    let at = newline (goal.at.returns-then-not-contains c).After-position _ c.in_ok-n.ensures.ok_part in
    sym (line-length _ _ at out)

pub returns-in_err-top : goal.returns-in_err-top
returns-in_err-top c =
    let p = err_from_is_err_and c.from_residual-in_err-top.result c.from_residual-in_err-top.ensures.1 in
    let e : c.top_and_word.result ≡ None = grind arith in
    let r : c.in_err-top.field-0.0 ≡ NoKey = grind arith in
    let at = newline (goal.at.returns-in_err-top c).After-position _ c.in_ok-n.ensures.ok_part in
    rw (p.1, p.2, r) (sym (line-other _ _ at (rw e at c.top_and_word.ensures)))

-- the digits before it
written : (c : In_ok-top) → (c.in_ok-n.n < length c.args.input.now) × (c.in_ok-n.n ≡ index_of 10 c.args.input.now)
    → Written c.args.input.now c.in_ok-n.n c.in_ok-top.top c.in_ok-top.word
written c at = record {
  at = at;
  low = search (rules, tests);
  high = search (rules, tests);
  digits = rw c.in_ok-top.ensures.ok_part at c.top_and_word.ensures;
}

pub returns-in-0 : goal.returns-in-0
returns-in-0 c =
    let at = newline (goal.at.returns-in-0 c).After-position _ c.in_ok-n.ensures.ok_part in
    rw c.key_of.ensures (sym (line-0 (written (goal.at.returns-in-0 c).In_ok-top at) c.in-0.is (omega arith)))

pub returns-in-1 : goal.returns-in-1
returns-in-1 c =
    let at = newline (goal.at.returns-in-1 c).After-position _ c.in_ok-n.ensures.ok_part in
    sym (line-1 (written (goal.at.returns-in-1 c).In_ok-top at) c.in-1.is (omega arith))

pub returns-in_default : goal.returns-in_default
returns-in_default c =
    let at = newline (goal.at.returns-in_default c).After-position _ c.in_ok-n.ensures.ok_part in
    sym (line-large (written (goal.at.returns-in_default c).In_ok-top at) (omega arith))
