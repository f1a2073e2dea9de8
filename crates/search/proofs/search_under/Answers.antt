-- `search_under` meets its contract: each way out by its law of `Calls`.
use mathlib.Core.Path.{◌≡◌, ap, ◌∙◌}
use mathlib.Core.Bool.{false}
use mathlib.Core.List.{[], ◌∷◌}
use Prim.Native.Nat.{◌*◌}
use native.Mathlib.Omega.{arith}
use lib.ListN.{length}
use Rattle.gf2.specs.Moduli.{polynomial}
use Rattle.refusals.specs.Refusals.{Done, passes}
use Rattle.refusals.proofs.Laws.{holds, fails}
use Rattle.refusals.proofs.Lengths.{within}
use Rattle.search.proofs.Calls.{both-fit, call_long, call_empty, call_none, call_done}
use Rattle.search.proofs.search_under.Goals as goal
use Rattle.search.proofs.search_under.Goals.{Else-not-fit}

-- ---- what is known at the places

-- both fit
short : (c : Else-not-fit) → let a = c.args in passes (8 * length a.text.now ∷ 8 * length a.pattern.now ∷ []) ≡ false
short c =
    let a = c.args in
    fails _ _ (both-fit _ _ (length a.text.now) (length a.pattern.now) c.bytes_fit.ensures c.bytes_fit-2.ensures) c.if-not-fit.false-raw

-- ---- the needs

pub returns-then-not-fit : goal.returns-then-not-fit
returns-then-not-fit c =
    let a = c.args in
    call_long (polynomial a.p) a.text.now a.pattern.now a.places.now
    (holds _ _ (both-fit _ _ (length a.text.now) (length a.pattern.now) c.bytes_fit.ensures c.bytes_fit-2.ensures) c.if-not-fit.true-raw)

pub returns-then-pattern-eq0 : goal.returns-then-pattern-eq0
returns-then-pattern-eq0 c =
    let a = c.args in
    call_empty (polynomial a.p) a.text.now a.pattern.now a.places.now (short (goal.at.returns-then-pattern-eq0 c).Else-not-fit) c.if-pattern-eq0.true

pub returns-then-text-pattern : goal.returns-then-text-pattern
returns-then-text-pattern c =
    let a = c.args in
    call_none (polynomial a.p) a.text.now a.pattern.now a.places.now (short (goal.at.returns-then-text-pattern c).Else-not-fit) c.if-pattern-eq0.false
    c.if-text-pattern.true

pub search_text-requires : goal.search_text-requires
search_text-requires c =
    let a = c.args in
    let l = within (8 * length a.text.now ∷ 8 * length a.pattern.now ∷ []) (short (goal.at.search_text-requires c).Else-not-fit) in
    (c.requires.0, c.requires.1, omega (arith, c.if-pattern-eq0.false), omega (arith, c.if-text-pattern.false), l.0)

pub returns : goal.returns
returns c =
    let a = c.args in
    let d = call_done (polynomial a.p) a.text.now a.pattern.now a.places.now (short (goal.at.returns c).Else-not-fit)
    c.if-pattern-eq0.false in
    let f = c.search_text.ensures in
    (ap Done f.0 ∙ d.0, f.1 ∙ d.1)
