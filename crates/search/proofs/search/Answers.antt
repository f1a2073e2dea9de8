-- `search` meets its contract: the tests of the key, and then those of `search_under`.
use mathlib.Core.Path.{sym, ap, ◌∙◌}
use Prim.Native.Nat.{ℕ}
use Rattle.std.proofs.lemmas.Result.{err_from_is_err_and}
use Rattle.lists.specs.Lists.{overlay}
use Rattle.refusals.specs.Refusals.{state_of, first_of}
use Rattle.acceptance.specs.Keys.{polynomial_of}
use Rattle.acceptance.specs.Opened.{Opened}
use Rattle.acceptance.proofs.Opened.{opened-first, opened-whole, opened-proper, opened-eight}
use Rattle.keys.proofs.Laws.{opened, refused}
use Rattle.search.specs.Searching.{places, counts, text_tests, search as answer, places_after}
use Rattle.search.proofs.search.Goals as goal
use Rattle.search.proofs.search.Goals.{In_ok-p}

-- the accepted key
key-opened : (c : In_ok-p) → Opened c.args.key c.in_ok-p.p
key-opened c =
    let t = c.test in
    opened t.result c.args.key t.ensures _ c.in_ok-p.was

pub returns-in_err-p : goal.returns-in_err-p
unfolding answer places_after
returns-in_err-p c =
    let a = c.args in
    let t = c.test in
    let p = err_from_is_err_and c.from_residual.result c.from_residual.ensures.1 in
    let tests = text_tests a.text.now a.pattern.now in
    let after = overlay (places a.text.now a.pattern.now) a.places.now in
    rw (p.1, p.2) (
      sym (refused t.result a.key t.ensures tests tt (counts (polynomial_of a.key) a.text.now a.pattern.now) _ c.in_err-p.was),
      sym (ap state_of (refused t.result a.key t.ensures tests a.places.now after _ c.in_err-p.was)),
    )

pub search_under-requires : goal.search_under-requires
search_under-requires c = let h = key-opened (goal.at.search_under-requires c).In_ok-p in (opened-proper h, opened-eight h)

pub returns : goal.returns
unfolding answer places_after
returns c =
    let a = c.args in
    let h = key-opened (goal.at.returns c).In_ok-p in
    let e = c.search_under.ensures in
    let tests = text_tests a.text.now a.pattern.now in
    let after = overlay (places a.text.now a.pattern.now) a.places.now in (
      e.0
          ∙ ap (λ (q : ℕ). first_of tests tt (counts q a.text.now a.pattern.now)) (opened-whole h)
          ∙ sym (opened-first h tests tt (counts (polynomial_of a.key) a.text.now a.pattern.now)),
      e.1 ∙ sym (ap state_of (opened-first h tests a.places.now after)),
    )
