-- `make` meets its contract: the tests of the key, and then those of `make_under`.
use mathlib.Core.Path.{sym, ap, ◌∙◌}
use mathlib.Core.List.{[], ◌∷◌}
use Prim.Native.Nat.{ℕ}
use Rattle.std.proofs.lemmas.Result.{err_from_is_err_and}
use Rattle.refusals.specs.Refusals.{first_of}
use Rattle.lookups.specs.Rule.{table}
use Rattle.acceptance.specs.Keys.{polynomial_of}
use Rattle.acceptance.specs.Opened.{Opened}
use Rattle.acceptance.proofs.Opened.{opened-whole, opened-proper, opened-first}
use Rattle.keys.proofs.Laws.{opened, refused}
use Rattle.tables.specs.Tables.{make_table}
use Rattle.table_tests.specs.TableTests.{table_size_test}
use Rattle.tables.proofs.make.Goals as goal
use Rattle.tables.proofs.make.Goals.{In_ok-p}

key-opened : (c : In_ok-p) → Opened c.args.key c.in_ok-p.p
key-opened c = let t = c.test in opened t.result c.args.key t.ensures _ c.in_ok-p.was

pub make_under-requires : goal.make_under-requires
make_under-requires c = opened-proper (key-opened (goal.at.make_under-requires c).In_ok-p)

pub returns-in_err-p : goal.returns-in_err-p
unfolding make_table
returns-in_err-p c =
    let a = c.args in
    let words = a.words.now in
    let t = c.test in
    let r = err_from_is_err_and c.from_residual.result c.from_residual.ensures.1 in
    rw (r.1, r.2) (sym (refused t.result a.key t.ensures (table_size_test words ∷ []) words (table (polynomial_of a.key)) _ c.in_err-p.was))

pub returns : goal.returns
unfolding make_table
returns c =
    let a = c.args in
    let words = a.words.now in
    let h = key-opened (goal.at.returns c).In_ok-p in
    c.make_under.ensures
    ∙ ap (λ (q : ℕ). first_of (table_size_test words ∷ []) words (table q)) (opened-whole h)
    ∙ sym (opened-first h (table_size_test words ∷ []) words (table (polynomial_of a.key)))
