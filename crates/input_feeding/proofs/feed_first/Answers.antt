-- `input_feeding::feed_first` meets its contract, call by call.
use mathlib.Core.Path.{◌≡◌}
use borrow.Author.Rules.{rules}
use Rattle.std.proofs.lemmas.Result.{err_from_is_err_and}
use Rattle.refusals.specs.Refusals.{Done}
use Rattle.marks.specs.Feeding.{begin}
use Rattle.marks.specs.Answers.{begun_under}
use Rattle.input_feeding.proofs.Feeds.{begun-refused, made_always, first-refused}
use Rattle.input_feeding.proofs.feed_first.Goals as goal
use Rattle.input_feeding.proofs.feed_first.Goals.{In_ok-m}

begun-is : (c : In_ok-m) → Done c.in_ok-m.m ≡ begun_under c.args.key (begin c.args.key)
begun-is c = c.in_ok-m.ensures

pub returns-in_err-m : goal.returns-in_err-m
returns-in_err-m c =
    let p = err_from_is_err_and c.from_residual.result c.from_residual.ensures.1 in
    rw (p.1, p.2) (begun-refused _ c.args.first.now _ c.in_err-m.ensures)

pub returns-in_err-make : goal.returns-in_err-make
returns-in_err-make c =
    absurd (made_always _ c.args.first.now _ (begun-is (goal.at.returns-in_err-make c).In_ok-m) _ c.make.new.words _ c.in_err-make.ensures (search rules))

pub returns-in_err-feed_table : goal.returns-in_err-feed_table
returns-in_err-feed_table c =
    let p = err_from_is_err_and c.from_residual-in_err-feed_table.result c.from_residual-in_err-feed_table.ensures.1 in
    rw (p.1, p.2)
    (first-refused _ c.args.first.now _ (begun-is (goal.at.returns-in_err-feed_table c).In_ok-m) _ _ c.in_ok-make.ensures (search rules) _ _
    c.in_err-feed_table.ensures)
