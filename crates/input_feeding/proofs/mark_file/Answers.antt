-- `input_feeding::mark_file` meets its contract: what is read behind the first bytes, or their refusal.
use borrow.Author.Rules.{rules}
use Rattle.input_feeding.proofs.Feeds.{refused-marked, rest_marked}
use Rattle.input_feeding.proofs.mark_file.Goals as goal

pub returns-in-Ok : goal.returns-in-Ok
returns-in-Ok c =
    let f = c.in-Ok.ensures in
    rest_marked _ c.args.first.now f.0 f.1 _ _ f.2 (search rules) c.args.input _ c.feed_rest.result f.3 c.feed_rest.ensures

pub returns-in-Err : goal.returns-in-Err
returns-in-Err c = refused-marked _ c.args.first.now c.args.input _ c.in-Err.ensures
