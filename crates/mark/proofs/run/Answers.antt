-- `mark::run` meets its contract: the head, and the answer behind it.
use Rattle.mark.proofs.Texts.{head-answered}
use Rattle.mark.proofs.run.Goals as goal

pub returns : goal.returns
returns c =
    head-answered c.args.input c.read_head-count.new.head c.read_head-count.result c.read_head-count.ensures _ _ c.answer.result c.answer.ensures
