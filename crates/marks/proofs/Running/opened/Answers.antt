-- `Running::opened` meets its contract: the answer of the test, with the running mark.
use mathlib.Core.Path.{◌≡◌, ap, ◌∙◌}
use Rattle.std.proofs.Common.{rules}
use Rattle.std.specs.Prelude.{Ok}
use Rattle.keys.specs.Testing.{test_key}
use Rattle.keys.proofs.Laws.{opened}
use Rattle.marks.proofs.Running.opened.Goals as goal

pub returns-in_err-p : goal.returns-in_err-p
unfolding test_key
returns-in_err-p c = search rules

pub invariant_of-result : goal.invariant_of-result
invariant_of-result c =
    let key = c.key_by_fields.ensures in
    let is : c.test.result ≡ Ok c.in_ok-p.p = search rules in
    record { opened = opened c.test.result c.args.self.key (c.test.ensures ∙ ap test_key key) c.in_ok-p.p is }

pub returns : goal.returns
unfolding test_key
returns c = search rules
