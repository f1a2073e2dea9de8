-- `feed_constant` meets its contract: it is `feed_table` by the constant words.
use mathlib.Core.Path.{ap, ◌∙◌}
use mathlib.Core.List.{List}
use Prim.Native.Nat.{ℕ}
use Rattle.files.specs.Files.{as_part}
use Rattle.marks.specs.Feeding.{feed_table, feed_house}
use Rattle.marks.specs.Answers.{mark_in, fed_under}
use Rattle.marks.proofs.feed_constant.Goals as goal

pub returns : goal.returns
unfolding feed_house
returns c =
    let a = c.args in
    c.feed_table.ensures
    ∙ ap (λ (ws : List ℕ). fed_under a.m.key (feed_table a.m.key (mark_in a.m) ws (as_part a.part.now a.used)))
    c.words-words.ensures
