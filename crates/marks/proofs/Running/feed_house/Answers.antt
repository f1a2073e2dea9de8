-- `Running::feed_house` meets its contract: under the house key no test of key and words holds; under another key it is `feed_constant`.
use mathlib.Core.Path.{◌≡◌, sym, ap, ◌∙◌}
use Rattle.acceptance.specs.Opened.{Opened}
use Rattle.acceptance.specs.Keys.{as_modulus}
use Rattle.files.specs.Files.{as_part}
use Rattle.house.proofs.House.{house-polynomial, house-opened}
use Rattle.marks.specs.Answers.{mark_in, fed_under}
use Rattle.marks.proofs.Laws.{house-clear}
use Rattle.marks.proofs.Running.feed_house.Goals as goal
use Rattle.marks.proofs.Running.feed_house.Goals.{Then-is_house}

-- the key handed in is the house key
house : (c : Then-is_house) → let key = c.args.self.key in (key.degree ≡ 61) × (key.word ≡ 0x27)
house c = let h = c.is_house.ensures c.if-is_house.true in (h.0, h.1)

opened-house : (c : Then-is_house) → let key = c.args.self.key in Opened key (as_modulus key)
opened-house c = house-opened c.args.self.key (house c).0 (house c).1

pub invariant_of-feed_alone : goal.invariant_of-feed_alone
invariant_of-feed_alone c = record { opened = opened-house (goal.at.invariant_of-feed_alone c).Then-is_house }

pub returns-then-is_house : goal.returns-then-is_house
returns-then-is_house c =
    let key = c.args.self.key in
    let h = house (goal.at.returns-then-is_house c).Then-is_house in
    c.feed_alone.ensures
    ∙ sym (ap (fed_under key) (house-clear (opened-house (goal.at.returns-then-is_house c).Then-is_house) (house-polynomial key h.0 h.1) (mark_in c.args.self)
    (as_part c.args.part.now c.args.used)))
