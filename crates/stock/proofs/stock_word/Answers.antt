-- The constant is the list that the checker finds, entry by entry. Outside of the list the answer is 0.
use Rattle.std.proofs.Common.{[], ◌∷◌, sym, arith}
use Rattle.lists.specs.Lists.{same}
use Rattle.lists.proofs.Lists.{same-eq}
use Rattle.stock.proofs.Searches.{no_word-below, no_word-above}
use Rattle.stock.proofs.Sieve.{left}
use Rattle.stock.proofs.Table.{divisors, words, entry-word}
use Rattle.stock.proofs.stock_word.Goals as goal

pub returns-in-8-to-64 : goal.returns-in-8-to-64
unfolding divisors left same
returns-in-8-to-64 c =
    rw (same-eq (27 ∷ 3 ∷ 9 ∷ 5 ∷ 9 ∷ 27 ∷ 33 ∷ 3 ∷ 43 ∷ 9 ∷ 9 ∷ 39 ∷ 9 ∷ 5 ∷ 3 ∷ 33 ∷ 27 ∷ 9 ∷ 27 ∷ 39 ∷ 3 ∷ 5 ∷ 3 ∷ 9 ∷ 141 ∷ 75 ∷ 27 ∷ 5 ∷ 53 ∷ 63 ∷
    99 ∷ 17 ∷ 57 ∷ 9 ∷ 39 ∷ 89 ∷ 33 ∷ 27 ∷ 3 ∷ 33 ∷ 45 ∷ 113 ∷ 29 ∷ 75 ∷ 9 ∷ 71 ∷ 125 ∷ 71 ∷ 149 ∷ 17 ∷ 99 ∷ 123 ∷ 3 ∷ 39 ∷ 105 ∷ 3 ∷ 27 ∷ []) words tt)
    (entry-word c.args.degree (omega arith) (omega arith))

pub returns-in_default : goal.returns-in_default
returns-in_default c = sym (no_word-below c.args.degree (omega arith))

pub returns-in_default-2 : goal.returns-in_default-2
returns-in_default-2 c = sym (no_word-above c.args.degree (omega arith))
