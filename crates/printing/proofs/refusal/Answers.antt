-- `printing::refusal` meets its contract: the label, the number and a newline.
use mathlib.Core.Path.{ap, subst, ◌∙◌}
use mathlib.Core.List.{List, ◌++◌}
use Prim.Native.Nat.{ℕ}
use Rattle.numerals.specs.Numerals.{numeral}
use Rattle.numerals.specs.Buffers.{PutInFront}
use Rattle.printing.specs.Printing.{ascii, refused}
use Rattle.printing.proofs.refusal.Goals as goal

pub returns : goal.returns
unfolding refused ascii
returns c =
    subst (λ (digits : List ℕ). PutInFront c.args.out.now c.put.new.out c.put.result (ascii "refused " ++ digits ++ ascii "\n"))
    (c.text.ensures ∙ c.decimal-number.ensures ∙ ap (numeral 10) (c.from.ensures ∙ c.number.ensures))
    c.put.ensures
