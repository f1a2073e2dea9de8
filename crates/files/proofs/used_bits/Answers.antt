use mathlib.Core.Path.{sym, ◌∙◌}
use mathlib.Core.Logic.{inl, inr}
use native.Mathlib.Omega.{arith}
use Rattle.files.proofs.Parts.{used-is, used-outside}
use Rattle.files.proofs.used_bits.Goals as goal

pub returns-in-1-to-8 : goal.returns-in-1-to-8
returns-in-1-to-8 c = (c.from.ensures ∙ sym (used-is c.args.used (omega arith) (omega arith)), omega (arith, c.from.ensures))

pub returns-in_default : goal.returns-in_default
returns-in_default c = (sym (used-outside c.args.used (inl (omega arith))), omega arith)

pub returns-in_default-2 : goal.returns-in_default-2
returns-in_default-2 c = (sym (used-outside c.args.used (inr (omega arith))), omega arith)
