-- `known_fields` meets its contract.
use native.Mathlib.Omega.{arith}
use Rattle.sheets.proofs.Versions.{known_between, not-known}
use Rattle.sheet_layout.proofs.known_fields.Goals as goal

pub returns-in-1-to-4 : goal.returns-in-1-to-4
returns-in-1-to-4 c = (known_between c.args.version (omega arith) (omega arith), c.fields_of.ensures)

pub returns-in_default : goal.returns-in_default
returns-in_default c = not-known c.args.version (λ l h. omega arith)

pub returns-in_default-2 : goal.returns-in_default-2
returns-in_default-2 c = not-known c.args.version (λ l h. omega arith)
