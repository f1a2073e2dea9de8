-- `key_in` meets its contract: the two fields of a pair, or the key of the number.
use mathlib.Core.Path.{sym, ap, ap₂, ◌∙◌}
use mathlib.Core.Bool.{Bool, cond}
use Prim.Native.Nat.{ℕ}
use native.Mathlib.Omega.{arith}
use Rattle.acceptance.specs.declared.Key.{Key}
use Rattle.acceptance.specs.Keys.{key_of}
use Rattle.big_endian.specs.Numbers.{number_at}
use Rattle.sheets.specs.Layout.{key_from}
use Rattle.sheets.proofs.Keys.{pair_read, number_read}
use Rattle.sheet_heads.proofs.key_in.Goals as goal

pub returns-then-paired : goal.returns-then-paired
returns-then-paired c =
    let a = c.args in
    ap₂ {C = Key} (λ (k w : ℕ). record { degree = k; word = w }) c.number_at.ensures.0 c.number_at-then-paired.ensures.0
    ∙ pair_read a.paired 5 a.sheet.now c.if-paired.true
    (omega (arith, c.requires, ap {B = ℕ} (λ (b : Bool). cond b 9 8) c.if-paired.true))
    ∙ ap (λ (b : Bool). key_from a.paired (number_at 5 (cond b 9 8) a.sheet.now)) (sym c.if-paired.true)

pub returns : goal.returns
returns c =
    let a = c.args in
    c.key_of.ensures
    ∙ ap (λ (n : ℕ). key_of n) c.number_at-2.ensures.0
    ∙ number_read a.paired (number_at 5 8 a.sheet.now) c.if-paired.false
    ∙ ap (λ (b : Bool). key_from a.paired (number_at 5 (cond b 9 8) a.sheet.now)) (sym c.if-paired.false)
