-- `file_filled` meets its contract: with no zeros behind it the fingerprint is its own residue.
use mathlib.Core.Path.{sym, ap, ◌∙◌}
use mathlib.Core.Bool.{Bool, cond}
use Prim.Native.Nat.{ℕ, ◌-◌, ◌*◌, ◌^◌}
use native.Mathlib.Nat.{mul-one}
use Rattle.gf2.specs.Polynomials.{rem}
use Rattle.gf2.specs.Moduli.{polynomial}
use Rattle.gf2.proofs.Steps.{residue-small}
use Rattle.sheet_opening.proofs.file_filled.Goals as goal

pub returns : goal.returns
returns c =
    let a = c.args in
    sym (residue-small a.p.degree a.p.low c.requires.0.2 a.f c.requires.1)
    ∙ ap (λ (n : ℕ). rem (polynomial a.p) n) (sym (mul-one a.f))
    ∙ ap (λ (b : Bool). rem (polynomial a.p) (a.f * 2 ^ cond b (a.all - a.n) 0)) (sym c.if-filled.false)
