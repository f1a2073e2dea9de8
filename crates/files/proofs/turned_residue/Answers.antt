-- `files::turned_residue` meets its contract: `turned-is`.
use mathlib.Core.Path.{sym, ap, ◌∙◌}
use Prim.Native.Nat.{ℕ}
use Rattle.gf2.specs.Polynomials.{◌⊕◌}
use Rattle.files.proofs.Computing.{turned-is}
use Rattle.files.proofs.turned_residue.Goals as goal

pub returns : goal.returns
unfolding ◌⊕◌
returns c =
    let a = c.args in
    ap (λ (x : ℕ). a.f ⊕ x) c.power_of_t.ensures ∙ sym (turned-is a.p.degree a.p.low c.requires.0.2 a.f a.n c.requires.1)
