-- `files::replaced_residue` meets its contract: `replaced-is`.
use mathlib.Core.Path.{sym, ap, ◌∙◌}
use Prim.Native.Nat.{ℕ}
use Rattle.gf2.specs.Polynomials.{◌⊕◌, ◌⊗◌, rem}
use Rattle.gf2.specs.Moduli.{polynomial}
use Rattle.gf2.proofs.Steps.{residue-lt}
use Rattle.files.proofs.Computing.{replaced-is}
use Rattle.files.proofs.replaced_residue.Goals as goal

pub product-requires : goal.product-requires
product-requires c =
    (c.requires.0, c.requires.2, rw c.power_of_t.ensures (residue-lt c.args.p.degree c.args.p.low c.requires.0.2 _))

pub returns : goal.returns
unfolding ◌⊕◌
returns c =
    let a = c.args in
    ap (λ (x : ℕ). a.f ⊕ x) (c.product.ensures ∙ ap (λ (t : ℕ). rem (polynomial a.p) (a.change ⊗ t)) c.power_of_t.ensures)
    ∙ sym (replaced-is a.p.degree a.p.low c.requires.0.2 a.f a.change a.after c.requires.1)
