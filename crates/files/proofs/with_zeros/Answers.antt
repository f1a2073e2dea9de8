-- `files::with_zeros` meets its contract.
use Rattle.gf2.proofs.Monics.{monic-pos}
use Rattle.gf2.proofs.Powers.{rem-⊗-pow}
use Rattle.gf2.proofs.Steps.{residue-lt}
use Rattle.files.proofs.with_zeros.Goals as goal

pub product-requires : goal.product-requires
product-requires c =
    (c.requires.0, c.requires.1, rw c.power_of_t.ensures (residue-lt c.args.p.degree c.args.p.low c.requires.0.2 _))

pub returns : goal.returns
returns c =
    let a = c.args in
    rw (c.product.ensures, c.power_of_t.ensures) (rem-⊗-pow (monic-pos a.p.degree a.p.low c.requires.0.2) a.f a.n)
