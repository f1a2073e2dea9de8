-- `bytes_alone` meets its contract, by each of the three ways.
use mathlib.Core.Path.{sym, ap, subst, ◌∙◌}
use Prim.Native.Nat.{ℕ, ◌^◌, ◌<◌}
use Rattle.gf2.specs.Polynomials.{rem}
use Rattle.files.specs.Files.{bits, value_from}
use Rattle.feeding.proofs.bytes_alone.Goals as goal

pub fed_house-requires : goal.fed_house-requires
fed_house-requires c =
    subst (λ (k : ℕ). c.args.f < 2 ^ k) (c.is_house.ensures c.if-is_house.true).0 c.requires.1

pub returns-then-is_house : goal.returns-then-is_house
returns-then-is_house c =
    let a = c.args in
    let e = (c.is_house.ensures c.if-is_house.true).2 in
    c.fed_house.ensures ∙ ap (λ (p : ℕ). rem p (value_from a.f (bits a.part.now))) (sym e)
