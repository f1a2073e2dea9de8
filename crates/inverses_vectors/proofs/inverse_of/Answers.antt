-- The key was accepted, so that it is irreducible; the residue is below it and not 0.
use mathlib.Core.Path.{sym, ◌∙◌}
use Prim.Native.Nat.{◌^◌}
use native.Mathlib.Omega.{arith}
use lib.Dec.{leb}
use borrow.Author.Tests.{not-true, leb-false}
use Rattle.acceptance.specs.Opened.{Opened}
use Rattle.acceptance.proofs.Opened.{opened-proper, opened-eight, opened-irreducible}
use Rattle.keys.proofs.Laws.{opened}
use Rattle.inverses_vectors.proofs.inverse_of.Goals as goal
use Rattle.inverses_vectors.proofs.inverse_of.Goals.{In-Ok}

key-opened : (c : In-Ok) → Opened c.args.key c.in-Ok.p
key-opened c =
    let t = c.test in
    opened t.result c.args.key t.ensures _ c.in-Ok.is

pub is_residue-requires : goal.is_residue-requires
is_residue-requires c = opened-proper (key-opened (goal.at.is_residue-requires c).In-Ok)

pub inverse-requires : goal.inverse-requires
inverse-requires c =
    let o = key-opened (goal.at.inverse-requires c).In-Ok in
    let a = c.args.a in (
      opened-proper o,
      omega (arith, opened-eight o),
      opened-irreducible o,
      c.if-a-gt0.true,
      leb-false (2 ^ c.in-Ok.p.degree) a
          (not-true (leb (2 ^ c.in-Ok.p.degree) a) (sym c.is_residue.ensures ∙ c.if-is_residue.true)),
    )
