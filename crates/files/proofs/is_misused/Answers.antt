use mathlib.Core.Path.{◌≡◌, sym, ap, ◌∙◌}
use mathlib.Core.Bool.{not}
use Prim.Native.Nat.{ℕ, ◌-◌, ◌%◌, ◌^◌}
use native.Mathlib.Omega.{arith}
use lib.Dec.{eqb}
use lib.ListN.{length}
use Rattle.std.proofs.lemmas.Option.{slice_get_within, get_or_from_slice_get, gets}
use Rattle.std.proofs.lemmas.Grind.{common_steps}
use Rattle.files.specs.Files.{as_part}
use Rattle.files.proofs.Parts.{used-below, used-above, used-none, used-some}
use Rattle.files.proofs.is_misused.Goals as goal
use Rattle.files.proofs.is_misused.Goals.{then-used-lt1-via-then-used-lt1, then-used-lt1-via-else-used-lt1+then-used-gt8}

pub returns-then-used-lt1 : goal.returns-then-used-lt1
returns-then-used-lt1 c =
    let p = as_part c.args.part.now c.args.used in
    elim c.then-used-lt1.branch [
      | then-used-lt1-via-then-used-lt1 w ↦ sym (used-below p w.if-used-lt1.true)
      | then-used-lt1-via-else-used-lt1+then-used-gt8 w ↦ sym (used-above p w.if-used-lt1.false w.if-used-gt8.true)
    ]

pub returns-in-Some : goal.returns-in-Some
returns-in-Some c =
    let a = c.args in
    let part = a.part.now in
    let found = sym c.in-Some.ensures.value in
    let within = slice_get_within part (length part - 1) c.in-Some.last.now found in
    let last = c.low_bits.ensures ∙ ap (λ (b : ℕ). b % 2 ^ (8 - a.used)) (c.from.ensures
    ∙ sym (get_or_from_slice_get part (length part - 1) c.in-Some.last.now 0 found)) in
    ap (λ (n : ℕ). not (eqb n 0)) last ∙ sym (used-some (as_part part a.used) c.if-used-lt1.false c.if-used-gt8.false (omega (arith, within)))

pub returns-in-None : goal.returns-in-None
returns-in-None c =
    let none : length c.args.part.now ≡ 0 = grind (arith, common_steps, gets, c.in-None.ensures.value) in
    sym (used-none (as_part c.args.part.now c.args.used) c.if-used-lt1.false c.if-used-gt8.false none)
