-- The word of the key that was drawn is stored; on refusal nothing is.
use mathlib.Core.Path.{◌≡◌, sym, ap, ◌∙◌}
use Prim.Native.Nat.{ℕ}
use Rattle.refusals.specs.Refusals.{Done, number_of, value_or}
use Rattle.refusals.specs.Answers.{told}
use Rattle.acceptance.specs.declared.Key.{Key}
use Rattle.draw.specs.Drawing.{draw}
use Rattle.draw.proofs.Fairness.{answered-degree}
use Rattle.c_interface.specs.Interface.{key_at}
use Rattle.gfp_keyholder.proofs.gfp_draw.Goals as goal

-- a drawn key has the degree asked for
of_degree : (k e : ℕ) (before : Key) (x : Key) → Done x ≡ draw k e → key_at k x.word ≡ value_or before (draw k e)
of_degree k e before x d =
    ap {B = Key} (λ (n : ℕ). key_at n x.word) (sym (answered-degree k e x (sym d))) ∙ ap (value_or before) d

pub returns-in-Ok : goal.returns-in-Ok
returns-in-Ok c =
    let a = c.args in
    let e = ap told (sym c.in-Ok.is) ∙ c.draw.ensures in
    (ap number_of e, of_degree a.degree a.element (key_at a.degree a.word.now) _ e)

pub returns-in-Err : goal.returns-in-Err
returns-in-Err c =
    let a = c.args in
    let e = ap told (sym c.in-Err.is) ∙ c.draw.ensures in
    (c.number.ensures ∙ ap number_of e, ap (value_or (key_at a.degree a.word.now)) e)
