use mathlib.Core.Path.{◌≡◌, sym, ap, ◌∙◌}
use mathlib.Core.Bool.{true≢false, false≢true}
use mathlib.Core.List.{List}
use Prim.Native.Nat.{ℕ, ◌+◌, ◌-◌, ◌*◌, ◌/◌, ◌^◌, ◌≤◌, ◌<◌}
use native.Mathlib.Nat.{lt_of_lt_of_le}
use native.Mathlib.Omega.{arith}
use borrow.Author.Tests.{eqb-true, eq-eqb, not-true, not-false}
use lib.ListN.{length, get_or}
use lib.Pow.{pow_pos, pow_mono}
use Rattle.gf2.specs.Polynomials.{◌⊗◌, rem}
use Rattle.gf2.specs.Moduli.{polynomial, Proper}
use Rattle.gf2.specs.declared.Modulus.{Modulus}
use Rattle.gf2.proofs.Monics.{monic-pos}
use Rattle.gf2.proofs.Steps.{residue-below}
use Rattle.multiples.specs.Rows.{Multiples}
use Rattle.multiples.proofs.Doubling.{row_iff_eight, eight-fold, power-half, multiple-step}
use Rattle.row_tests.proofs.row_holds.Goals as goal

-- a row of eight times n words
module _ (at w n : ℕ) (words : List ℕ) (high : 4 ≤ w) (room : at + 2 ^ w ≤ length words) (en : n ≡ 2 ^ (w - 3)) where
  half : n / 2 * 2 ≡ n
  half = rw en (power-half (w - 3) (omega arith))

  half_lt : n / 2 < 2 ^ (w - 3)
  half_lt = omega (arith, half, en, pow_pos (w - 3))

  eight : n * 2 * 2 * 2 ≡ 2 ^ w
  eight =
      let e : w - 3 + 3 ≡ w = omega arith in
      eight-fold (w - 3) n en ∙ ap (λ (b : ℕ). 2 ^ b) e

  within : at + n * 2 * 2 * 2 ≤ length words
  within = omega (arith, eight, room)

  middle-within : at + n / 2 < length words
  middle-within = omega (arith, half_lt, half, within)

  -- the first eighth is right: the multiple by n comes behind the word in its middle
  module _ (p : Modulus) (m : Proper p) (x : ℕ) (held : Multiples (polynomial p) x at (2 ^ (w - 3)) words) where
    middle : get_or words (at + n / 2) 0 ≡ rem (polynomial p) (n / 2 ⊗ x)
    middle = held (n / 2) half_lt

    once : (y : ℕ) → y ≡ rem (polynomial p) (get_or words (at + n / 2) 0 * 2 + 0) → y ≡ rem (polynomial p) (n ⊗ x)
    once y e =
        multiple-step (monic-pos p.degree p.low m.2) x (n / 2) _ y middle e
        ∙ ap (λ (z : ℕ). rem (polynomial p) (z ⊗ x)) half

pub first_holds-requires-2 : goal.first_holds-requires-2
first_holds-requires-2 c =
    let p = c.requires in
    (p.0, p.1, omega (arith, p.3, pow_mono {i = c.args.width - 3} {j = c.args.width} (omega arith)))

pub returns-then-not-first_holds : goal.returns-then-not-first_holds
returns-then-not-first_holds c =
    let f = c.first_holds-2 in (
      λ e. absurd (false≢true e),
      λ h. absurd (true≢false (sym (f.ensures.1 (λ i l. h i (lt_of_lt_of_le l (pow_mono (omega arith))))) ∙ not-true f.result c.if-not-first_holds.true-raw)),
    )

pub offset_bounds-words-at : goal.offset_bounds-words-at
offset_bounds-words-at c =
    let a = c.args in
    omega (arith, middle-within a.at a.width c.row_size-n.result a.words.now (omega arith) c.requires.3 c.row_size-n.ensures)

pub bounds-words-at : goal.bounds-words-at
bounds-words-at c =
    let a = c.args in
    middle-within a.at a.width c.row_size-n.result a.words.now (omega arith) c.requires.3 c.row_size-n.ensures

pub step-y-requires : goal.step-y-requires
step-y-requires c =
    let a = c.args in
    let n = c.row_size-n in
    let m = c.requires.0 in
    let held = c.first_holds-2.ensures.0 (not-false c.first_holds-2.result c.if-not-first_holds.false-raw) in
    (m, residue-below a.p m _ _ (middle a.at a.width n.result a.words.now (omega arith) c.requires.3 n.ensures a.p m a.x held), omega arith)

pub step-z-requires : goal.step-z-requires
step-z-requires c =
    let a = c.args in
    let n = c.row_size-n in
    let m = c.requires.0 in
    let held = c.first_holds-2.ensures.0 (not-false c.first_holds-2.result c.if-not-first_holds.false-raw) in (
      m,
      residue-below a.p m _ _ (once a.at a.width n.result a.words.now (omega arith) c.requires.3 n.ensures a.p m a.x held c.step-y.result c.step-y.ensures),
      omega arith,
    )

pub step-v-requires : goal.step-v-requires
step-v-requires c =
    let a = c.args in
    let n = c.row_size-n in
    let m = c.requires.0 in
    let pos = monic-pos a.p.degree a.p.low m.2 in
    let held = c.first_holds-2.ensures.0 (not-false c.first_holds-2.result c.if-not-first_holds.false-raw) in
    let y = once a.at a.width n.result a.words.now (omega arith) c.requires.3 n.ensures a.p m a.x held c.step-y.result c.step-y.ensures in
    (m, residue-below a.p m _ _ (multiple-step pos a.x n.result _ c.step-z.result y c.step-z.ensures), omega arith)

pub differences_of_eight-requires : goal.differences_of_eight-requires
differences_of_eight-requires c =
    let a = c.args in
    within a.at a.width c.row_size-n.result a.words.now (omega arith) c.requires.3 c.row_size-n.ensures

pub returns : goal.returns
returns c =
    let a = c.args in
    let n = c.row_size-n in
    let m = c.requires.0 in
    let d = c.differences_of_eight in
    let pos = monic-pos a.p.degree a.p.low m.2 in
    let held = c.first_holds-2.ensures.0 (not-false c.first_holds-2.result c.if-not-first_holds.false-raw) in
    let whole = eight a.at a.width n.result a.words.now (omega arith) c.requires.3 n.ensures in
    let y = once a.at a.width n.result a.words.now (omega arith) c.requires.3 n.ensures a.p m a.x held c.step-y.result c.step-y.ensures in
    let z = multiple-step pos a.x n.result _ c.step-z.result y c.step-z.ensures in
    let v = multiple-step pos a.x (n.result * 2) _ c.step-v.result z c.step-v.ensures in
    let all = row_iff_eight pos a.x a.at a.words.now (a.width - 3) n.result c.step-y.result c.step-z.result c.step-v.result n.ensures y z v in
    let first : Multiples (polynomial a.p) a.x a.at n.result a.words.now = λ i l. held i (omega (arith, n.ensures)) in (
      λ e i l. all.0 (first, d.ensures.0 (eqb-true d.result 0 e)) i (rw whole l),
      λ f. eq-eqb d.result 0 (d.ensures.1 (all.1 (λ i l. f i (rw whole at l))).1),
    )
