-- `numerals::polynomial` meets its contract: below degree 64 the polynomial is a word.
use mathlib.Core.Path.{◌≡◌, sym, ap, ◌∙◌}
use mathlib.Core.List.{List, [], ◌∷◌, append-nil}
use Prim.Native.Nat.{ℕ, ◌+◌, ◌≤◌, ◌<◌}
use native.Mathlib.Omega.{arith}
use lib.ListN.{length, take}
use lib.Seq.{take-append-le}
use borrow.Author.Rules.{rules}
use Rattle.io.specs.Digits.{last_digits}
use Rattle.gf2.specs.Polynomials.{monic}
use Rattle.gf2.proofs.Steps.{shifted_one}
use Rattle.acceptance.proofs.Laws.{in_range}
use Rattle.numerals.specs.Numerals.{numeral}
use Rattle.numerals.proofs.Numerals.{numeral_64, all_sixteen}
use Rattle.numerals.proofs.polynomial.Goals as goal

pub returns-then-x-eq64 : goal.returns-then-x-eq64
returns-then-x-eq64 c =
    let x = c.args.x in
    let d = c.hex.ensures in
    let sixteen = all_sixteen x.word (omega arith) d.len in
    let digits : take 16 c.hex.new.out ≡ last_digits 16 16 x.word
    = ap (λ (k : ℕ). take k c.hex.new.out) (sym sixteen) ∙ d.digits ∙ ap (λ (k : ℕ). last_digits 16 k x.word) sixteen in
    ap (λ (l : List ℕ). 49 ∷ take 16 l) (append-nil c.copy_from_slice.new.self ∙ c.copy_from_slice.ensures.after)
    ∙ ap (λ (l : List ℕ). 49 ∷ l) digits
    ∙ (numeral_64 x.word (omega arith) ∙ ap (λ (k : ℕ). numeral 16 (monic k x.word)) (sym c.if-x-eq64.true))

pub returns : goal.returns
unfolding monic
returns c =
    let x = c.args.x in
    let h = c.hexadecimal-below in
    let below : x.degree < 64 = omega (arith, (in_range x c.requires).1, c.if-x-eq64.false) in
    let within : h.result.count ≤ length h.result.bytes = search rules in
    rw (c.copy_from_slice-2.ensures.after)
    (take-append-le h.result.count h.result.bytes (49 ∷ []) within
    ∙ h.ensures
    ∙ ap (λ (q : ℕ). numeral 16 (q + x.word)) (shifted_one x.degree below))
