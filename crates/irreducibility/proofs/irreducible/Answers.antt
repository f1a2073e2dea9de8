use mathlib.Core.Path.{◌≡◌, sym, ap, ◌∙◌}
use mathlib.Core.Bool.{Bool, true, false≢true}
use mathlib.Core.Logic.{◌↔◌}
use mathlib.Core.List.{List, ◌++◌}
use Prim.Native.Nat.{ℕ, ◌+◌, ◌-◌, ◌*◌, ◌/◌, ◌^◌, ◌≤◌, ◌<◌}
use native.Mathlib.Nat.{le_refl}
use native.Mathlib.Omega.{arith}
use Rattle.std.proofs.Common.{rules}
use lib.ListN.{length, take, drop, length-take, get_or, replicate}
use Rattle.gf2.specs.Polynomials.{◌⊕◌, degree}
use Rattle.gf2.specs.Moduli.{polynomial, Proper}
use Rattle.gf2.specs.declared.Modulus.{Modulus}
use Rattle.lists.specs.Lists.{list_from}
use Rattle.gf2.proofs.Monics.{monic-degree, of_degree-one}
use Rattle.gf2.proofs.Steps.{shifted_one}
use Rattle.acceptance.specs.Keys.{reducible}
use Rattle.basis.specs.Rows.{Independent}
use Rattle.irreducibility.specs.Squares.{square, odd_part, folded, square_rows, difference_rows}
use Rattle.irreducibility.proofs.Decision.{irreducible-squares, irreducible_differences, both-irreducible, squares-made, differences_made, by_test}
use Rattle.irreducibility.proofs.Filling.{front-values}
use Rattle.irreducibility.proofs.irreducible.Goals as goal

-- the polynomial and its degree
record Known (key k : ℕ) : Type 0 where
  proper : 1 < key
  is : k ≡ degree key
  low : 0 < k
  high : k ≤ 64

known : (p : Modulus) → Proper p → Known (polynomial p) p.degree
known p m = record { proper = of_degree-one p.degree p.low m.0 m.2; is = sym (monic-degree p.degree p.low m.2); low = m.0; high = m.1 }

-- what the two tests decide, on an array with the squares in front
module _ {key k : ℕ} (d : Known key k) {rows : List ℕ} (are : rows ≡ list_from (square key) (k - k / 2) (k / 2)) (rest : List ℕ) where
  abbrev made : List ℕ
  made = rows ++ rest

  abbrev thirds : ℕ
  thirds = 2 * k / 3 + 1 - (k - k / 2)

  squares-are : (m : ℕ) → m ≤ k / 2 → take m made ≡ list_from (square key) (k - k / 2) m
  squares-are m h = ap (λ (l : List ℕ). take m (l ++ rest)) are ∙ front-values (square key) (k - k / 2) m (k / 2) rest h

  first : {r : Bool} → ((r ≡ true) ↔ Independent (list_from (λ i. odd_part (get_or (take thirds made) i 0)) 0 (length (take thirds made))))
      → (r ≡ true) ↔ Independent (square_rows key (k - k / 2) thirds)
  first i = rw (squares-made key (k - k / 2) thirds (take thirds made) (squares-are thirds (omega (arith, d.low)))) at i

  second : {r : Bool} → ((r ≡ true) ↔ Independent (list_from (λ i. folded 6 (get_or (take (k / 2) made) i 0 ⊕ 2 ^ (k - k / 2 + i))) 0
      (length (take (k / 2) made))))
      → (r ≡ true) ↔ Independent (difference_rows key (k - k / 2) (k / 2))
  second i = rw (differences_made key (k - k / 2) (k / 2) (take (k / 2) made) (squares-are (k / 2) (le_refl (k / 2)))) at i

pub returns-then-independent_values : goal.returns-then-independent_values
unfolding ◌⊕◌
returns-then-independent_values c =
    let p = c.args.p in
    let key = polynomial p in
    let k = p.degree in
    let d = known p c.requires in
    let one = (first d c.square_rows.ensures _ (c.independent_values.ensures.0 (λ i x. odd_part x) (λ i x y h l e. search rules))).0
    c.if-independent_values.true in
    let two = second d c.square_rows.ensures _ (c.independent_values-then-independent_values.ensures.0 (λ i x. folded 6 (x ⊕ 2 ^ (k - k / 2 + i)))
    (λ i x y h l e. let power = shifted_one (k - k / 2 + i) (omega (
      arith,
      length-take (k / 2) (made d c.square_rows.ensures (drop (k / 2) (replicate 32 0))),
      d.high,
    )) in
    search (rules, power))) in
    by_test (reducible key) c.independent_values-then-independent_values.result
    (λ t. both-irreducible key k d.proper d.is d.low d.high one (two.0 t))
    (λ e. two.1 (irreducible_differences key k d.proper d.is d.low d.high e))

pub returns-else-independent_values : goal.returns-else-independent_values
returns-else-independent_values c =
    let p = c.args.p in
    let key = polynomial p in
    let d = known p c.requires in
    let one = first d c.square_rows.ensures _ (c.independent_values.ensures.0 (λ i x. odd_part x) (λ i x y h l e. search rules)) in
    by_test (reducible key) c.independent_values.result (λ t. absurd (false≢true (sym c.if-independent_values.false ∙ t)))
    (λ e. one.1 (irreducible-squares key p.degree d.proper d.is d.low d.high e))
