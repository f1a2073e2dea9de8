-- `draw::draw` meets its contract: each return follows from the tests before it, and the last from `minimal_polynomial`.
use mathlib.Core.Path.{◌≡◌, sym, ap, ◌∙◌}
use mathlib.Core.Bool.{true, false, ◌||◌}
use Prim.Native.Nat.{ℕ, ◌%◌, ◌^◌, ◌<◌}
use native.Mathlib.Nat.{mod-lt}
use native.Mathlib.Omega.{arith}
use borrow.Author.Tests.{not-true, not-false, ltb-false, leb-false}
use lib.Dec.{ltb, leb}
use lib.Pow.{pow_pos}
use Rattle.gf2.specs.Polynomials.{degree, monic}
use Rattle.gf2.specs.Moduli.{Proper}
use Rattle.refusals.specs.Refusals.{Done}
use Rattle.acceptance.specs.declared.Key.{Key}
use Rattle.acceptance.specs.Keys.{key_of}
use Rattle.lists.specs.Members.{among}
use Rattle.lists.proofs.Truth.{or-neither}
use Rattle.fields.specs.Primes.{Field}
use Rattle.stock.specs.Stock.{stock_key, stock_word}
use Rattle.stock.proofs.Table.{stock_whole}
use Rattle.draw.specs.Drawing.{degrees, drawn, drawn_key, draw}
use Rattle.draw.proofs.Fairness.{range, field, key-degree}
use Rattle.draw.proofs.draw.Goals as goal
use Rattle.draw.proofs.draw.Goals.{Else-not-listed, Else-out_of_range}

-- the stock key of a listed degree, from its word
module _ (k : ℕ) (listed : among k degrees ≡ true) (w : ℕ) (is : w ≡ stock_word k) where
  whole : monic k w ≡ stock_key k
  whole = ap (monic k) is ∙ stock_whole k (omega (arith, (range k listed).0)) (omega (arith, (range k listed).1))

  proper : Proper (record { degree = k; low = w })
  unfolding stock_word
  proper = (omega (arith, (range k listed).0), omega (arith, (range k listed).1), rw is (mod-lt (stock_key k) (pow_pos k)))

  its-field : Field (monic k w) k
  its-field = rw whole (field k listed)

-- a polynomial of degree k, as the key that it is handed in as
as-key : (k p : ℕ) → degree p ≡ k → ◌≡◌ {A = Key} (record { degree = k; word = p % 2 ^ k }) (key_of p)
as-key k p e = ap {B = Key} (λ (n : ℕ). record { degree = n; word = p % 2 ^ n }) (sym e)

-- number 3 does not apply
listed : (c : Else-not-listed) → among c.args.degree degrees ≡ true
listed c = sym c.listed.ensures ∙ not-false c.listed.result c.if-not-listed.false-raw

-- number 4 does not apply
in_range : (c : Else-out_of_range) → (ltb c.args.element 2 || leb (2 ^ c.args.degree) c.args.element) ≡ false
in_range c = sym c.out_of_range.ensures ∙ c.if-out_of_range.false

element-in : (c : Else-out_of_range) → (1 < c.args.element) × (c.args.element < 2 ^ c.args.degree)
element-in c =
    let a = c.args in
    let r = or-neither (ltb a.element 2) (leb (2 ^ a.degree) a.element) (in_range c) in
    (ltb-false a.element 2 r.0, leb-false (2 ^ a.degree) a.element r.1)

pub returns-then-not-listed : goal.returns-then-not-listed
unfolding draw
returns-then-not-listed c = rw (sym c.listed.ensures ∙ not-true c.listed.result c.if-not-listed.true-raw)

pub out_of_range-requires : goal.out_of_range-requires
out_of_range-requires c = omega (arith, (range c.args.degree (listed (goal.at.out_of_range-requires c).Else-not-listed)).1)

pub returns-then-out_of_range : goal.returns-then-out_of_range
unfolding draw
returns-then-out_of_range c = rw (listed (goal.at.returns-then-out_of_range c).Else-not-listed, sym c.out_of_range.ensures ∙ c.if-out_of_range.true)

pub minimal_polynomial-polynomial-requires : goal.minimal_polynomial-polynomial-requires
minimal_polynomial-polynomial-requires c =
    let k = c.args.degree in
    let l = listed (goal.at.minimal_polynomial-polynomial-requires c).Else-not-listed in
    let w = c.stock_word-low in
    let e = element-in (goal.at.minimal_polynomial-polynomial-requires c).Else-out_of_range in
    (proper k l w.result w.ensures, omega (arith, (range k l).1), its-field k l w.result w.ensures, e.0, e.1)

pub low_bits-word-requires : goal.low_bits-word-requires
low_bits-word-requires c = omega (arith, (range c.args.degree (listed (goal.at.low_bits-word-requires c).Else-not-listed)).1)

pub returns : goal.returns
unfolding draw
returns c =
    let a = c.args in
    let k = a.degree in
    let l = listed (goal.at.returns c).Else-not-listed in
    let e = element-in (goal.at.returns c).Else-out_of_range in
    let w = c.stock_word-low in
    let drew = c.minimal_polynomial-polynomial.ensures ∙ ap (λ (f : ℕ). drawn f k a.element) (whole k l w.result w.ensures) in
    rw (l, in_range (goal.at.returns c).Else-out_of_range)
    (ap Done (ap {B = Key} (λ (v : ℕ). record { degree = k; word = v }) (c.low_bits-word.ensures ∙ ap (λ (p : ℕ). p % 2 ^ k) drew)
    ∙ as-key k (drawn_key k a.element) (key-degree k l a.element e.0 e.1)))
