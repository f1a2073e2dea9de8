-- Degree 11, element 3: modulo the stock key 0x805, the polynomial 0xF0B is 0 at 3, and it is the only one of degree 11.
use mathlib.Core.Path.{◌≡◌, refl, sym, ap, ◌∙◌}
use Prim.Native.Nat.{ℕ}
use native.Mathlib.Omega.{arith}
use Rattle.gf2.specs.Polynomials.{◌⊕◌, halvings, degree, monic, reduce, long_division, rem, long_product, ◌⊗◌}
use Rattle.refusals.specs.Refusals.{Done}
use Rattle.acceptance.specs.Keys.{key_of}
use Rattle.stock.specs.Stock.{stock_key}
use Rattle.stock.proofs.Sieve.{left}
use Rattle.stock.proofs.Table.{divisors, stock_whole, entry-word}
use Rattle.fields.specs.Fields.{terms, compose, at}
use Rattle.lists.specs.Members.{among}
use Rattle.draw.specs.Drawing.{draw}
use Rattle.draw.proofs.Fairness.{key-only}

stock_11 : stock_key 11 ≡ 0x805
unfolding divisors left monic
stock_11 = sym (stock_whole 11 (omega arith) (omega arith)) ∙ ap (monic 11) (sym (entry-word 11 (omega arith) (omega arith)))

root : at 0x805 0xF0B 3 ≡ 0
unfolding at compose terms long_product ◌⊗◌ rem long_division reduce degree halvings ◌⊕◌
root = refl

pub drawn_by_3 : draw 11 3 ≡ Done (key_of 0xF0B)
unfolding draw among
drawn_by_3 =
    ap (λ (p : ℕ). Done (key_of p))
    (key-only 11 refl 3 (omega arith) (omega arith) 0xF0B (record { of_degree = refl; root = ap (λ (f : ℕ). at f 0xF0B 3) stock_11 ∙ root }))
