-- `residue` meets its contract.
use mathlib.Core.Path.{◌≡◌, ap, ◌∙◌}
use Prim.Native.Nat.{ℕ, ◌+◌, ◌*◌, ◌/◌, ◌%◌, ◌^◌, ◌<◌}
use native.Mathlib.Nat.{lt_of_lt_of_le}
use native.Mathlib.Omega.{arith}
use lib.Pow.{pow_mono}
use Rattle.gf2.specs.Polynomials.{rem}
use Rattle.gf2.specs.Moduli.{polynomial}
use Rattle.gf2.proofs.Powers.{rem-behind}
use Rattle.gf2.proofs.Monics.{monic-pos}
use Rattle.gf2.proofs.Steps.{residue-lt}
use Rattle.lookups.proofs.KeyTable.residue.Goals as goal

-- the residue of the high half may stand for it
halves : {key : ℕ} (pos : 0 < key) (x : ℕ) → rem key (rem key (0 * 2 ^ 32 + x / 4294967296) * 2 ^ 32 + x % 4294967296) ≡ rem key x
halves {key} pos x =
    let h = x / 4294967296 in
    let v = x % 4294967296 in
    let z : 0 * 2 ^ 32 + h ≡ h = omega arith in
    let e : h * 2 ^ 32 + v ≡ x = omega arith in
    ap (λ (y : ℕ). rem key (rem key y * 2 ^ 32 + v)) z ∙ rem-behind pos h 32 v (omega arith) ∙ ap (rem key) e

pub feed_byte-requires : goal.feed_byte-requires
feed_byte-requires c =
    let h : c.args.x / 256 < 2 ^ 56 = omega arith in
    lt_of_lt_of_le h (pow_mono {i = 56} {j = c.args.self.p.degree} c.if-k-ge56.true)

pub feed_four-requires : goal.feed_four-requires
feed_four-requires c =
    let h : c.args.x / 4294967296 < 2 ^ 32 = omega arith in
    (lt_of_lt_of_le h (pow_mono {i = 32} {j = c.args.self.p.degree} c.if-k-ge32.true), omega arith)

pub feed_four-requires-2 : goal.feed_four-requires-2
feed_four-requires-2 c =
    let p = c.args.self.p in
    (rw c.feed_four-f.ensures (residue-lt p.degree p.low c.args.self.holds.0.2 _), omega arith)

pub returns : goal.returns
returns c =
    let a = c.args in
    let p = a.self.p in
    let key = polynomial p in
    c.feed_four-2.ensures
    ∙ ap (λ (f : ℕ). rem key (f * 2 ^ 32 + a.x % 4294967296)) c.feed_four-f.ensures
    ∙ halves (monic-pos p.degree p.low a.self.holds.0.2) a.x
