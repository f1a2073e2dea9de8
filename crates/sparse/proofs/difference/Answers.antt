-- `difference` meets its contract: x, with what is left of the two parts behind it, stands for their difference.
use mathlib.Core.Path.{◌≡◌, ap, ◌∙◌}
use Prim.Native.Nat.{ℕ, ◌+◌, ◌-◌, ◌*◌, ◌/◌, ◌^◌, ◌<◌}
use native.Mathlib.Omega.{arith}
use lib.ListN.{take}
use Rattle.gf2.specs.Polynomials.{◌⊕◌, rem}
use Rattle.gf2.specs.Moduli.{polynomial}
use Rattle.gf2.proofs.Sums.{⊕-lt, ⊕_shr}
use Rattle.files.specs.Files.{bits, value_from}
use Rattle.big_endian.proofs.Pieces.{piece-lt}
use Rattle.sparse.proofs.Steps.{first-bytes, one_byte}
use Rattle.sparse.proofs.Differences.{cut_same, stands_apart-next}
use Rattle.sparse.proofs.difference.Goals as goal
use Rattle.sparse.proofs.difference.Goals.{After-eight_at-b}

-- the bytes that come in, of either part
old-in : (c : After-eight_at-b) → let a = c.args in c.eight_at-a.result / 2 ^ (64 - 8 * a.n) ≡ value_from 0 (bits (take a.n c.loop-olds.olds.now))
old-in c =
    first-bytes c.loop-olds.olds.now 0 c.args.n c.eight_at-a.result (omega (arith, c.requires.0.2)) (omega arith)
    c.eight_at-a.ensures

new_in : (c : After-eight_at-b) → let a = c.args in c.eight_at-b.result / 2 ^ (64 - 8 * a.n) ≡ value_from 0 (bits (take a.n c.loop-olds.news.now))
new_in c =
    first-bytes c.loop-olds.news.now 0 c.args.n c.eight_at-b.result (omega (arith, c.requires.0.2)) (omega (arith, c.loop-olds.invariant.0))
    c.eight_at-b.ensures

pub behind-x-requires : goal.behind-x-requires
unfolding ◌⊕◌
behind-x-requires c =
    let l = c.loop-olds in
    let a = c.args in
    let k = 64 - 8 * a.n in
    let u = c.eight_at-a.result in
    let v = c.eight_at-b.result in (
      c.requires.0,
      l.invariant.1.0,
      below (⊕_shr k u v)
          (⊕-lt (8 * a.n) (u / 2 ^ k) (v / 2 ^ k) (piece-lt l.olds.now 0 a.n _ (omega (arith, c.requires.0.2)) (old-in c))
          (piece-lt l.news.now 0 a.n _ (omega (arith, c.requires.0.2, l.invariant.0)) (new_in c))),
    )
  where
    below : {x y b : ℕ} → x ≡ y → y < b → x < b
    below e h = rw e h

pub loop-olds-preserved : goal.loop-olds-preserved
unfolding ◌⊕◌
loop-olds-preserved c =
    let l = c.loop-olds in
    let a = c.args in
    let k = 64 - 8 * a.n in
    let u = c.eight_at-a.result in
    let v = c.eight_at-b.result in (
      cut_same l.olds.now l.news.now a.n l.invariant.0,
      stands_apart-next a.p c.requires.0.0 0 a.old.now a.new.now l.x l.olds.now l.news.now l.invariant.0 l.invariant.1 a.n (u / 2 ^ k) (v / 2 ^ k)
          c.behind-x.result
          (omega (arith, c.requires.0.2)) (old-in (goal.at.loop-olds-preserved c).After-eight_at-b) (new_in (goal.at.loop-olds-preserved c).After-eight_at-b)
          (c.behind-x.ensures ∙ ap (λ (z : ℕ). rem (polynomial a.p) (l.x * 2 ^ (8 * a.n) + z)) (⊕_shr k u v)),
    )

pub difference_ones-requires : goal.difference_ones-requires
difference_ones-requires c =
    let l = c.loop-olds in
    (one_byte c.args.p c.args.n c.requires.0, l.invariant.1.0, l.invariant.0)
