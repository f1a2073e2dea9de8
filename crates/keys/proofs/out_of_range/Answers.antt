-- `out_of_range` meets its contract: the three tests of number 1 in turn.
use mathlib.Core.Path.{◌≡◌, sym}
use mathlib.Core.Bool.{Bool, not, not-not}
use Prim.Native.Nat.{◌^◌, ◌≤◌}
use native.Mathlib.Omega.{arith}
use lib.Dec.{leb}
use lib.Pow.{pow_pos}
use borrow.Author.Tests.{lt-ltb, le-ltb}
use Rattle.acceptance.specs.declared.Key.{Key}
use Rattle.acceptance.specs.Keys.{outside}
use Rattle.keys.proofs.out_of_range.Goals as goal

-- in range the word decides
by_word : (x : Key) (r : Bool) → 8 ≤ x.degree → x.degree ≤ 64 → r ≡ not (leb (2 ^ x.degree) x.word) → not r ≡ outside x
by_word x r lo hi e = rw (e, le-ltb x.degree 8 lo, le-ltb 64 x.degree hi) (not-not (leb (2 ^ x.degree) x.word))

pub returns-then-k-lt8 : goal.returns-then-k-lt8
returns-then-k-lt8 c = sym (rw (lt-ltb c.args.key.degree 8 c.if-k-lt8.true))

pub returns-then-k-gt64 : goal.returns-then-k-gt64
returns-then-k-gt64 c =
    let k = c.args.key.degree in
    sym (rw (le-ltb k 8 c.if-k-lt8.false, lt-ltb 64 k c.if-k-gt64.true))

pub is_residue-requires : goal.is_residue-requires
is_residue-requires c = (omega (arith, c.if-k-lt8.false), omega (arith, c.if-k-gt64.false), pow_pos c.args.key.degree)

pub returns : goal.returns
returns c =
    by_word c.args.key c.is_residue.result c.if-k-lt8.false c.if-k-gt64.false c.is_residue.ensures
