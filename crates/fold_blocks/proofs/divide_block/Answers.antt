-- `divide_block` meets its contract: what the words from the i-th piece on stand for, with the bytes from there on behind it,
-- has the residue of the whole.
use mathlib.Core.Path.{◌≡◌, sym, ap, ◌∙◌}
use mathlib.Core.List.{List}
use Prim.Native.Nat.{ℕ, ◌+◌, ◌-◌, ◌*◌, ◌/◌, ◌≤◌}
use native.Mathlib.Omega.{arith}
use lib.ListN.{length, take, drop, length-drop}
use lib.Seq.{drop-drop, length-take-le}
use borrow.Rule.Slice.PartMut.{put_mid, same_len_mid}
use Rattle.lists.proofs.Sublists.{put_last}
use Rattle.gf2.specs.Polynomials.{rem}
use Rattle.files.specs.Files.{bits, value_from}
use Rattle.house.specs.House.{house_key}
use Rattle.fold_blocks.specs.Folds.{exponents, folded, Word}
use Rattle.fold_blocks.proofs.Folding.{block-fed, nothing_left, rest_all}
use Rattle.fold_blocks.proofs.House.{house-pos, house-last}
use Rattle.fold_blocks.proofs.divide_block.Goals as goal

-- a piece from place i to place b, by which the list from place i on becomes r
piece : (s : ℕ) → Word s → (q src r : List ℕ) (i b : ℕ) → i ≤ b → b ≤ length src → length src + 61 * s ≤ length q
    → length r ≡ length (take (length q - i) (drop i q))
    → folded exponents s r (length (take (b - i) (drop i src)))
    ≡ value_from (folded exponents s (take (length q - i) (drop i q)) 0) (bits (take (b - i) (drop i src)))
    → rem house_key (value_from (folded exponents s (drop b (put_mid i (length q - i) q r)) 0) (bits (drop b src)))
    ≡ rem house_key (value_from (folded exponents s (drop i q) 0) (bits (drop i src)))
piece s w q src r i b l m h len e =
    block-fed house-pos src i b (folded exponents s (drop i q) 0) (folded exponents s (drop b (put_mid i (length q - i) q r)) 0) l
    (ap (λ (x : List ℕ). rem house_key (folded exponents s x 0)) behind
    ∙ sym (house-last s w r (b - i) (omega (arith, len, ap length (rest_all q i), length-drop i q)))
    ∙ ap (rem house_key)
    (ap (folded exponents s r) (sym size)
    ∙ e
    ∙ ap (λ (x : List ℕ). value_from (folded exponents s x 0) (bits (take (b - i) (drop i src)))) (rest_all q i)))
  where
    size : length (take (b - i) (drop i src)) ≡ b - i
    size = length-take-le (b - i) (drop i src) (rw length-drop (omega arith))

    behind : drop b (put_mid i (length q - i) q r) ≡ drop (b - i) r
    behind =
        let e : b ≡ i + (b - i) = omega arith in
        ap (λ (j : ℕ). drop j (put_mid i (length q - i) q r)) e
        ∙ sym (drop-drop (b - i) i (put_mid i (length q - i) q r))
        ∙ ap (drop (b - i)) (put_last i q r (omega arith))

pub loop-i-preserved : goal.loop-i-preserved
loop-i-preserved c =
    let a = c.args in
    let l = c.loop-i in
    let d = c.divide_piece in
    let at = 64 * l.i in
    let n = length a.src.now in
    let h : at + 64 ≤ n = omega arith in
    let e : at + 64 ≡ 64 * (l.i + 1) = omega arith in (
      same_len_mid at (length l.q - at) l.q d.new.q d.auto.q ∙ l.invariant.0,
      rw e at (piece a.s c.requires.0 l.q a.src.now d.new.q at (at + 64) (omega arith) (omega arith) (omega (arith, l.invariant.0, c.requires.1))
          d.auto.q
          d.ensures)
          ∙ l.invariant.1,
    )

pub returns : goal.returns
returns c =
    let a = c.args in
    let l = c.loop-i in
    let d = c.divide_piece-2 in
    let n = length a.src.now in
    let at = 64 * (n / 64) in
    let e : l.i ≡ n / 64 = omega arith in
    sym (nothing_left house_key (folded exponents a.s (drop n (put_mid at (length l.q - at) l.q d.new.q)) 0) a.src.now n (omega arith))
    ∙ piece a.s c.requires.0 l.q a.src.now d.new.q at n (omega arith) (omega arith) (omega (arith, l.invariant.0, c.requires.1)) d.auto.q
    d.ensures
    ∙ (rw e at l.invariant.1)
