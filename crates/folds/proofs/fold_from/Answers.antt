-- `fold_from` meets its contract: the start's eight bytes are a block of their own.
use mathlib.Core.Path.{◌≡◌, sym, ap, ◌∙◌}
use mathlib.Core.List.{List}
use Prim.Native.Nat.{ℕ, ◌+◌, ◌-◌, ◌*◌, ◌≤◌}
use native.Mathlib.Omega.{arith}
use lib.ListN.{length, take, drop, replicate, length-drop}
use borrow.Rule.Slice.PartMut.{put_mid, same_len_mid}
use Rattle.lists.proofs.Sublists.{put_last}
use Rattle.gf2.specs.Polynomials.{rem}
use Rattle.files.specs.Files.{bits, value_from}
use Rattle.house.specs.House.{house_key}
use Rattle.fold_blocks.specs.Folds.{exponents, front, folded, Word}
use Rattle.fold_blocks.proofs.Folding.{same_start, rest_all}
use Rattle.folds.proofs.Remainders.{folded-zeros, value-digits}
use Rattle.fold_blocks.proofs.House.{house-pos, house-last, word_most}
use Rattle.folds.proofs.fold_from.Goals as goal

-- behind zeros the first block alone counts
started : (s : ℕ) → Word s → (zeros q : List ℕ) (f : ℕ) (start part : List ℕ) → length start ≡ 8 → 8 + 61 * s ≤ length q → zeros ≡ replicate (length zeros) 0
    → value_from 0 (bits start) ≡ f → folded exponents s q (length start) ≡ value_from (folded exponents s zeros 0) (bits start)
    → rem house_key (value_from (folded exponents s (drop 8 q) 0) (bits part)) ≡ rem house_key (value_from f (bits part))
started s w zeros q f start part n l z ef e =
    same_start house-pos f (folded exponents s (drop 8 q) 0) (bits part)
    (sym (house-last s w q 8 l)
    ∙ ap (rem house_key)
    (ap (folded exponents s q) (sym n)
    ∙ e
    ∙ ap (λ (x : ℕ). value_from x (bits start)) (ap (λ (x : List ℕ). folded exponents s x 0) z ∙ folded-zeros exponents s (length zeros))
    ∙ ef))

-- the list becomes d by the start, g from place 8 on by the part, and h by the sums
behind-start : (s : ℕ) → Word s → (d g h part : List ℕ) → length g ≡ length (take (length d - 8) (drop 8 d)) → 8 ≤ length d
    → let q = put_mid 8 (length d - 8) d g in
    front h (61 * s) ≡ folded exponents s (take (length q - 8) (drop 8 q)) 0
    → rem house_key (folded exponents s g 0) ≡ rem house_key (value_from (folded exponents s (take (length d - 8) (drop 8 d)) 0) (bits part))
    → rem house_key (front (drop 8 (put_mid 8 (length q - 8) q h)) (61 * s)) ≡ rem house_key (value_from (folded exponents s (drop 8 d) 0) (bits part))
behind-start s w d g h part kept l eh eg =
    let q = put_mid 8 (length d - 8) d g in
    let size : length q ≡ length d = same_len_mid 8 (length d - 8) d g kept in
    ap (λ (x : List ℕ). rem house_key (front x (61 * s))) (put_last 8 q h (omega arith))
    ∙ ap (rem house_key) (eh ∙ ap (λ (x : List ℕ). folded exponents s x 0) (rest_all q 8 ∙ put_last 8 d g l))
    ∙ eg
    ∙ ap (λ (x : List ℕ). rem house_key (value_from (folded exponents s x 0) (bits part))) (rest_all d 8)

pub divide_piece-requires : goal.divide_piece-requires
divide_piece-requires c = (c.requires.0, omega arith)

pub flatten-requires : goal.flatten-requires
flatten-requires c =
    let d = c.divide_piece in
    let g = c.fold in
    let e : length (put_mid 8 (length d.new.q - 8) d.new.q g.new.q) ≡ length d.new.q =
    same_len_mid 8 (length d.new.q - 8) d.new.q g.new.q g.auto.q in
    (word_most c.requires.0, rw (rest_all, length-drop, e) (omega arith))

pub returns : goal.returns
returns c =
    let a = c.args in
    let b = c.to_be_bytes in
    let d = c.divide_piece in
    let g = c.fold in
    let h = c.flatten in
    behind-start a.s c.requires.0 d.new.q g.new.q h.new.q a.part.now g.auto.q (omega arith) h.ensures g.ensures
    ∙ started a.s c.requires.0 a.q.now d.new.q a.f b.result a.part.now (ap length b.ensures) (omega arith) c.requires.3
    (ap (λ (x : List ℕ). value_from 0 (bits x)) b.ensures ∙ value-digits a.f (omega arith)) d.ensures
