-- `put_head` meets its contract: one field behind the other.
use mathlib.Core.Path.{◌≡◌, sym, ap, ◌∙◌}
use mathlib.Core.Bool.{true}
use Prim.Native.Nat.{ℕ, ◌^◌, ◌<◌}
use native.Mathlib.Omega.{arith}
use lib.Seq.{sets}
use Rattle.big_endian.specs.Numbers.{bytes_of}
use Rattle.big_endian.proofs.Numbers.{store_field, store_none}
use Rattle.sheets.specs.Layout.{Layout, newest, layout_of}
use Rattle.sheets.proofs.Keys.{store_pair}
use Rattle.sheets.proofs.Versions.{newest-is}
use Rattle.sheet_layout.proofs.Laid.{place_laid, key-wide}
use Rattle.sheet_heads.proofs.put_head.Goals as goal
use Rattle.sheet_heads.proofs.put_head.Goals.{After-newest-v}

-- the key is a pair
paired : (layout_of newest.version).paired ≡ true
paired = ap (λ (v : Layout). v.paired) newest-is

wide : (c : After-newest-v) → c.newest-v.result.key ≡ 9
wide c = let h = c.newest-v.ensures in key-wide h true (sym h.paired ∙ paired)

pub put-requires-4 : goal.put-requires-4
put-requires-4 c = (
  omega arith,
  omega (
    arith,
    c.requires,
    place_laid c.newest-v.ensures,
    wide (goal.at.put-requires-4 c).After-newest-v,
    c.put-3.auto.bytes,
    c.put-2.auto.bytes,
    c.put.auto.bytes,
  ),
)

pub returns : goal.returns
returns c =
    let key = c.args.key in
    let small : key.word < 2 ^ 64 = omega arith in
    let degree = c.put-3.ensures ∙ ap (λ (n : ℕ). sets c.put-2.new.bytes 5 (bytes_of 1 n)) c.from.ensures in
    let pair = store_pair (layout_of newest.version).paired key _ 5 _ _ _ paired (wide (goal.at.returns c).After-newest-v) small degree c.put-4.ensures in
    let length = rw c.length_place.ensures at c.put-5.ensures in
    let size = rw c.size_place.ensures at c.put-6.ensures in
    rw (c.newest-v.ensures.widths, c.newest-v.ensures.unit)
    (store_field _ _ _ _ _ _ _ _ c.put.ensures
    (store_field _ _ _ _ _ _ _ _ c.put-2.ensures
    (store_field _ _ _ _ _ _ _ _ pair
    (store_field _ _ _ _ _ _ _ _ length (store_field _ _ _ _ _ _ _ _ size (store_none _ _ _))))))
