-- x is the number in the bytes so far.
use mathlib.Core.Path.{◌≡◌, refl, ap, ap₂, sym, ◌∙◌}
use mathlib.Core.List.{List}
use Prim.Native.Nat.{ℕ, ◌+◌, ◌-◌, ◌*◌, ◌^◌, ◌≤◌, ◌<◌}
use native.Mathlib.Omega.{arith}
use lib.ListN.{length, take, drop, length-take}
use lib.Pow.{pow_mono}
use lib.Seq.{take-length}
use Rattle.std.proofs.Common.{rules}
use Rattle.files.specs.Files.{bits, value_from}
use Rattle.big_endian.specs.Numbers.{number_at}
use Rattle.big_endian.proofs.Numbers.{value-more, value-front-lt, number_lt}
use Rattle.big_endian.proofs.number_at.Goals as goal

-- less than eight bytes leave room for one more
room : (x i : ℕ) (l : List ℕ) → x ≡ value_from 0 (bits (take i l)) → i < length l → length l ≤ 8 → x < 2 ^ 56
room x i l e h m = omega (arith, e, value-front-lt i l (omega arith), pow_mono {i = 8 * i} {j = 56} (omega arith))

long : (l : List ℕ) (at w : ℕ) → w ≤ 8 → length (take (at + w - at) (drop at l)) ≤ 8
long l at w h = omega (arith, length-take (at + w - at) (drop at l))

pub loop-b-init : goal.loop-b-init
unfolding value_from bits
loop-b-init c = refl

pub overflow_mul-x : goal.overflow_mul-x
overflow_mul-x c = let l = c.loop-b in omega (arith, room l.x l.b-index _ l.invariant c.loop-b-test.true (long _ c.args.at c.args.w c.requires.0))

pub overflow_add-x : goal.overflow_add-x
overflow_add-x c = let l = c.loop-b in omega (arith, room l.x l.b-index _ l.invariant c.loop-b-test.true (long _ c.args.at c.args.w c.requires.0))

pub loop-b-preserved : goal.loop-b-preserved
loop-b-preserved c =
    let l = c.loop-b in
    ap₂ (λ (x b : ℕ). x * 256 + b) l.invariant c.from.ensures ∙ sym (value-more l.b-index _ c.loop-b-test.true (search rules))

pub returns : goal.returns
unfolding number_at
returns c =
    let a = c.args in
    let l = c.loop-b in
    let e : a.at + a.w - a.at ≡ a.w = omega arith in
    let items = take (a.at + a.w - a.at) (drop a.at a.bytes.now) in
    let whole : l.b-index ≡ length items = omega arith in
    let is : l.x ≡ number_at a.at a.w a.bytes.now =
    l.invariant ∙ ap (λ (n : ℕ). value_from 0 (bits (take n items))) whole ∙ ap (λ (q : List ℕ). value_from 0 (bits q)) (take-length items)
    ∙ ap (λ (n : ℕ). value_from 0 (bits (take n (drop a.at a.bytes.now)))) e in
    (is, rw is (number_lt a.at a.w a.bytes.now c.requires.1))
