use mathlib.Core.Path.{◌≡◌, refl, ap, ap₂, ◌∙◌}
use mathlib.Core.List.{List}
use Prim.Native.Nat.{ℕ, ◌+◌, ◌-◌, ◌≤◌}
use native.Mathlib.Nat.{div-one}
use native.Mathlib.Omega.{arith}
use lib.ListN.{length, take, drop}
use lib.Seq.{take-length}
use Rattle.std.specs.Int.{to_be_bytes, w64}
use Rattle.big_endian.specs.Numbers.{bytes_of}
use Rattle.big_endian.proofs.Numbers.{length-bytes_of, last-bytes, put-bytes}
use Rattle.big_endian.proofs.put.Goals as goal

eight : (x : ℕ) → to_be_bytes w64 x ≡ bytes_of 8 x
unfolding bytes_of
eight x = rw div-one refl

-- the last w of the eight
last : (w x : ℕ) → w ≤ 8 → take (8 - (8 - w)) (drop (8 - w) (to_be_bytes w64 x)) ≡ bytes_of w x
last w x h =
    let all : 8 ≡ 8 - w + w = omega arith in
    let back : 8 - (8 - w) ≡ length (bytes_of w x) = omega (arith, length-bytes_of w x) in
    ap (λ (l : List ℕ). take (8 - (8 - w)) (drop (8 - w) l)) (eight x ∙ ap (λ (n : ℕ). bytes_of n x) all)
    ∙ ap₂ (λ (n : ℕ) (l : List ℕ). take n l) back (last-bytes (8 - w) w x)
    ∙ take-length (bytes_of w x)

pub returns : goal.returns
returns c =
    let a = c.args in
    let bytes = c.copy_from_slice.ensures.after ∙ ap (λ (l : List ℕ). take (8 - (8 - a.w)) (drop (8 - a.w) l)) c.to_be_bytes.ensures
    ∙ last a.w a.x c.requires.0 in
    rw bytes (put-bytes a.bytes.now (bytes_of a.w a.x) a.at (a.at + a.w - a.at) (omega (arith, length-bytes_of a.w a.x)) (omega arith))
