-- `numerals::put` meets its contract: the texts so far stand at the front of the buffer.
use Rattle.std.proofs.Common.{◌≡◌, length, take, flat_map}
use Rattle.numerals.specs.Buffers.{put_at}
use Rattle.numerals.proofs.put.Given as goal

abbrev pub invariant-loop-text : goal.invariant-loop-text
invariant-loop-text l =
    let so_far = flat_map (λ text. text.now) (take l.text-index l.texts) in
    (l.count ≡ length so_far) × (l.out ≡ put_at l.initial.out 0 so_far)
