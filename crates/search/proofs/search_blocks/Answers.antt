-- `search_blocks` meets its contract. The loop's invariant: of the windows before `from` all places and false alarms are found,
-- and g is the residue of the next window. The measure is the number of windows that are left.
use mathlib.Core.Path.{◌≡◌, ap, ◌∙◌}
use mathlib.Core.List.{List}
use Prim.Native.Nat.{ℕ, ◌+◌, ◌-◌, ◌≤◌}
use native.Mathlib.Omega.{arith}
use lib.ListN.{length}
use lib.Seq.{sets}
use Rattle.gf2.proofs.Monics.{monic-pos}
use Rattle.search.specs.Searching.{windows, is_place, is_alarm}
use Rattle.rolling.specs.Rolling.{key_of}
use Rattle.comparing.proofs.Numbers.{tally_block, tally_end, passing-length}
use Rattle.search.proofs.Blocks.{flagged-places, flagged-alarms, all_found}
use Rattle.search.proofs.search_blocks.Goals as goal

-- the number of windows as the code counts them
windows-is : (t q : List ℕ) (m : ℕ) → m ≡ length q → length q ≤ length t → length t - m + 1 ≡ windows t q
unfolding windows
windows-is t q m e h = omega arith

pub loop-from-preserved : goal.loop-from-preserved
loop-from-preserved c =
    let w = c.args.w in
    let l = c.loop-from in
    let t = w.text.now in
    let q = c.args.pattern.now in
    let e = c.requires.0 in
    let block = c.flag_block-b in
    let size = block.result.size in
    let b = block.ensures in
    let found = c.compare-found.ensures in
    let pos = monic-pos w.modulus.degree w.modulus.low w.ready.reduce.0.2 in
    let fits : l.from + size + length q ≤ length t + 1 = omega (arith, b.2, e) in
    let ps = flagged-places w q l.from size _ pos e c.requires.1 fits b.4.flags in
    let fs = flagged-alarms w q l.from size _ pos e c.requires.1 fits b.4.flags in
    let np = found.0 ∙ ap (λ x. l.found.places + length x) ps in
    let na = found.1 ∙ ap (λ x. l.found.alarms + length x) fs in (
      omega (arith, fits),
      omega (arith, np, passing-length (is_place t q) (0 + l.from) size, l.invariant.1),
      omega (arith, na, passing-length (is_alarm (key_of w) t q) (0 + l.from) size, l.invariant.2),
      (λ h. b.4.next (omega (arith, h, e))),
      tally_block l.invariant.4 _ size _ _ (omega (arith, fits)) (found.2 ∙ ap (sets l.places l.found.places) ps) np na,
    )

pub returns : goal.returns
returns c =
    let w = c.args.w in
    let t = w.text.now in
    let q = c.args.pattern.now in
    let l = c.loop-from in
    all_found (key_of w) t q c.args.places.now l.places l.found (length t - w.m + 1) (windows-is t q w.m c.requires.0 c.requires.3)
    (tally_end l.invariant.4 (omega (arith, l.invariant.0, c.loop-from-test.false)))
