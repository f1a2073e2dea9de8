-- `join_lanes` meets its contract: what is joined behind the four marks, and behind the bits, are the fields of each lane from the i-th on.
use mathlib.Core.Path.{◌≡◌, sym, ◌∙◌}
use Prim.Native.Nat.{ℕ, ◌+◌, ◌-◌, ◌*◌, ◌<◌}
use native.Mathlib.Omega.{arith}
use lib.ListN.{get_or}
use Rattle.gf2.specs.Polynomials.{◌⊕◌}
use Rattle.lookups.specs.Groups.{looked}
use Rattle.big_endian.specs.Numbers.{number_at, numbers_at}
use Rattle.sheet_joining.specs.Joining.{looping}
use Rattle.sheet_joining.proofs.Joining.{looping-next, looping-done, bits-four, bits-four-done}
use Rattle.sheet_joining.proofs.join_lanes.Goals as goal

pub loop-i-preserved : goal.loop-i-preserved
unfolding number_at
loop-i-preserved c =
    let e = c.eight_at-e in
    let f = c.eight_at-f in
    let g = c.eight_at-g in
    let h = c.eight_at-h in
    let l = c.loop-i in
    let a = c.args in
    let shift = a.shift.now in
    let bytes = a.fields.now in
    let lane = 8 * a.q in
    let i = 8 * l.i in
    let left = a.q - l.i in
    let more : 0 < left = omega arith in
    let next : (x place g y : ℕ) → g ≡ number_at place 8 bytes → y ≡ looked 8 shift 8 0 x ⊕ g ⊕ get_or shift 1 0
    → looping shift y (numbers_at (place + 8) 8 (left - 1) bytes) ≡ looping shift x (numbers_at place 8 left bytes) =
    λ x place g y eg ey. sym (looping-next shift x place left g y bytes more eg ey) in
    let e0 : 8 * (l.i + 1) ≡ i + 8 = omega arith in
    let e1 : i + 8 + lane ≡ i + lane + 8 = omega arith in
    let e2 : i + 8 + lane + lane ≡ i + lane + lane + 8 = omega arith in
    let e3 : i + 8 + lane + lane + lane ≡ i + lane + lane + lane + 8 = omega arith in
    let d : a.q - (l.i + 1) ≡ left - 1 = omega arith in
    rw (e0, d) (
      next l.a i _ _ e.ensures c.join-a.ensures ∙ l.invariant.0,
      rw e1 (next l.b (i + lane) _ _ f.ensures c.join-b.ensures ∙ l.invariant.1),
      rw e2 (next l.c (i + lane + lane) _ _ g.ensures c.join-c.ensures ∙ l.invariant.2),
      rw e3 (next l.d (i + lane + lane + lane) _ _ h.ensures c.join-d.ensures ∙ l.invariant.3),
      λ k. bits-four k l.bits i lane left _ _ _ _ bytes more e.ensures f.ensures g.ensures h.ensures ∙ l.invariant.4 k,
    )

pub returns : goal.returns
returns c =
    let l = c.loop-i in
    let a = c.args in
    let lane = 8 * a.q in
    let bytes = a.fields.now in
    let i = 8 * l.i in
    let left = a.q - l.i in
    let none : left ≡ 0 = omega arith in
    let done : (x place : ℕ) → x ≡ looping a.shift.now x (numbers_at place 8 left bytes) =
    λ x place. sym (looping-done a.shift.now x place left bytes none) in
    record {
      a = done l.a i ∙ l.invariant.0;
      b = done l.b (i + lane) ∙ l.invariant.1;
      c = done l.c (i + lane + lane) ∙ l.invariant.2;
      d = done l.d (i + lane + lane + lane) ∙ l.invariant.3;
      bits = λ k. bits-four-done k l.bits 0 i lane left a.q bytes none (l.invariant.4 k);
    }
