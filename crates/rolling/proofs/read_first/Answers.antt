-- `rolling::read_first` meets its contract. The loop's invariant: i bytes of each were read.
use mathlib.Core.Path.{◌≡◌, sym, ap, ◌∙◌}
use Prim.Native.Nat.{ℕ, ◌*◌, ◌^◌}
use native.Mathlib.Nat.{zero-add}
use native.Mathlib.Omega.{arith}
use lib.ListN.{length}
use Rattle.gf2.specs.Polynomials.{rem}
use Rattle.gf2.specs.Moduli.{polynomial}
use Rattle.gf2.proofs.Monics.{monic-pos}
use Rattle.gf2.proofs.Steps.{residue-below, residue-one}
use Rattle.rolling.specs.Rolling.{residue}
use Rattle.rolling.proofs.Window.{window-whole}
use Rattle.rolling.proofs.Residues.{read_none, read_below, read_more, read_all, shift-more}
use Rattle.rolling.proofs.read_first.Goals as goal

pub loop-i-init : goal.loop-i-init
loop-i-init c =
    let none = read_none c.args.p c.requires.0.0 in
    (none c.args.text.now 0, none c.args.pattern.now 0, sym (residue-one c.args.p c.requires.0.0))

pub feed_one-first-requires : goal.feed_one-first-requires
feed_one-first-requires c =
    let a = c.args in
    let l = c.loop-i in
    (c.requires.0, read_below a.p c.requires.0.0 a.text.now 0 l.i l.first l.invariant.0)

pub feed_one-wanted-requires : goal.feed_one-wanted-requires
feed_one-wanted-requires c =
    let a = c.args in
    let l = c.loop-i in
    (c.requires.0, read_below a.p c.requires.0.0 a.pattern.now 0 l.i l.wanted l.invariant.1)

pub feed_one-shift-requires : goal.feed_one-shift-requires
feed_one-shift-requires c =
    let a = c.args in
    let l = c.loop-i in
    (c.requires.0, residue-below a.p c.requires.0.0 l.shift (2 ^ (8 * l.i)) l.invariant.2)

pub loop-i-preserved : goal.loop-i-preserved
loop-i-preserved c =
    let a = c.args in
    let l = c.loop-i in
    let more = read_more a.p c.requires.0.0 in (
      more a.text.now 0 l.i l.i l.first _ (zero-add l.i) (omega arith) (search) l.invariant.0
          c.feed_one-first.ensures,
      more a.pattern.now 0 l.i l.i l.wanted _ (zero-add l.i) (omega arith) (search) l.invariant.1 c.feed_one-wanted.ensures,
      shift-more (monic-pos a.p.degree a.p.low c.requires.0.0.2) l.i l.shift _ l.invariant.2 c.feed_one-shift.ensures,
    )

pub returns : goal.returns
returns c =
    let a = c.args in
    let l = c.loop-i in
    let n = length a.pattern.now in
    let e : l.i ≡ n = omega arith in
    let all = read_all a.p c.requires.0.0 in (
      all a.text.now 0 l.i n l.first e l.invariant.0,
      all a.pattern.now 0 l.i n l.wanted e l.invariant.1 ∙ ap (residue (polynomial a.p)) (window-whole a.pattern.now),
      l.invariant.2 ∙ ap (λ (i : ℕ). rem (polynomial a.p) (2 ^ (8 * i))) e,
    )
