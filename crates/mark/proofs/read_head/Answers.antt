-- `mark::read_head` meets its contract: what is read stands behind what was read before, until it decides the key's line or the input is over.
use mathlib.Core.Path.{◌≡◌, sym, ◌∙◌}
use Prim.Native.Nat.{◌≤◌}
use native.Mathlib.Omega.{arith}
use lib.ListN.{length}
use borrow.Author.Rules.{rules}
use Rattle.std.proofs.Common.{inl}
use Rattle.input_calls.specs.declared.Got.TheVariants.{Bytes}
use Rattle.input_calls.proofs.Answers.{counts}
use Rattle.mark.proofs.Heads.{none-stands, bytes_fit, bytes_stand, still_room}
use Rattle.mark.proofs.read_head.Goals as goal

pub loop-n-init : goal.loop-n-init
loop-n-init c = (c.requires, omega arith, none-stands c.args.input c.args.head.now)

pub loop-n-preserved : goal.loop-n-preserved
loop-n-preserved c =
    let l = c.loop-n in
    let r = c.read_behind-input in
    let e = r.ensures in
    let full : 18 ≡ length r.new.buffer = search rules in
    let within : l.count ≤ length r.new.buffer = omega (arith, full) in
    let got : r.result.last ≡ Bytes c.in-Bytes.n = sym c.last.ensures ∙ c.in-Bytes.is in
    let stands = l.invariant.2 in (
      full,
      still_room c.args.input l.input l.count l.head stands r.result r.new.buffer within e.buffer_unchanged e.read _ got
          (sym c.undecided.ensures ∙ c.if-not-undecided.false),
      bytes_stand c.args.input l.input l.count l.head stands r.result r.new.buffer within e.buffer_unchanged e.read _ got,
    )

pub returns-then-not-undecided : goal.returns-then-not-undecided
returns-then-not-undecided c =
    let l = c.loop-n in
    let r = c.read_behind-input in
    let e = r.ensures in
    let full : 18 ≡ length r.new.buffer = search rules in
    let within : l.count ≤ length r.new.buffer = omega (arith, full) in
    let got : r.result.last ≡ Bytes c.in-Bytes.n = sym c.last.ensures ∙ c.in-Bytes.is in
    let stands = l.invariant.2 in (
      counts _ _ (bytes_fit c.args.input l.input l.count l.head stands r.result r.new.buffer within e.buffer_unchanged e.read _ got).1,
      (
        inl (sym c.undecided.ensures ∙ c.if-not-undecided.true),
        bytes_stand c.args.input l.input l.count l.head stands r.result r.new.buffer within e.buffer_unchanged e.read _ got,
      ),
    )
