-- `mark::answer` meets its contract. The file begins within the head: `key-within`.
use mathlib.Core.Path.{◌≡◌, sym, subst, ◌∙◌}
use mathlib.Core.List.{List}
use Prim.Native.Nat.{ℕ, ◌≤◌}
use native.Mathlib.Omega.{arith}
use lib.ListN.{length, drop}
use Rattle.std.proofs.Common.{rules, Ok, Err}
use Rattle.input_feeding.specs.declared.Stopped.TheVariants as StoppedCases
use Rattle.key_lines.specs.declared.LineError.TheVariants.{NoKey, TooLarge}
use Rattle.key_lines.specs.KeyLines.{key_line}
use Rattle.key_lines.proofs.Laws.{Line, key-within}
use Rattle.input_feeding.specs.Marking.{MarkedInParts}
use Rattle.mark.proofs.Texts.{from, none-printed, large_printed, done-printed, refused-printed, marked_range}
use Rattle.mark.proofs.answer.Goals as goal
use Rattle.mark.proofs.answer.Goals.{After-mark_file-marked, In-Ok}

-- the key's line
line : (c : In-Ok) → ◌≡◌ {A = Line} (key_line c.args.head.now) (Ok (c.in-Ok.key, c.in-Ok.at))
line c = sym c.key_line.ensures ∙ c.in-Ok.is

-- the place behind it
within : (c : In-Ok) → c.in-Ok.at ≤ length c.args.head.now
within c = key-within c.args.head.now _ _ (line c)

-- the file behind it
file : (c : After-mark_file-marked) → MarkedInParts c.in-Ok.key (drop c.in-Ok.at c.args.head.now) c.args.input c.mark_file-marked.result
file c =
    subst (λ (l : List ℕ). MarkedInParts c.in-Ok.key l c.args.input c.mark_file-marked.result) (from c.in-Ok.at c.args.head.now)
    c.mark_file-marked.ensures

pub slice_bounds-mark_file-count : goal.slice_bounds-mark_file-count
slice_bounds-mark_file-count c = within (goal.at.slice_bounds-mark_file-count c).In-Ok

pub slice_bounds-mark_file-start : goal.slice_bounds-mark_file-start
slice_bounds-mark_file-start c = omega (arith, within (goal.at.slice_bounds-mark_file-start c).In-Ok)

pub report-requires : goal.report-requires
report-requires c =
    marked_range _ (drop c.in-Ok.at c.args.head.now) c.args.input c.mark_file-marked.result c.in-Ok-marked.m
    (file (goal.at.report-requires c).After-mark_file-marked) cc

pub returns-in-Err-NoKey : goal.returns-in-Err-NoKey
returns-in-Err-NoKey c =
    let e : ◌≡◌ {A = Line} (key_line c.args.head.now) (Err NoKey) = cc in
    none-printed c.args.head.now c.args.out.now _ _ c.args.input c.requires e c.no_key.ensures

pub returns-in-Ok-marked : goal.returns-in-Ok-marked
returns-in-Ok-marked c =
    let e : c.mark_file-marked.result.marked ≡ Ok c.in-Ok-marked.m = c.in-Ok-marked.is in
    done-printed c.args.head.now c.args.out.now _ c.args.input _ _ (line (goal.at.returns-in-Ok-marked c).In-Ok) c.mark_file-marked.result
    (file (goal.at.returns-in-Ok-marked c).After-mark_file-marked) _ _ e c.report.ensures

pub returns-in-Err-Refused : goal.returns-in-Err-Refused
returns-in-Err-Refused c =
    let e : c.mark_file-marked.result.marked ≡ Err (StoppedCases.Refused c.in-Err-Refused.r) = search rules in
    refused-printed c.args.head.now c.args.out.now _ c.args.input _ _ (line (goal.at.returns-in-Err-Refused c).In-Ok) c.mark_file-marked.result
    (file (goal.at.returns-in-Err-Refused c).After-mark_file-marked) _ _ e c.refusal.ensures

pub returns-in-Err-TooLarge : goal.returns-in-Err-TooLarge
returns-in-Err-TooLarge c =
    let e : ◌≡◌ {A = Line} (key_line c.args.head.now) (Err TooLarge) = cc in
    large_printed c.args.head.now c.args.out.now _ _ c.args.input c.requires e c.refusal-in-Err-TooLarge.ensures
