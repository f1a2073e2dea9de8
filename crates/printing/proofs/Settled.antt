-- Where the program stops reading, what comes behind changes nothing: without a key in bytes that decide the line, where the number is too large for one, and
-- where the file is refused.
use mathlib.Core.Path.{◌≡◌, refl, sym, ap, ◌∙◌}
use mathlib.Core.Bool.{Bool, true, false, ◌||◌}
use mathlib.Core.List.{List, [], ◌∷◌, ◌++◌}
use Prim.Native.Nat.{ℕ, ◌*◌}
use native.Mathlib.Omega.{arith}
use lib.Dec.{ltb}
use Rattle.std.specs.Prelude.{Ok, Err}
use lib.ListN.{length, drop, length-append}
use lib.Seq.{drop-append-le}
use borrow.Author.Tests.{lt-ltb, ltb-true}
use Rattle.refusals.specs.declared.Refusal.{Refusal}
use Rattle.refusals.specs.declared.Refusal.TheVariants.{KeyRange, KeyReducible, TooLong}
use Rattle.refusals.specs.Refusals.{Answer, Done, Refused, ◌⇒◌, first_of, longest}
use Rattle.acceptance.specs.declared.Key.{Key}
use Rattle.acceptance.specs.Keys.{reducible, polynomial_of, outside}
use Rattle.files.specs.declared.Mark.{Mark}
use Rattle.files.specs.Files.{bits, mark_of}
use Rattle.marks.specs.declared.Running.{Running}
use Rattle.marks.specs.Answers.{begun_under}
use Rattle.key_lines.specs.declared.LineError.TheVariants.{NoKey, TooLarge}
use Rattle.key_lines.specs.KeyLines.{key_line}
use Rattle.key_lines.specs.Deciding.{undecided}
use Rattle.printing.specs.Printing.{answer_text, mark_file, printed_after, printed}
use Rattle.key_lines.proofs.Laws.{Line, key-within, key-stays, large_stays, decided-stays}

pub none_settled : (input more : List ℕ) → undecided input ≡ false → key_line input ≡ Err NoKey → printed (input ++ more) ≡ printed input
unfolding printed
none_settled input more h e =
    ap (λ (l : Line). printed_after l (input ++ more)) (decided-stays input more h ∙ e) ∙ ap (λ (l : Line). printed_after l input) (sym e)

pub large_settled : (input more : List ℕ) → key_line input ≡ Err TooLarge → printed (input ++ more) ≡ printed input
unfolding printed
large_settled input more e =
    ap (λ (l : Line). printed_after l (input ++ more)) (large_stays input more e) ∙ ap (λ (l : Line). printed_after l input) (sym e)

done_refused : {m : Running} {r : Refusal} → ◌≡◌ {A = Answer Unit Running} (Done m) (Refused r tt) → ⊥
done_refused e = let z : ◌≡◌ {A = ℕ} 0 1 = cc in omega arith

file_settled : (x : Key) (file more : List ℕ) (r : Refusal) → mark_file x file ≡ Refused r tt → mark_file x (file ++ more) ≡ Refused r tt
unfolding mark_file
file_settled x file more r e = go (outside x) (reducible (polynomial_of x)) (ltb longest (8 * length file)) refl e
  where
    answer : Bool → Bool → Bool → Mark → Answer Unit Running
    answer a b c m = begun_under x (first_of (a ⇒ KeyRange ∷ b ⇒ KeyReducible ∷ c ⇒ TooLong ∷ []) tt m)

    go : (a b c : Bool) → ltb longest (8 * length file) ≡ c → answer a b (c || false) (mark_of (polynomial_of x) (bits file)) ≡ Refused r tt
        → answer a b (ltb longest (8 * length (file ++ more)) || false) (mark_of (polynomial_of x) (bits (file ++ more))) ≡ Refused r tt
    go true b c t u = u
    go false true c t u = u
    go false false true t u =
        let l = ltb-true longest (8 * length file) t in
        rw (lt-ltb longest (8 * length (file ++ more)) (omega (arith, length-append file more))) u
    go false false false t u = absurd (done_refused u)

pub refused_settled : (input more : List ℕ) (x : Key) (at : ℕ) (r : Refusal) → key_line input ≡ Ok (x, at)
    → mark_file x (drop at input) ≡ Refused r tt → printed (input ++ more) ≡ printed input
unfolding printed
refused_settled input more x at r line e =
    ap (λ (l : Line). printed_after l (input ++ more)) (key-stays input more x at line)
    ∙ ap (λ (file : List ℕ). answer_text (mark_file x file)) (drop-append-le at input more (key-within input x at line))
    ∙ ap answer_text (file_settled x (drop at input) more r e ∙ sym e)
    ∙ ap (λ (l : Line). printed_after l input) (sym line)
