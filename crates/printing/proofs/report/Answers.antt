-- `printing::report` meets its contract: the labels, with the numbers between them.
use mathlib.Core.Path.{◌≡◌, ap, ap₂, subst, ◌∙◌}
use mathlib.Core.List.{List, [], ◌++◌, append_assoc, append-nil}
use Prim.Native.Nat.{ℕ}
use Rattle.acceptance.specs.Keys.{polynomial_of}
use Rattle.numerals.specs.Numerals.{numeral}
use Rattle.numerals.specs.Buffers.{PutInFront}
use Rattle.printing.specs.Printing.{ascii, report}
use Rattle.printing.proofs.report.Goals as goal

-- nine texts, one behind the other, by lines
lines : (p a q b r c s d t : List ℕ)
    → p ++ (a ++ (q ++ (b ++ (r ++ (c ++ (s ++ (d ++ (t ++ [])))))))) ≡ p ++ a ++ (q ++ b) ++ (r ++ c) ++ (s ++ d) ++ t
lines p a q b r c s d t = simp (append_assoc, append-nil)

-- the texts of a report
abbrev text : List ℕ → List ℕ → List ℕ → List ℕ → List ℕ
text degree key bytes mark = ascii "key " ++ degree ++ (ascii " " ++ key) ++ (ascii "\nbytes " ++ bytes) ++ (ascii "\nmark " ++ mark) ++ ascii "\n"

pub returns : goal.returns
unfolding report ascii
returns c =
    let degree = c.text.ensures ∙ c.decimal-degree.ensures ∙ ap (numeral 10) c.from.ensures in
    let key = c.text-2.ensures ∙ c.polynomial-key.ensures in
    let bytes = c.text-3.ensures ∙ c.decimal-bytes.ensures in
    let mark = c.text-4.ensures ∙ c.hexadecimal-mark.ensures in
    let x = c.args.m.key in
    let d = c.text.result.now in
    let k = c.text-2.result.now in
    let b = c.text-3.result.now in
    let m = c.text-4.result.now in
    subst (PutInFront c.args.out.now c.put.new.out c.put.result)
    (lines (ascii "key ") d (ascii " ") k (ascii "\nbytes ") b (ascii "\nmark ") m (ascii "\n")
    ∙ ap₂ (λ y z. text y z b m) degree key
    ∙ ap₂ (text (numeral 10 x.degree) (numeral 16 (polynomial_of x))) bytes mark)
    c.put.ensures
