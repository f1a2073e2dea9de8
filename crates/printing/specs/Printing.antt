-- What the printing program prints (document 01), on lists of bytes.
use Rattle.std.specs.Prelude.{List, [], ◌∷◌, ◌++◌, ℕ, ◌*◌, ◌/◌, length, drop, Result, Ok, Err}
use Prim.Native.Char.{code}
use Prim.Native.String.{String, [] as end, ◌∷◌ as ◌then◌}
use Rattle.refusals.specs.declared.Refusal.{Refusal}
use Rattle.refusals.specs.declared.Refusal.TheVariants.{KeyRange, TooLong}
use Rattle.refusals.specs.Refusals.{Answer, Done, Refused, number, ◌⇒◌, first_of, passes}
use Rattle.acceptance.specs.declared.Key.{Key}
use Rattle.acceptance.specs.Keys.{polynomial_of, key_tests}
use Rattle.files.specs.Files.{bits, mark_of}
use Rattle.marks.specs.declared.Running.{Running}
use Rattle.marks.specs.Answers.{begun_under}
use Rattle.key_lines.specs.declared.LineError.{LineError}
use Rattle.key_lines.specs.declared.LineError.TheVariants.{NoKey, TooLarge}
use Rattle.key_lines.specs.KeyLines.{key_line}
use Rattle.numerals.specs.Numerals.{numeral}

-- the ASCII bytes of a text
unfoldable pub ascii : String → List ℕ
ascii end = []
ascii (c then s) = code c ∷ ascii s

-- of a running mark, whose length is in bits: the program prints bytes
unfoldable pub report : Running → List ℕ
report m =
    ascii "key " ++ numeral 10 m.key.degree ++ (ascii " " ++ numeral 16 (polynomial_of m.key))
    ++ (ascii "\nbytes " ++ numeral 10 (m.length / 8))
    ++ (ascii "\nmark " ++ numeral 16 m.fingerprint)
    ++ ascii "\n"

unfoldable pub refused : Refusal → List ℕ
refused r = ascii "refused " ++ numeral 10 (number r) ++ ascii "\n"

unfoldable pub no_key : List ℕ
no_key = ascii "no key\n"

abbrev pub answer_text : {S : Type 0} → Answer S Running → List ℕ
answer_text (Done m) = report m
answer_text (Refused r s) = refused r

-- The mark of the file behind the key's line, which is whole bytes. Number 7 applies to the file's length.
unfoldable pub mark_file : Key → List ℕ → Answer Unit Running
mark_file x file = begun_under x (first_of (key_tests x ++ passes (8 * length file ∷ []) ⇒ TooLong ∷ []) tt (mark_of (polynomial_of x) (bits file)))

abbrev pub printed_after : Result (Key × ℕ) LineError → List ℕ → List ℕ
printed_after (Ok (x, at)) input = answer_text (mark_file x (drop at input))
printed_after (Err NoKey) input = no_key
printed_after (Err TooLarge) input = refused KeyRange

-- what the program prints on an input
unfoldable pub printed : List ℕ → List ℕ
printed input = printed_after (key_line input) input
