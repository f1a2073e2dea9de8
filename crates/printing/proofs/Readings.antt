-- Document 01's example of the printing program and wish 8's lines, computed from the definitions alone.
use mathlib.Core.Path.{◌≡◌, refl, sym, ap₂, ◌∙◌}
use mathlib.Core.List.{List, ◌++◌}
use Prim.Native.Nat.{ℕ}
use native.Mathlib.Omega.{arith}
use Rattle.gf2.specs.Polynomials.{◌⊕◌, halvings, degree, monic, reduce, long_division, rem}
use Rattle.lists.specs.Lists.{any_below}
use Rattle.acceptance.specs.Keys.{reducible, key_of}
use Rattle.files.specs.Files.{bits, low_bits, value_from, fingerprint_from, mark_from}
use Rattle.std.specs.Prelude.{Ok}
use Rattle.key_lines.specs.KeyLines.{key_line, key_before, line_of, all_digits, digit, hex_from, index_of}
use Rattle.numerals.specs.Numerals.{digits_of, numeral}
use Rattle.printing.specs.Printing.{ascii, printed, report, refused, mark_file}
use Rattle.numerals.proofs.Numerals.{numeral-is, numeral_64}

pub example : printed (ascii "11b\nAB") ≡ ascii "key 8 11b\nbytes 2\nmark 9d\n"
unfolding ascii printed key_line key_before line_of all_digits digit hex_from digits_of numeral report mark_file
    index_of degree halvings monic rem long_division reduce ◌⊕◌ reducible any_below bits low_bits value_from fingerprint_from mark_from
example = refl

-- its key's line, and its answer as a report
pub example-line : key_line (ascii "11b\nAB") ≡ Ok (key_of 0x11B, 4)
unfolding ascii key_line key_before line_of all_digits digit hex_from index_of
example-line = refl

pub example-report : printed (ascii "11b\nAB") ≡ report (record { key = key_of 0x11B; fingerprint = 0x9D; length = 16 })
unfolding ascii digits_of numeral report degree halvings monic
example-report = example

-- wish 8's: seventeen digits, the first of them 1, 0 and 2
pub line_64 : key_line (ascii "1000000000000001b\nAB") ≡ Ok (record { degree = 64; word = 0x1B }, 18)
unfolding ascii key_line key_before line_of all_digits digit hex_from index_of degree halvings
line_64 = refl

pub report_64 : report (record { key = record { degree = 64; word = 0x1B }; fingerprint = 0x14142; length = 16 })
    ≡ ascii "key 64 1000000000000001b\nbytes 2\nmark 14142\n"
unfolding ascii digits_of report
report_64 =
    ap₂
    (λ (x y : List ℕ). ascii "key " ++ numeral 10 64 ++ (ascii " " ++ x) ++ (ascii "\nbytes " ++ numeral 10 2) ++ (ascii "\nmark " ++ y) ++ ascii "\n")
    (sym (numeral_64 0x1B (omega arith)))
    (sym (numeral-is 16 (omega arith) 0x14142 5 (omega arith, omega arith, λ m. omega arith)))
    ∙ unfold numeral in refl

pub line-zeros : key_line (ascii "0000000000000011b\nAB") ≡ Ok (record { degree = 8; word = 0x1B }, 18)
unfolding ascii key_line key_before line_of all_digits digit hex_from index_of degree halvings
line-zeros = refl

pub line_65 : printed (ascii "2000000000000001b\nAB") ≡ ascii "refused 1\n"
unfolding ascii printed key_line key_before line_of all_digits digit hex_from index_of digits_of numeral refused
line_65 = refl
