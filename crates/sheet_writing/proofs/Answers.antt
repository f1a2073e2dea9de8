-- How writing answers, test by test.
use mathlib.Core.Path.{◌≡◌, sym, ap, ◌∙◌}
use mathlib.Core.Bool.{Bool, true, false, ◌||◌}
use mathlib.Core.List.{List, [], ◌∷◌, ◌++◌}
use Prim.Native.Nat.{ℕ, ◌*◌, ◌≤◌, ◌<◌}
use lib.Dec.{ltb}
use lib.ListN.{length, drop}
use native.Mathlib.Omega.{arith}
use borrow.Author.Tests.{lt-ltb, le-ltb, ltb-false}
use Rattle.std.specs.Prelude.{Result, Err}
use Rattle.lists.specs.Lists.{overlay}
use Rattle.lists.proofs.Lent.{overlay-fits}
use Rattle.gf2.specs.declared.Modulus.{Modulus}
use Rattle.refusals.specs.declared.Refusal.{Refusal}
use Rattle.refusals.specs.declared.Refusal.TheVariants.{TooLong, PageSize, BufferShort, FinalByte}
use Rattle.refusals.specs.Refusals.{Done, Refused, Test, ◌⇒◌, first_of, longest, passes}
use Rattle.refusals.specs.Answers.{told}
use Rattle.refusals.proofs.Laws.{Clear, done-clear, more-refused, more-clear, first_true, first_false}
use Rattle.files.specs.Files.{Part, part_length, part_bits, misused}
use Rattle.lists.proofs.Truth.{or-neither}
use Rattle.acceptance.specs.declared.Key.{Key}
use Rattle.acceptance.specs.Keys.{polynomial_of, key_tests}
use Rattle.acceptance.specs.Opened.{Opened}
use Rattle.acceptance.proofs.Opened.{opened-first}
use Rattle.keys.specs.Testing.{test_key}
use Rattle.keys.proofs.Laws.{refused}
use Rattle.sheets.specs.Layout.{Layout, newest, layout_of, sheet_length, page_count, pages_for, sheet_bytes}
use Rattle.sheets.specs.Sheets.{contents_of, page_size_test, length_tests, length_for, write_sheet}
use Rattle.sheets.proofs.Versions.{newest-is}
use Rattle.sheets.proofs.Layouts.{length-sheet}
use Rattle.sheets.proofs.Pages.{length-pages}
use Rattle.sheets.proofs.Parts.{part-passes, pages-held}
use Rattle.sheets.proofs.Sound.{size_bounds}

-- ---- the length of a sheet

module _ (n s : ℕ) where
  pub length-long : passes (8 * n ∷ []) ≡ true → length_for n s ≡ Refused TooLong tt
  unfolding length_for
  length-long l = first_true (passes (8 * n ∷ [])) TooLong (page_size_test s ∷ []) tt _ l

  module _ (fits : passes (8 * n ∷ []) ≡ false) where
    pub length-size : (ltb s 16 || ltb 4096 s) ≡ true → length_for n s ≡ Refused PageSize tt
    unfolding length_for
    length-size e =
        first_false (passes (8 * n ∷ [])) TooLong (page_size_test s ∷ []) tt _ fits ∙ first_true (ltb s 16 || ltb 4096 s) PageSize [] tt _ e

    pub length-done : (ltb s 16 || ltb 4096 s) ≡ false → length_for n s ≡ Done (sheet_length newest (page_count s n))
    unfolding length_for
    length-done e =
        first_false (passes (8 * n ∷ [])) TooLong (page_size_test s ∷ []) tt _ fits ∙ first_false (ltb s 16 || ltb 4096 s) PageSize [] tt _ e

  -- what is known where it is given
  pub record Measured (b : ℕ) : Type 0 where
    pub clear : Clear (length_tests (8 * n) s)
    pub fits : n ≤ 4294967295
    pub size : (16 ≤ s) × (s ≤ 4096)
    pub total : b ≡ sheet_length newest (page_count s n)

  pub measured : (b : ℕ) → Done b ≡ length_for n s → Measured b
  unfolding length_for
  measured b e =
      let d = done-clear (length_tests (8 * n) s) tt (sheet_length newest (page_count s n)) b (sym e) in
      record {
        clear = d.0;
        fits = omega (arith, ltb-false longest (8 * n) (or-neither (ltb longest (8 * n)) false d.0.0).0);
        size = size_bounds s d.0.1.0;
        total = sym d.1;
      }

-- ---- writing

-- number 7 goes by the bytes
by_bytes : (p : Part) (s : ℕ) → length_tests (part_length p) s ≡ length_tests (8 * length p.bytes) s
by_bytes p s = ap {B = List Test} (λ (b : Bool). b ⇒ TooLong ∷ page_size_test s ∷ []) (part-passes p)

module _ (key : Key) (s : ℕ) (part : Part) (buffer : List ℕ) where
  abbrev count : ℕ
  count = page_count s (length part.bytes)

  long : ℕ
  long = sheet_length newest (page_count s (length part.bytes))

  after : List ℕ
  after = overlay (sheet_bytes (contents_of newest.version key s (part_bits part))) buffer

  last : List Test
  last = ltb (length buffer) long ⇒ BufferShort ∷ misused part ⇒ FinalByte ∷ []

  abbrev lengths : List Test
  lengths = length_tests (8 * length part.bytes) s

  by_steps : write_sheet key s part buffer ≡ first_of (key_tests key ++ lengths ++ last) buffer after
  unfolding write_sheet last after long
  by_steps = ap (λ (ts : List Test). first_of (key_tests key ++ ts ++ last) buffer after) (by_bytes part s)

  pub write_refused : (t : Result Modulus Refusal) (q : Refusal) → told t ≡ test_key key → t ≡ Err q → write_sheet key s part buffer ≡ Refused q buffer
  write_refused t q e a = by_steps ∙ refused t key e (lengths ++ last) buffer after q a

  module _ {p : Modulus} (o : Opened key p) where
    after-key : write_sheet key s part buffer ≡ first_of (lengths ++ last) buffer after
    after-key = by_steps ∙ opened-first o (lengths ++ last) buffer after

    pub write_length : (q : Refusal) → Refused q tt ≡ length_for (length part.bytes) s → write_sheet key s part buffer ≡ Refused q buffer
    unfolding length_for long
    write_length q e = after-key ∙ more-refused lengths last tt buffer long after q (sym e)

    module _ (b : ℕ) (m : Measured (length part.bytes) s b) where
      after-length : write_sheet key s part buffer ≡ first_of last buffer after
      after-length = after-key ∙ more-clear lengths last buffer after m.clear

      pub write_short : length buffer < b → write_sheet key s part buffer ≡ Refused BufferShort buffer
      unfolding last long
      write_short l = after-length ∙ rw (lt-ltb (length buffer) long (omega (arith, m.total)))

      module _ (room : b ≤ length buffer) where
        after-room : write_sheet key s part buffer ≡ first_of (misused part ⇒ FinalByte ∷ []) buffer after
        unfolding last long
        after-room =
            after-length
            ∙ first_false (ltb (length buffer) long) BufferShort (misused part ⇒ FinalByte ∷ []) buffer after
            (le-ltb (length buffer) long (omega (arith, m.total)))

        pub write_misused : misused part ≡ true → write_sheet key s part buffer ≡ Refused FinalByte buffer
        write_misused e = after-room ∙ first_true (misused part) FinalByte [] buffer after e

        pub write_done : misused part ≡ false
            → write_sheet key s part buffer
            ≡ Done (sheet_bytes (contents_of newest.version key s (part_bits part))
            ++ drop (sheet_length (layout_of newest.version) (page_count s (length part.bytes))) buffer)
        unfolding long after contents_of
        write_done e =
            let v = layout_of newest.version in
            let x = contents_of newest.version key s (part_bits part) in
            let c = pages_for s (length (part_bits part)) in
            let own : length (sheet_bytes x) ≡ sheet_length v count =
            length-sheet x ∙ ap (sheet_length v) (length-pages v (polynomial_of key) c (8 * s) (part_bits part) ∙ pages-held s part) in
            let all : length (sheet_bytes x) ≡ long = own ∙ ap (λ (w : Layout). sheet_length w count) newest-is in
            after-room
            ∙ first_false (misused part) FinalByte [] buffer after e
            ∙ ap Done (overlay-fits (sheet_bytes x) buffer (omega (arith, all, m.total)) ∙ ap (λ (n : ℕ). sheet_bytes x ++ drop n buffer) own)
