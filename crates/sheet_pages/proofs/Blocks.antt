-- Laws of a block of pages: the whole ones lie inside the whole bytes.
use mathlib.Core.Path.{◌≡◌, sym, ap, ap₂, ◌∙◌}
use mathlib.Core.Logic.{◌≢◌}
use mathlib.Core.List.{List, [], ◌∷◌, ◌++◌}
use Prim.Native.Nat.{ℕ, ◌+◌, ◌-◌, ◌*◌, ◌/◌, ◌≤◌, ◌<◌, min}
use native.Mathlib.Nat.{mul_left_comm, mul-le-mul_right}
use native.Mathlib.Numerals.{add-one}
use native.Mathlib.Decide.{ℕ_discrete}
use native.Mathlib.Omega.{arith}
use lib.ListN.{length, get_or, set, take, drop, length-drop, length-append}
use lib.Seq.{length-take-le, take-suc-set, get_or-take, get_or-set_other, ext_get_or}
use Rattle.std.proofs.lemmas.List.{take-append-le, get_or-append_right, get_or-drop}
use Rattle.files.specs.Files.{bits, fingerprint, Part, as_part, part_length, part_bits}
use Rattle.files.specs.Ends.{whole_bytes}
use Rattle.files.proofs.Values.{length-bits}
use Rattle.files.proofs.Parts.{part-length, part-range, rest-bits, whole-range, whole-piece}
use Rattle.multiples.specs.Rows.{SameFrom}
use Rattle.sheets.specs.Layout.{Layout, page_count}
use Rattle.sheets.specs.Sheets.{page_of, page_fingerprints}
use Rattle.sheets.proofs.Pages.{count-le, count-reached, count_next, part-pages, whole-fits, last-short, length-pages, page-whole, page-at, pages-last}
use Rattle.sheet_pages.specs.Blocks.{NextPages}
use Rattle.page_marks.specs.Marks.{page_front, Finished}
use Rattle.page_marks.proofs.Marks.{place-fits}

-- ---- the fingerprints as a list

-- page i of n that lie inside the whole bytes
page-bits : (s n i : ℕ) (rest : Part) → n * s ≤ whole_bytes rest → i < n
    → take (8 * s) (drop (i * (8 * s)) (part_bits rest)) ≡ bits (page_front s s rest.bytes i)
page-bits s n i rest h b =
    ap (λ (m : ℕ). take (8 * s) (drop m (part_bits rest))) (mul_left_comm i 8 s) ∙ whole-piece rest (i * s) s (place-fits s n i (whole_bytes rest) b h)

-- it has all its bits
front_long : (s n i : ℕ) (rest : Part) → n * s ≤ whole_bytes rest → i < n → length (bits (page_front s s rest.bytes i)) ≡ 8 * s
front_long s n i rest h b =
    let fits = place-fits s n i (whole_bytes rest) b h in
    length-bits (page_front s s rest.bytes i)
    ∙ ap (λ (m : ℕ). 8 * m) (length-take-le s (drop (i * s) rest.bytes) (rw length-drop (omega (arith, fits, (whole-range rest).0))))

pub block-is : (v : Layout) (key s n : ℕ) (rest : Part) (marks : List ℕ) → n * s ≤ whole_bytes rest → n ≤ length marks
    → Finished key s n rest.bytes marks → take n marks ≡ page_fingerprints v key (8 * s) n (part_bits rest)
block-is v key s n rest marks h l f =
    ext_get_or 0 (take n marks) (page_fingerprints v key (8 * s) n (part_bits rest)) (long ∙ sym (length-pages v key n (8 * s) (part_bits rest)))
    (λ i b. same i (omega (arith, long, b)))
  where
    long : length (take n marks) ≡ n
    long = length-take-le n marks l

    whole : (i : ℕ) → i < n → page_of v (8 * s) (take (8 * s) (drop (i * (8 * s)) (part_bits rest))) ≡ bits (page_front s s rest.bytes i)
    whole i b =
        ap (page_of v (8 * s)) (page-bits s n i rest h b) ∙ page-whole v (8 * s) (bits (page_front s s rest.bytes i)) (front_long s n i rest h b)

    same : (i : ℕ) → i < n → get_or (take n marks) i 0 ≡ get_or (page_fingerprints v key (8 * s) n (part_bits rest)) i 0
    same i b = get_or-take n marks i 0 b ∙ f i b ∙ ap (fingerprint key) (sym (whole i b)) ∙ sym (page-at v key (8 * s) n i (part_bits rest) b)

-- ---- the last page among them

-- a page that is not whole behind n others
pub block_last : (v : Layout) (key s n last : ℕ) (rest marks : List ℕ) → length rest ≤ n * s + s → n < length marks
    → last ≡ fingerprint key (page_of v s (drop (n * s) rest))
    → take n marks ≡ page_fingerprints v key s n rest → take (n + 1) (set marks n last) ≡ page_fingerprints v key s (n + 1) rest
block_last v key s n last rest marks h l el et =
    ap (λ (m : ℕ). take m (set marks n last)) (add-one n)
    ∙ take-suc-set marks n last l
    ∙ ap₂ (λ (us : List ℕ) (x : ℕ). us ++ x ∷ []) et el
    ∙ sym (pages-last v key s n rest h)

-- ---- the next pages: n whole ones, whose fingerprints are new, in front of those that stay

-- where they are not all places, at most the bytes of one are left
pub short : (s n w : ℕ) (rest : Part) → 8 ≤ s → w ≡ whole_bytes rest → n ≡ min (w / s) 64 → n ≢ 64 → length rest.bytes ≤ n * s + s
short s n w rest hs ew en d =
    let all : n ≡ w / s = omega (arith, en, d) in
    omega (arith, last-short s w (omega (arith, hs)), ap (λ (m : ℕ). m * s) all, ew, (whole-range rest).1)

module _ (v : Layout) (key s n w : ℕ) (rest : Part) (before new : List ℕ) (hs : 8 ≤ s) (ew : w ≡ whole_bytes rest) (en : n ≡ min (w / s) 64)
    (long : length new ≡ n) (room : 64 ≤ length before) (f : Finished key s n rest.bytes new) where
  -- the whole pages are in the whole bytes,
  inside : n * s ≤ whole_bytes rest
  inside =
      let few : n ≤ w / s = omega (arith, en) in
      omega (arith, mul-le-mul_right s few, whole-fits s w, ew)

  fits : n * s ≤ length rest.bytes
  fits = omega (arith, inside, (whole-range rest).0)

  -- so many pages begin in the file
  begin : n ≤ page_count s (length rest.bytes)
  begin = count-le s (length rest.bytes) n (omega (arith, hs)) (omega (arith, fits, hs))

  counted : page_count s (length rest.bytes) ≡ page_count (8 * s) (part_length rest)
  counted = part-pages s rest (omega (arith, hs))

  prints : take n (new ++ drop n before) ≡ page_fingerprints v key (8 * s) n (part_bits rest)
  prints = take-append-le n new (drop n before) (omega (arith, long)) ∙ block-is v key s n rest new inside (omega (arith, long)) f

  behind : SameFrom n before (new ++ drop n before)
  behind j l =
      let e : n + (j - n) ≡ j = omega (arith, l) in
      get_or-append_right new (drop n before) n j 0 long l ∙ get_or-drop n before (j - n) 0 ∙ ap (λ (i : ℕ). get_or before i 0) e

  -- no page is left, or no place
  pub next-whole : (n ≢ 64 → length rest.bytes ≤ n * s) → NextPages v key s rest n before (new ++ drop n before)
  next-whole h = record { count = go (ℕ_discrete n 64); prints = prints; behind = behind }
    where
      go : Dec (n ≡ 64) → n ≡ min (page_count (8 * s) (part_length rest)) 64
      go (yes e) = omega (arith, e, begin, counted)
      go (no d) = omega (arith, en, begin, counted, count-reached s (length rest.bytes) n (omega (arith, hs)) (h d))

  module _ (d : n ≢ 64) (more : n * s < length rest.bytes) where
    left-short : length rest.bytes ≤ n * s + s
    left-short = short s n w rest hs ew en d

    -- a last page behind them, whose bits are those that are left
    pub next-last : (last : ℕ) → last ≡ fingerprint key (page_of v (8 * s) (part_bits (as_part (drop (n * s) rest.bytes) rest.used)))
        → NextPages v key s rest (n + 1) before (set (new ++ drop n before) n last)
    next-last last e =
        let bits = part_bits rest in
        let left : part_bits (as_part (drop (n * s) rest.bytes) rest.used) ≡ drop (n * (8 * s)) bits =
        rest-bits rest.bytes rest.used (n * s) more ∙ ap (λ (m : ℕ). drop m bits) (sym (mul_left_comm n 8 s)) in
        record {
          count =
              omega (arith, en, d, counted, begin, count_next s (length rest.bytes) n (omega (arith, hs)) more left-short);
          prints =
              block_last v key (8 * s) n last bits (new ++ drop n before) (omega
              (arith, part-length rest, (part-range rest).0, left-short, mul_left_comm n 8 s))
              (rw (length-append new (drop n before), length-drop n before) (omega (arith, long, en, d, room)))
              (e ∙ ap (λ (q : List ℕ). fingerprint key (page_of v (8 * s) q)) left) prints;
          behind = λ j l. get_or-set_other (new ++ drop n before) n j last 0 (λ c. omega (arith, c, l)) ∙ behind j (omega (arith, l));
        }
