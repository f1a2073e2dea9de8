-- Laws of a pass over pages: a block of them more, and what a pass with nothing known or nothing to write gives.
use mathlib.Core.Path.{◌≡◌, refl, sym, ap, ap₂, ◌∙◌}
use mathlib.Core.List.{List, [], ◌∷◌, ◌++◌}
use Prim.Native.Nat.{ℕ, suc, ◌+◌, ◌*◌, ◌≤◌, ◌<◌}
use native.Mathlib.Nat.{zero-add}
use native.Mathlib.Omega.{arith}
use lib.ListN.{length, take, drop, length-append, length-drop, take-append-drop}
use lib.Seq.{sets, drop-drop, length-take-le, take-add, take-take, take-length}
use Rattle.std.specs.Prelude.{Option, Some, None}
use Rattle.std.specs.Borrow.{Bor}
use Rattle.big_endian.specs.Numbers.{fields_of, numbers_at}
use Rattle.sheets.specs.Sheets.{Same, Page, first_change}
use Rattle.sheets.specs.Inner.{agreeing}
use Rattle.big_endian.proofs.Numbers.{length-fields_of, length-numbers_at, numbers-append, fields-append, sets_behind}
use Rattle.sheets.proofs.Changes.{agree-le, agree-all, agree-here, agree-further, changed_at, changed_nowhere}
use Rattle.sheet_pass.specs.Passes.{Known, expected, Passed}

-- ---- the expected fingerprints

pub length-expected : (known : Option (Bor (List ℕ))) (from : ℕ) (fs : List ℕ) → length (expected known from fs) ≡ length fs
unfolding expected
length-expected None from fs = refl
length-expected (Some fields) from fs = length-numbers_at from 8 (length fs) fields.now

expected-append : (known : Option (Bor (List ℕ))) (from : ℕ) (us vs : List ℕ)
    → expected known from (us ++ vs) ≡ expected known from us ++ expected known (from + 8 * length us) vs
unfolding expected
expected-append None from us vs = refl
expected-append (Some fields) from us vs =
    ap (λ (n : ℕ). numbers_at from 8 n fields.now) (length-append us vs)
    ∙ numbers-append from 8 (length us) (length vs) fields.now

pub expected-known : (known : Option (Bor (List ℕ))) (fields : Bor (List ℕ)) (from : ℕ) (fs : List ℕ) → known ≡ Some fields
    → expected known from fs ≡ numbers_at from 8 (length fs) fields.now
unfolding expected
expected-known known fields from fs e = ap (λ (k : Option (Bor (List ℕ))). expected k from fs) e

pub known_fewer : (m n : ℕ) (known : Option (Bor (List ℕ))) → m ≤ n → Known n known → Known m known
known_fewer m n None l h = tt
known_fewer m n (Some fields) l h = omega arith

-- ---- a block more: us are the n numbers from the i-th of fs on

module _ (known : Option (Bor (List ℕ))) (fs us : List ℕ) (i n : ℕ) (e : us ≡ take n (drop i fs)) (h : i + n ≤ length fs) where
  pub block-long : length us ≡ n
  block-long = ap length e ∙ length-take-le n (drop i fs) (rw (length-drop i fs) (omega arith))

  left : drop i fs ≡ us ++ drop (i + n) fs
  left = sym (take-append-drop n (drop i fs)) ∙ ap₂ (λ (u v : List ℕ). u ++ v) (sym e) (drop-drop n i fs)

  split : expected known (8 * i) (us ++ drop (i + n) fs) ≡ expected known (8 * i) us ++ expected known (8 * (i + n)) (drop (i + n) fs)
  split =
      let place : 8 * i + 8 * length us ≡ 8 * (i + n) = omega (arith, block-long) in
      expected-append known (8 * i) us (drop (i + n) fs)
      ∙ ap (λ (m : ℕ). expected known (8 * i) us ++ expected known m (drop (i + n) fs)) place

  agreed : agreeing (expected known (8 * i) (drop i fs)) (drop i fs)
      ≡ agreeing (expected known (8 * i) us ++ expected known (8 * (i + n)) (drop (i + n) fs)) (us ++ drop (i + n) fs)
  agreed =
      ap (λ (l : List ℕ). agreeing (expected known (8 * i) l) l) left
      ∙ ap (λ (l : List ℕ). agreeing l (us ++ drop (i + n) fs)) split

  module _ (r : ℕ) (er : r ≡ agreeing (expected known (8 * i) us) us) where
    pub block-few : r ≤ n
    block-few = omega (arith, er, block-long, agree-le (expected known (8 * i) us) us)

    pub block-ends : r < n → agreeing (expected known (8 * i) (drop i fs)) (drop i fs) ≡ r
    block-ends l =
        agreed
        ∙ agree-here (expected known (8 * (i + n)) (drop (i + n) fs)) (drop (i + n) fs) (expected known (8 * i) us) us
        (length-expected known (8 * i) us) (omega (arith, er, block-long))
        ∙ sym er

    pub block_agrees : n ≤ r → agreeing (expected known (8 * i) (drop i fs)) (drop i fs)
        ≡ r + agreeing (expected known (8 * (i + r)) (drop (i + r) fs)) (drop (i + r) fs)
    block_agrees l =
        let all : n ≡ r = omega (arith, block-few) in
        agreed
        ∙ agree-further (expected known (8 * (i + n)) (drop (i + n) fs)) (drop (i + n) fs) (expected known (8 * i) us) us
        (length-expected known (8 * i) us) (omega (arith, er, block-long))
        ∙ ap (λ (m : ℕ). m + agreeing (expected known (8 * (i + n)) (drop (i + n) fs)) (drop (i + n) fs)) block-long
        ∙ ap (λ (m : ℕ). m + agreeing (expected known (8 * (i + m)) (drop (i + m) fs)) (drop (i + m) fs)) all

-- the first r of the block are written behind the first i
pub block_written : (fs marks before : List ℕ) (i n r : ℕ) → take n marks ≡ take n (drop i fs) → i + n ≤ length fs → r ≤ n
    → sets (sets before 0 (fields_of 8 (take i fs))) (8 * i) (fields_of 8 (take r marks)) ≡ sets before 0 (fields_of 8 (take (i + r) fs))
block_written fs marks before i n r e h l =
    let first = fields_of 8 (take i fs) in
    let place : 8 * i ≡ 0 + length first = omega (arith, length-fields_of 8 (take i fs), length-take-le i fs (omega arith)) in
    let same : take r marks ≡ take r (drop i fs) = sym (take-take r n marks l) ∙ ap (take r) e ∙ take-take r n (drop i fs) l in
    sets_behind first (fields_of 8 (take r marks)) before 0 (8 * i) place
    ∙ ap (sets before 0) (sym (fields-append 8 (take i fs) (take r marks)))
    ∙ ap (λ (l : List ℕ). sets before 0 (fields_of 8 l)) (ap (λ (l : List ℕ). take i fs ++ l) same ∙ sym (take-add i r fs))

-- nothing is lent
pub sets_none : (vs l : List ℕ) (i : ℕ) → length l ≡ 0 → l ≡ sets l i vs
sets_none [] l i e = refl
sets_none (v ∷ vs) [] i e = sets_none vs [] (suc i) e
sets_none (v ∷ vs) (b ∷ l) i e = absurd (omega arith)

-- ---- what a pass gives

-- nothing is known: all pages are passed,
pub pass_count : (fs before after : List ℕ) (n : ℕ) → Passed fs None before after n → n ≡ length fs
unfolding expected
pass_count fs before after n h = h.same ∙ agree-all fs

-- and all fingerprints are written
pub pass_all : (fs before after : List ℕ) (n : ℕ) → Passed fs None before after n → after ≡ sets before 0 (fields_of 8 fs)
unfolding expected
pass_all fs before after n h =
    let all : take n fs ≡ fs = ap (λ (m : ℕ). take m fs) (pass_count fs before after n h) ∙ take-length fs in
    h.written ∙ ap (λ (us : List ℕ). sets before 0 (fields_of 8 us)) all

-- all c are known: the first that differs
module _ (fs : List ℕ) (fields : Bor (List ℕ)) (before after : List ℕ) (n c : ℕ) (h : Passed fs (Some fields) before after n) (long : length fs ≡ c) where
  abbrev known : List ℕ
  known = fields.now

  there : expected (Some fields) 0 fs ≡ numbers_at 0 8 c known
  unfolding expected
  there = ap (λ (m : ℕ). numbers_at 0 8 m known) long

  agreed-here : n ≡ agreeing (numbers_at 0 8 c known) fs
  agreed-here = h.same ∙ ap (λ (us : List ℕ). agreeing us fs) there

  equally : length (numbers_at 0 8 c known) ≡ length fs
  equally = length-numbers_at 0 8 c known ∙ sym long

  pub pass_few : n ≤ c
  pass_few = omega (arith, agreed-here, agree-le (numbers_at 0 8 c known) fs)

  pub pass_changed : n < c → first_change 0 (numbers_at 0 8 c known) fs ≡ Page n
  pass_changed l =
      changed_at 0 (numbers_at 0 8 c known) fs equally (omega (arith, agreed-here))
      ∙ ap Page (zero-add (agreeing (numbers_at 0 8 c known) fs) ∙ sym agreed-here)

  pub pass_same : c ≤ n → first_change 0 (numbers_at 0 8 c known) fs ≡ Same
  pass_same l = changed_nowhere 0 (numbers_at 0 8 c known) fs equally (omega (arith, agreed-here))
