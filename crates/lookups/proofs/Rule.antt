-- Laws of the rule of a table: words follow the rule where none differs, and row j has the multiples of t^(k + w·j).
use mathlib.Core.Path.{◌≡◌, refl, sym, ap, ap₂, ◌∙◌}
use mathlib.Core.Logic.{◌↔◌}
use mathlib.Core.Bool.{Bool, true, false, not, true≢false}
use mathlib.Core.List.{List, [], ◌∷◌}
use Prim.Native.Nat.{ℕ, zero, suc, ◌+◌, ◌*◌, ◌/◌, ◌%◌, ◌^◌, ◌<◌, suc-le-suc}
use native.Mathlib.Nat.{add-zero, zero-add, add-suc, suc-add, not-suc-le-zero, le_of_suc-le-suc, mod-lt, div-lt_iff_lt-mul}
use native.Mathlib.Omega.{arith}
use lib.Arith.{digits_lt, digits_div, digits_mod}
use lib.Dec.{eqb}
use lib.ListN.{length, get_or}
use lib.Pow.{pow-add, pow_pos, split}
use borrow.Author.Tests.{eqb-true, eq-eqb, not-false}
use Rattle.lists.specs.Lists.{list_from}
use Rattle.lists.proofs.Lists.{length_list}
use Rattle.lists.proofs.Truth.{or-neither}
use Rattle.gf2.specs.Polynomials.{◌⊗◌, degree, rem}
use Rattle.gf2.specs.Moduli.{polynomial, Proper}
use Rattle.gf2.specs.declared.Modulus.{Modulus}
use Rattle.gf2.proofs.Products.{⊗-pow}
use Rattle.gf2.proofs.Powers.{rem-⊗-right}
use Rattle.gf2.proofs.Monics.{monic-degree, monic-pos}
use Rattle.gf2.proofs.Steps.{residue-small, residue-top}
use Rattle.multiples.specs.Rows.{Rows}
use Rattle.multiples.proofs.Following.{rows_same}
use Rattle.lookups.specs.Rule.{word, differs}
use Rattle.lookups.specs.Groups.{Table, TableOf, ReducesByte}

-- the words before place e follow the rule
abbrev pub Follows : (ℕ → ℕ) → ℕ → List ℕ → Type 0
Follows rule e words = (n : ℕ) → n < e → get_or words n 0 ≡ rule n

-- ---- words that follow a rule

-- every word, the first standing at place m
follows-from : (rule : ℕ → ℕ) (words : List ℕ) (m : ℕ) → differs rule m words ≡ false → (n : ℕ) → n < length words → get_or words n 0 ≡ rule (m + n)
unfolding differs
follows-from rule [] m e n l = absurd (not-suc-le-zero l)
follows-from rule (x ∷ xs) m e zero l =
    rw add-zero (eqb-true x (rule m) (not-false (eqb x (rule m)) (or-neither (not (eqb x (rule m))) (differs rule (suc m) xs) e).0))
follows-from rule (x ∷ xs) m e (suc n) l =
    follows-from rule xs (suc m) (or-neither (not (eqb x (rule m))) (differs rule (suc m) xs) e).1 n (le_of_suc-le-suc l)
    ∙ ap rule (suc-add m n ∙ sym (add-suc m n))

pub follows : (rule : ℕ → ℕ) (words : List ℕ) → differs rule 0 words ≡ false → Follows rule (length words) words
follows rule words e n l = follows-from rule words 0 e n l ∙ ap rule (zero-add n)

none_from : (rule : ℕ → ℕ) (words : List ℕ) (m : ℕ) → ((n : ℕ) → n < length words → get_or words n 0 ≡ rule (m + n)) → differs rule m words ≡ false
unfolding differs
none_from rule [] m f = refl
none_from rule (x ∷ xs) m f =
    let e : x ≡ rule m = f 0 (omega arith) ∙ ap rule (add-zero m) in
    rw (eq-eqb x (rule m) e) (none_from rule xs (suc m) (λ n l. f (suc n) (suc-le-suc l) ∙ ap rule (add-suc m n ∙ sym (suc-add m n))))

pub none-differs : (rule : ℕ → ℕ) (words : List ℕ) → Follows rule (length words) words → differs rule 0 words ≡ false
none-differs rule words f = none_from rule words 0 (λ n l. f n l ∙ ap rule (sym (zero-add n)))

pub some-differs : (rule : ℕ → ℕ) (words : List ℕ) → (Follows rule (length words) words → ⊥) → differs rule 0 words ≡ true
some-differs rule words none = go (differs rule 0 words) refl
  where
    go : (b : Bool) → differs rule 0 words ≡ b → b ≡ true
    go true e = refl
    go false e = absurd (none (follows rule words e))

-- ---- the table

-- no word of the table differs, and no other list of its length is so
pub table-follows : (rule : ℕ → ℕ) (n c : ℕ) → differs rule n (list_from rule n c) ≡ false
unfolding differs list_from
table-follows rule n zero = refl
table-follows rule n (suc c) = rw (eq-eqb (rule n) (rule n) refl) (table-follows rule (suc n) c)

pub table-only : (rule : ℕ → ℕ) (n : ℕ) (words : List ℕ) → differs rule n words ≡ false → words ≡ list_from rule n (length words)
unfolding differs list_from
table-only rule n [] e = refl
table-only rule n (x ∷ xs) e =
    let h = or-neither (not (eqb x (rule n))) (differs rule (suc n) xs) e in
    ap₂ {C = List ℕ} (λ (y : ℕ) (ys : List ℕ). y ∷ ys) (eqb-true x (rule n) (not-false (eqb x (rule n)) h.0)) (table-only rule (suc n) xs h.1)

pub table_is : (rule : ℕ → ℕ) (c : ℕ) (words : List ℕ) → length words ≡ c → Follows rule c words → words ≡ list_from rule 0 c
table_is rule c words l f = table-only rule 0 words (none-differs rule words (λ n h. f n (rw l at h))) ∙ ap (list_from rule 0) l

-- what is known of the words where they are the table
pub table-length : (rule : ℕ → ℕ) (c : ℕ) (words : List ℕ) → words ≡ list_from rule 0 c → length words ≡ c
table-length rule c words e = ap length e ∙ length_list rule 0 c

pub table_rule : (rule : ℕ → ℕ) (c : ℕ) (words : List ℕ) → words ≡ list_from rule 0 c → Follows rule (length words) words
table_rule rule c words e = follows rule words (rw e (table-follows rule 0 c))

-- ---- the table and its rows, for every width and number of groups

module _ (w : ℕ) {key : ℕ} (pos : 0 < key) where
  pub word_row : (j i : ℕ) → i < 2 ^ w → word w key (j * 2 ^ w + i) ≡ rem key (i ⊗ rem key (2 ^ degree key * 2 ^ (w * j)))
  unfolding word
  word_row j i l =
      rw (digits_mod j l, digits_div j l)
      (ap (rem key) (sym (⊗-pow (degree key + w * j) i) ∙ ap (λ (x : ℕ). i ⊗ x) (pow-add 2 (degree key) (w * j)))
      ∙ sym (rem-⊗-right pos i (2 ^ degree key * 2 ^ (w * j))))

  module _ (words : List ℕ) (c : ℕ) where
    pub follows-rows : Follows (word w key) (c * 2 ^ w) words → Rows w key (2 ^ degree key) c words
    follows-rows f j l i h = f (j * 2 ^ w + i) (digits_lt l h) ∙ word_row j i h

    pub rows_follow : Rows w key (2 ^ degree key) c words → Follows (word w key) (c * 2 ^ w) words
    rows_follow r n l =
        let j = n / 2 ^ w in
        let h = mod-lt n (pow_pos w) in
        ap (λ (m : ℕ). get_or words m 0) (sym (split n w))
        ∙ r j ((div-lt_iff_lt-mul (pow_pos w)).1 l) (n % 2 ^ w) h
        ∙ sym (word_row j (n % 2 ^ w) h)
        ∙ ap (word w key) (split n w)

-- ---- the table of a modulus: four rows of 256 words

module _ (p : Modulus) (words : List ℕ) where
  pub table-long : TableOf p words → length words ≡ 1024
  table-long t = table-length (word 8 (polynomial p)) 1024 words t.2

  pub table-rows : TableOf p words → Rows 8 (polynomial p) (2 ^ p.degree) 4 words
  table-rows t =
      let rule = word 8 (polynomial p) in
      let m = t.0.2 in
      rw (monic-degree p.degree p.low m) at
      (follows-rows 8 (monic-pos p.degree p.low m) words 4 (λ n l. table_rule rule 1024 words t.2 n (rw (table-long t) l)))

  -- the words for four bytes are words for one
  pub first-row : TableOf p words → ReducesByte p words
  first-row t = (t.0, t.1, omega (arith, table-long t), λ j l. table-rows t j (omega arith))

  -- the words of four rows, as they are made and tested: t^k is the coefficients below it
  module _ (proper : Proper p) (long : length words ≡ 1024) where
    pos : 0 < polynomial p
    pos = monic-pos p.degree p.low proper.2

    same_start : rem (polynomial p) p.low ≡ rem (polynomial p) (2 ^ degree (polynomial p))
    same_start =
        residue-small p.degree p.low proper.2 p.low proper.2
        ∙ sym (residue-top p.degree p.low proper.2)
        ∙ ap (λ (n : ℕ). rem (polynomial p) (2 ^ n)) (sym (monic-degree p.degree p.low proper.2))

    rows_iff : Rows 8 (polynomial p) p.low 4 words ↔ Follows (word 8 (polynomial p)) (length words) words
    rows_iff = (
      λ r n l. rows_follow 8 pos words 4 (rows_same pos 8 p.low (2 ^ degree (polynomial p)) 4 words same_start r) n (rw long at l),
      λ f. rows_same pos 8 (2 ^ degree (polynomial p)) p.low 4 words (sym same_start) (follows-rows 8 pos words 4 (λ n l. f n (rw long l))),
    )

    pub table-made : Rows 8 (polynomial p) p.low 4 words → Table (polynomial p) words
    table-made r = table_is (word 8 (polynomial p)) 1024 words long (λ n l. rows_iff.0 r n (rw long l))

    pub table-told : (b : Bool) → (b ≡ true) ↔ Rows 8 (polynomial p) p.low 4 words → b ≡ not (differs (word 8 (polynomial p)) 0 words)
    table-told true h = rw (none-differs (word 8 (polynomial p)) words (rows_iff.0 (h.0 refl)))
    table-told false h = rw (some-differs (word 8 (polynomial p)) words (λ f. true≢false (sym (h.1 (rows_iff.1 f)))))
