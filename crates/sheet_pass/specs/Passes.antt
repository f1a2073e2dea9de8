-- For inner functions: a reader of the promises need not read this page. What a pass over the pages of a file promises.
use Rattle.std.specs.Prelude.{◌≡◌, List, ℕ, ◌≤◌, ◌<◌, length, take, Option, Some, None, IfSome}
use Rattle.std.specs.Borrow.{Bor}
use Rattle.std.proofs.lemmas.List.Edits.{sets}
use Rattle.big_endian.specs.Numbers.{fields_of, numbers_at}
use Rattle.sheets.specs.Inner.{agreeing}

-- a part of memory that is lent has at least n bytes, or none where none is lent
abbrev pub Room : ℕ → List ℕ → Type 0
Room n bytes = 0 < length bytes → n ≤ length bytes

-- known fields have at least n bytes, where some are known
abbrev pub Known : ℕ → Option (Bor (List ℕ)) → Type 0
Known n known = IfSome known (λ fields. n ≤ length fields.now)

-- the fingerprints that are expected of pages: those in the known fields from a place on, or the pages' own where nothing is known
unfoldable pub expected : Option (Bor (List ℕ)) → ℕ → List ℕ → List ℕ
expected None from fs = fs
expected (Some fields) from fs = numbers_at from 8 (length fs) fields.now

-- a pass over pages with the fingerprints fs: so many, from the first on, have the expected ones, and these are written
pub record Passed (fs : List ℕ) (known : Option (Bor (List ℕ))) (before after : List ℕ) (n : ℕ) : Type 0 where
  pub same : n ≡ agreeing (expected known 0 fs) fs
  pub written : after ≡ sets before 0 (fields_of 8 (take n fs))
