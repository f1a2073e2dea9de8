-- Marks trimmed (document 02, wish 3): "From the marks of a whole log and its front, give the mark of what remains; from whole and back, that of the
-- front." Values alone, whatever is refused. Both marks have the leading 1.
use Rattle.std.specs.Prelude.{ℕ, ◌-◌, ◌*◌, ◌^◌, eqb}
use Rattle.lists.specs.Searches.{first_from}
use Rattle.gf2.specs.Polynomials.{◌⊕◌, degree, rem}
use Rattle.files.specs.declared.Mark.{Mark}
use Rattle.files.specs.Files.{joined}

abbrev pub as_mark : ℕ → ℕ → Mark
as_mark f n = record { fingerprint = f; length = n }

-- the front taken off: W + (F + 1)·t^b, where b is the length of what remains
unfoldable pub without_front : ℕ → Mark → Mark → Mark
without_front key m front =
    let b = m.length - front.length in
    as_mark (rem key (m.fingerprint ⊕ (front.fingerprint ⊕ 1) * 2 ^ b)) b

-- the back taken off: the residue with which joining gives the whole's fingerprint again
unfoldable pub without_back : ℕ → Mark → Mark → Mark
without_back key m back =
    let a = m.length - back.length in
    as_mark (first_from (λ f. eqb (joined key (as_mark f a) back).fingerprint m.fingerprint) 0 (2 ^ degree key)) a
