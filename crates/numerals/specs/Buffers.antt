-- What a function that writes a text leaves in a lent buffer. A reader of `printed` need not read this page.
use Rattle.std.specs.Prelude.{◌≡◌, List, ◌++◌, ℕ, ◌+◌, length, take, drop}
use Rattle.io.specs.Counts.{IsPrefixLen}

-- the buffer with a text at a place: its bytes in front of the text and behind it stay
abbrev pub put_at : List ℕ → ℕ → List ℕ → List ℕ
put_at out at text = take at out ++ text ++ drop (at + length text) out

-- a buffer before and after, with a text of n bytes at its front
abbrev pub PutInFront : List ℕ → List ℕ → ℕ → List ℕ → Type 0
PutInFront before after n text = (n ≡ length text) × (IsPrefixLen n after × (after ≡ put_at before 0 text))
