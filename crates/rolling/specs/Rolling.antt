-- For inner functions: a reader of the promises need not read this page. The windows of a text, and their residues.
use Rattle.std.specs.Prelude.{◌≡◌, List, ℕ, take, drop}
use Rattle.gf2.specs.Moduli.{polynomial}
use Rattle.files.specs.Files.{bits}
use Rattle.files.specs.PlainMarks.{plain_fingerprint}
use Rattle.rolling.specs.declared.text_windows.Windows.{Windows}

-- the window of m bytes at the place i
unfoldable pub window : ℕ → List ℕ → ℕ → List ℕ
window m text i = take m (drop i text)

-- the residue of bytes without the leading 1: bytes of one length have the same one exactly where they have the same fingerprint
unfoldable pub residue : ℕ → List ℕ → ℕ
residue p bytes = plain_fingerprint p (bits bytes)

abbrev pub key_of : Windows → ℕ
key_of w = polynomial w.modulus

-- x is the residue of the n bytes from the place i on
abbrev pub ResidueOf : Windows → ℕ → ℕ → ℕ → Type 0
ResidueOf w n i x = x ≡ residue (key_of w) (window n w.text.now i)

-- x is the residue of the window at the place i
abbrev pub ResidueAt : Windows → ℕ → ℕ → Type 0
ResidueAt w i x = ResidueOf w w.m i x
