-- For inner functions: a reader of the promises need not read this page.
use Rattle.std.specs.Prelude.{◌≡◌, List, length}

-- a lent list whose entries a promise leaves free: it keeps its length
abbrev pub Scratch : {A : Type 0} → List A → List A → Type 0
Scratch before after = length after ≡ length before
