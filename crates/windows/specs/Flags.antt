-- For inner functions: a reader of the promises need not read this page. The flags of a text's windows.
use Rattle.std.specs.Prelude.{◌≡◌, Bool, false, List, ℕ, ◌+◌, ◌≤◌, ◌<◌, eqb, length, get_or}
use Rattle.rolling.specs.declared.text_windows.Windows.{Windows}
use Rattle.rolling.specs.Rolling.{window, residue, key_of, ResidueAt}

-- the entries n to c - 1 of a list follow a rule
pub record Filled {A : Type 0} (default : A) (rule : ℕ → A) (n c : ℕ) (list : List A) : Type 0 where
  pub entry : (i : ℕ) → n ≤ i → i < c → get_or list i default ≡ rule i

-- of the window j places behind `from`: it has the wanted residue
unfoldable pub hit : Windows → ℕ → ℕ → Bool
hit w from j = eqb (residue (key_of w) (window w.m w.text.now (from + j))) w.wanted

-- the flags of `size` windows in a list of 1,024, whose other flags stay as they were before; and the residue of the next window, which is
-- free where there is no next one
pub record Flagged (w : Windows) (from size rest : ℕ) (before list : List Bool) : Type 0 where
  pub flags : Filled false (hit w from) 0 size list
  pub behind : Filled false (λ i. get_or before i false) size 1024 list
  pub next : from + size + w.m ≤ length w.text.now → ResidueAt w (from + size) rest
