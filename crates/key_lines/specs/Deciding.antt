-- For inner functions: a reader of the promises need not read this page. Which first bytes of an input leave open what the key's line says.
use Rattle.std.specs.Prelude.{Bool, ◌&&◌, List, ℕ, ltb, length}
use Rattle.key_lines.specs.KeyLines.{all_digits}

-- fewer than 18 bytes, all of them digits: what comes behind can still change what the line says
unfoldable pub undecided : List ℕ → Bool
undecided input = ltb (length input) 18 && all_digits input
