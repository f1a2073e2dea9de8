-- For inner functions: a reader of the promises need not read this page. A part as the code takes it: its whole bytes, and the used bits
-- behind them.
use Rattle.std.specs.Prelude.{cond, List, ℕ, ◌-◌, ◌*◌, ◌^◌, min, eqb, length, drop}
use Rattle.files.specs.Files.{Part, part_length, part_bits}

-- all bytes, or all but the final one
abbrev pub whole_bytes : Part → ℕ
whole_bytes p = cond (eqb p.used 8) (length p.bytes) (length p.bytes - 1)

abbrev pub end_bits : Part → List ℕ
end_bits p = drop (8 * whole_bytes p) (part_bits p)

-- the length as the code counts it, up to 2^36, which passes the limit of number 7: the bits of more bytes might not fit 64 bits
abbrev pub counted_length : Part → ℕ
counted_length p = min (part_length p) (2 ^ 36)
