-- A key and a mark, as the functions for C have them: in two numbers each.
use Rattle.std.specs.Prelude.{ℕ}
use Rattle.acceptance.specs.declared.Key.{Key}
use Rattle.files.specs.declared.Mark.{Mark}

-- a key in two places: the degree first
abbrev pub key_at : ℕ → ℕ → Key
key_at degree word = record { degree = degree; word = word }

-- a mark in two places
abbrev pub mark_at : ℕ → ℕ → Mark
mark_at fingerprint length = record { fingerprint = fingerprint; length = length }
