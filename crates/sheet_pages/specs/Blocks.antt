-- For inner functions: a reader of the promises need not read this page. What they promise of a block of pages.
use Rattle.std.specs.Prelude.{◌≡◌, List, ℕ, Option, ◌*◌, min, take}
use Rattle.std.specs.Option.{MatchOption}
use Rattle.gf2.specs.Moduli.{polynomial, Proper}
use Rattle.gf2.specs.declared.Modulus.{Modulus}
use Rattle.files.specs.Files.{Part, part_length, part_bits}
use Rattle.multiples.specs.Rows.{SameFrom}
use Rattle.house.specs.House.{house_key}
use Rattle.sheet_pages.specs.declared.page_tables.PageTables.{PageTables}
use Rattle.sheets.specs.Layout.{Layout, page_count}
use Rattle.sheets.specs.Sheets.{page_fingerprints}

-- what pages are fed by under a modulus: its tables, or none where it is the house key, for folding
pub record FedBy (p : Modulus) (tables : Option PageTables) : Type 0 where
  pub proper : Proper p
  pub way : MatchOption tables (polynomial p ≡ house_key) (λ t. t.table.p ≡ p)

-- the next n pages, of s bytes, of what is left of a file, as a version takes them: all of them, at most 64. Their fingerprints stand in the
-- first n places, the others stay.
pub record NextPages (v : Layout) (key s : ℕ) (rest : Part) (n : ℕ) (before marks : List ℕ) : Type 0 where
  pub count : n ≡ min (page_count (8 * s) (part_length rest)) 64
  pub prints : take n marks ≡ page_fingerprints v key (8 * s) n (part_bits rest)
  pub behind : SameFrom n before marks
