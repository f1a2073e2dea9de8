-- Two files under one key (document 01, "The plain book of demand 3"): which keys confuse them, and how many they are.
use Rattle.std.specs.Prelude.{◌≡◌, Bool, true, ◌&&◌, List, ℕ, eqb}
use Rattle.gf2.specs.Polynomials.{degree}
use Rattle.acceptance.specs.Keys.{accepted}
use Rattle.files.specs.Files.{fingerprint, fingerprint_from}

-- The ways in which our calls give a file's fingerprint under a key: `Route key file f`. Each level has its own; a list of calls
-- (`Leaves`) is one.
abbrev pub Routes : Type 1
Routes = ℕ → List ℕ → ℕ → Type 0

-- an accepted key of degree k under which a route to the one file and a route to the other can leave equal fingerprints
pub record Confuses (Route : Routes) (k : ℕ) (a b : List ℕ) (key : ℕ) : Type 0 where
  pub is-accepted : accepted key ≡ true
  pub of_degree : degree key ≡ k
  pub fingerprint : ℕ
  pub one : Route key a fingerprint
  pub other : Route key b fingerprint

-- the same as a test (`Counted`)
unfoldable pub confused : List ℕ → List ℕ → ℕ → Bool
confused a b key = accepted key && eqb (fingerprint key a) (fingerprint key b)

-- ---- claims

-- what a route leaves is the file's fingerprint
abbrev pub SoundFrom : ℕ → Routes → Type 0
SoundFrom s Route = (key : ℕ) (file : List ℕ) (f : ℕ) → accepted key ≡ true → Route key file f → f ≡ fingerprint_from s key file

-- and there is a route to every file
abbrev pub ReachesFrom : ℕ → Routes → Type 0
ReachesFrom s Route = (key : ℕ) (file : List ℕ) → Route key file (fingerprint_from s key file)

abbrev pub Sound : Routes → Type 0
Sound Route = SoundFrom 1 Route

abbrev pub Reaches : Routes → Type 0
Reaches Route = ReachesFrom 1 Route
