-- What is claimed of accepted keys (document 01, "Polynomials and keys"; document 02, wish 8), beside their definition; proofs/Laws.antt
-- proves it.
use Rattle.std.specs.Prelude.{◌≡◌, ◌≢◌, ◌↔◌, true, false, ℕ, ◌^◌, ◌≤◌, ◌<◌, ltb}
use Rattle.gf2.specs.Polynomials.{degree, Divides, Irreducible}
use Rattle.acceptance.specs.declared.Key.{Key}
use Rattle.acceptance.specs.Keys.{reducible, accepted, polynomial_of, key_of, outside}

-- degree 8 to 64, and irreducible
abbrev pub AcceptedIff : Type 0
AcceptedIff = (p : ℕ) → (accepted p ≡ true) ↔ ((8 ≤ degree p) × (degree p ≤ 64) × Irreducible p)

-- "k from 8 to 63", 64 since wish 8, "and no polynomial of degree 1 to k−1 divides it"
abbrev pub AcceptedWords : Type 0
AcceptedWords = (p : ℕ) → (accepted p ≡ true) ↔ ((8 ≤ degree p) × (degree p ≤ 64) × ((d : ℕ) → 1 ≤ degree d → degree d < degree p → Divides d p → ⊥))

-- of a key handed in: neither 1 nor 2 applies where its polynomial is accepted and it is that polynomial's, and only there
abbrev pub KeyIff : Type 0
KeyIff =
    (x : Key) → ((outside x ≡ false) × (reducible (polynomial_of x) ≡ false)) ↔ ((accepted (polynomial_of x) ≡ true) × (x ≡ key_of (polynomial_of x)))

-- of a number of 64 bits, as sheets of versions 1 to 3 hold a key: number 1 is document 01's, "key below 256"
abbrev pub WordOutside : Type 0
WordOutside = (n : ℕ) → n < 2 ^ 64 → outside (key_of n) ≡ ltb n 256

-- no accepted key has the word 0, so that 0 can stand for no key in a list of words
abbrev pub WordNotZero : Type 0
WordNotZero = (p : ℕ) → accepted p ≡ true → (key_of p).word ≢ 0
