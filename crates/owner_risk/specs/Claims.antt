-- What the owner of a key is told (document 01, "Polynomials and keys"; 000, section 2), for each listed degree k. The elements are the
-- numbers from 2 to 2^k - 1: 2^k - 2 of them. Each claim is a count of elements, so that for an element that is drawn uniformly it is
-- a probability: the count over 2^k - 2.
use Rattle.std.specs.Prelude.{◌≡◌, ◌≢◌, ◌↔◌, true, List, ℕ, ◌-◌, ◌*◌, ◌^◌, ◌≤◌, ◌<◌, eqb, length}
use Rattle.gf2.specs.Polynomials.{degree}
use Rattle.refusals.specs.Refusals.{Done}
use Rattle.acceptance.specs.Keys.{accepted, key_of}
use Rattle.files.specs.Files.{Bits}
use Rattle.files.specs.Bursts.{Burst}
use Rattle.lists.specs.Members.{among}
use Rattle.lists.specs.Counts.{count_from}
use Rattle.book.specs.Confusions.{Routes, Confuses, confused}
use Rattle.stock.specs.Stock.{stock_key}
use Rattle.draw.specs.Drawing.{degrees, drawn_key, elements, draw, Draws}

abbrev pub Listed : ℕ → Type 0
Listed k = among k degrees ≡ true

abbrev pub Element : ℕ → ℕ → Type 0
Element k e = (2 ≤ e) × (e < 2 ^ k)

-- ---- the key

-- The call is not refused, and answers it as its degree and its word.
abbrev pub Answered : Type 0
Answered = (k e : ℕ) → Listed k → Element k e → draw k e ≡ Done (key_of (drawn_key k e))

-- "the drawn key is the one polynomial p of degree k with p(element) = 0 modulo f": it is one, and there is no other.
abbrev pub One : Type 0
One = (k e : ℕ) → Listed k → Element k e → Draws (stock_key k) k e (drawn_key k e) × ((p : ℕ) → Draws (stock_key k) k e p → p ≡ drawn_key k e)

abbrev pub Accepted : Type 0
Accepted = (k e : ℕ) → Listed k → Element k e → (accepted (drawn_key k e) ≡ true) × (degree (drawn_key k e) ≡ k)

-- ---- a uniform element draws a uniform key

-- Rabin's Lemma 2: each accepted key of degree k is drawn by exactly k elements,
abbrev pub Fair : Type 0
Fair = (k : ℕ) → Listed k → (p : ℕ) → accepted p ≡ true → degree p ≡ k → elements k (λ e. eqb (drawn_key k e) p) ≡ k

-- Rabin's Lemma 1: and so there are (2^k - 2) / k of them.
abbrev pub Number : Type 0
Number = (k : ℕ) → Listed k → count_from accepted (2 ^ k) (2 ^ k) * k ≡ 2 ^ k - 2

-- ---- the owner's risk

-- Of two different files of at most n bits, at most n elements draw a key under which they have equal fingerprints.
abbrev pub Risk : Type 0
Risk =
    (k : ℕ) → Listed k → (a b : List ℕ) → Bits a → Bits b → a ≢ b → (n : ℕ) → length a ≤ n → length b ≤ n
    → elements k (λ e. confused a b (drawn_key k e)) ≤ n

-- These are the elements that draw a key under which, by any of our calls, a route to the one file and a route to the other can leave
-- equal fingerprints.
abbrev pub ByRoutes : Routes → Type 0
ByRoutes Route =
    (k e : ℕ) → Listed k → Element k e → (a b : List ℕ) → Confuses Route k a b (drawn_key k e) ↔ (confused a b (drawn_key k e) ≡ true)

-- Where the lengths are equal and the first and last differing bits are at most k - 1 places apart, there is no such element.
abbrev pub NoBurst : Type 0
NoBurst =
    (k : ℕ) → Listed k → (a b : List ℕ) → Bits a → Bits b → a ≢ b → Burst k a b → elements k (λ e. confused a b (drawn_key k e)) ≡ 0
