-- The Keyholder level: the claims of specs/Claims.antt, proved.
use mathlib.Core.Path.{◌≡◌, sym, ap, ◌∙◌}
use mathlib.Core.Bool.{true}
use mathlib.Core.List.{List}
use Prim.Native.Nat.{ℕ, ◌*◌, ◌^◌}
use native.Mathlib.Nat.{zero-mul, two-pow-succ}
use native.Mathlib.Omega.{arith}
use lib.Dec.{eqb}
use borrow.Author.Tests.{le-ltb, lt-leb}
use Rattle.gf2.proofs.Degrees.{deg-lo, deg_hi}
use Rattle.acceptance.specs.Keys.{accepted}
use Rattle.lists.proofs.Truth.{and_both}
use Rattle.files.specs.Files.{fingerprint}
use Rattle.lists.specs.Counts.{count_from}
use Rattle.book.specs.Confusions.{confused}
use Rattle.book.proofs.ConfusionLaws.{confusions-count, bursts-count}
use Rattle.site_book.specs.Book.{Route}
use Rattle.site_book.proofs.Guarantee as SiteLevel
use Rattle.draw.specs.Drawing.{draw, drawn_key, elements}
use Rattle.draw.proofs.Fairness.{key-drawn, key-degree, key-accepted, key-only, drawers-count, elements-count, keys_count}
use Rattle.owner_risk.specs.Claims.{Listed, Answered, One, Accepted, Fair, Number, Risk, ByRoutes, NoBurst}

-- ---- the key

pub answered : Answered
unfolding draw
answered k e l m = rw (l, le-ltb e 2 m.0, lt-leb (2 ^ k) e m.1)

pub one : One
one k e l m = (key-drawn k l e m.0 m.1, λ p d. sym (key-only k l e m.0 m.1 p d))

pub is-accepted : Accepted
is-accepted k e l m = (key-accepted k l e m.0 m.1, key-degree k l e m.0 m.1)

-- ---- a uniform element draws a uniform key

pub fair : Fair
fair k l p a d = drawers-count k l p a d

pub number : Number
number k l = keys_count k l

-- ---- the owner's risk

confused-accepted : (a b : List ℕ) (p : ℕ) → confused a b p ≡ true → accepted p ≡ true
unfolding confused
confused-accepted a b p e = (and_both (accepted p) (eqb (fingerprint p a) (fingerprint p b)) e).0

-- k elements for each key
by_keys : (k : ℕ) → Listed k → (a b : List ℕ) → elements k (λ e. confused a b (drawn_key k e)) ≡ count_from (confused a b) (2 ^ k) (2 ^ k) * k
by_keys k l a b = elements-count k l (confused a b) (confused-accepted a b)

pub risk : Risk
risk k l a b ha hb ne n la lb = rw (by_keys k l a b) (confusions-count k a b ha hb ne n la lb)

pub by_routes : ByRoutes Route
by_routes k e l m a b =
    let c = SiteLevel.counted k a b (drawn_key k e) in
    let d = (key-drawn k l e m.0 m.1).of_degree in
    (λ x. (c.0 x).2, λ t. c.1 (deg-lo (drawn_key k e) k d, omega (arith, deg_hi (drawn_key k e) k d, two-pow-succ k), t))

pub no_burst : NoBurst
no_burst k l a b ha hb ne s = by_keys k l a b ∙ ap (λ (n : ℕ). n * k) (bursts-count k a b ha hb ne s) ∙ zero-mul k
