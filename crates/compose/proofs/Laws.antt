-- Laws of the tests of two marks, and of the lengths of two pages.
use mathlib.Core.Path.{◌≡◌, sym, ap, ap₂, ◌∙◌}
use mathlib.Core.Bool.{Bool, true, false, not, or_comm}
use mathlib.Core.List.{[], ◌∷◌}
use Prim.Native.Nat.{ℕ, ◌+◌, ◌^◌, ◌≤◌, min}
use native.Mathlib.Nat.{add_comm}
use native.Mathlib.Omega.{arith}
use lib.Dec.{ltb}
use borrow.Author.Tests.{not-true}
use Rattle.lists.proofs.Truth.{or-left_comm}
use Rattle.refusals.specs.declared.Refusal.TheVariants.{TooLong, MarkNotReduced}
use Rattle.refusals.specs.Refusals.{Done, Refused, state_of, value_or, ◌⇒◌, first_of, longest, passes}
use Rattle.refusals.proofs.Lengths.{within}
use Rattle.refusals.proofs.Replies.{first-keeps}
use Rattle.acceptance.specs.declared.Key.{Key}
use Rattle.acceptance.specs.Keys.{polynomial_of}
use Rattle.files.specs.declared.Mark.{Mark}
use Rattle.files.specs.Files.{unreduced, joined_from}
use Rattle.compose.specs.Composing.{marks_tests, join_tests, join_behind_from, join_in_front_from}

-- ---- they do not depend on the order of the marks

pub marks_swap : (key : ℕ) (x y : Mark) → marks_tests key x y ≡ marks_tests key y x
marks_swap key x y =
    ap₂ (λ (p q : Bool). p ⇒ TooLong ∷ q ⇒ MarkNotReduced ∷ [])
    (or-left_comm (ltb longest x.length) (ltb longest y.length) (passes ((x.length + y.length) ∷ []))
    ∙ ap (λ (n : ℕ). passes (y.length ∷ x.length ∷ n ∷ [])) (add_comm x.length y.length))
    (or_comm (unreduced key x) (unreduced key y))

-- ---- numbers 7 and 8 in turn

module _ {S A : Type 0} (key : ℕ) (x y : Mark) (s : S) (v : A) where
  pub marks-long : passes (x.length ∷ y.length ∷ (x.length + y.length) ∷ []) ≡ true → first_of (marks_tests key x y) s v ≡ Refused TooLong s
  marks-long e = rw e

  module _ (short : passes (x.length ∷ y.length ∷ (x.length + y.length) ∷ []) ≡ false) where
    pub marks-passed : unreduced key x ≡ false → unreduced key y ≡ false → first_of (marks_tests key x y) s v ≡ Done v
    marks-passed e f = rw (short, e, f)

-- ---- as the code counts them

-- where number 7 applies to none of three lengths, of which two are counted up to 2^36 alone, those are counted whole
pub counted-pages : (a m n x y : ℕ) → x ≡ min m (2 ^ 36) → y ≡ min n (2 ^ 36) → true ≡ not (passes (a ∷ x ∷ y ∷ [])) → (x ≡ m) × (y ≡ n) × (a ≤ longest)
counted-pages a m n x y e f g =
    let w = within (a ∷ x ∷ y ∷ []) (not-true (passes (a ∷ x ∷ y ∷ [])) (sym g)) in
    (omega (arith, e, w.1.0), omega (arith, f, w.1.1.0), w.0)

-- ---- on refusal the state is the mark that was handed in

pub behind-keeps : (s : ℕ) (x : Key) (m other : Mark) → value_or m (join_behind_from s x m other) ≡ state_of (join_behind_from s x m other)
unfolding join_behind_from
behind-keeps s x m other = first-keeps (join_tests x m other) m (joined_from s (polynomial_of x) m other)

pub front-keeps : (s : ℕ) (x : Key) (m other : Mark) → value_or m (join_in_front_from s x m other) ≡ state_of (join_in_front_from s x m other)
unfolding join_in_front_from
front-keeps s x m other = first-keeps (join_tests x m other) m (joined_from s (polynomial_of x) other m)
