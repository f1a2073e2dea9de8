-- What the callers of the test rely on. A caller that takes the answer t apart has `told t ≡ test_key x` and, of its arm, t ≡ Ok p or t ≡ Err q.
use mathlib.Core.Path.{◌≡◌, sym, ap, ◌∙◌}
use mathlib.Core.List.{List, ◌++◌}
use Rattle.std.specs.Prelude.{Result, Ok, Err}
use Rattle.gf2.specs.declared.Modulus.{Modulus}
use Rattle.refusals.specs.declared.Refusal.{Refusal}
use Rattle.refusals.specs.Refusals.{Refused, Test, first_of}
use Rattle.refusals.specs.Answers.{told}
use Rattle.refusals.proofs.Laws.{done-clear, more-refused}
use Rattle.acceptance.specs.declared.Key.{Key}
use Rattle.acceptance.specs.Keys.{as_modulus, key_tests}
use Rattle.acceptance.specs.Opened.{Opened}
use Rattle.acceptance.proofs.Laws.{key_iff}
use Rattle.keys.specs.Testing.{test_key}

module _ (t : Result Modulus Refusal) (x : Key) (e : told t ≡ test_key x) where
  -- the accepted key is opened
  pub opened : (p : Modulus) → t ≡ Ok p → Opened x p
  unfolding test_key
  opened p a =
      let c = done-clear (key_tests x) tt (as_modulus x) p (sym e ∙ ap told a) in
      record { in_range = c.0.0; is-accepted = ((key_iff x).0 (c.0.0, c.0.1.0)).0; parts = sym c.1 }

  -- the tests of a call that begin with those of the key
  pub refused : {S A : Type 0} (ts : List Test) (s : S) (v : A) (q : Refusal) → t ≡ Err q → first_of (key_tests x ++ ts) s v ≡ Refused q s
  unfolding test_key
  refused ts s v q a = more-refused (key_tests x) ts tt s (as_modulus x) v q (sym e ∙ ap told a)
