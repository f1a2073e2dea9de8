-- The head as it is read: the parts stand at its front, one behind the other, until they decide the key's line or the input is over.
use mathlib.Core.Path.{◌≡◌, refl, sym, ap, ◌∙◌}
use mathlib.Core.Bool.{true}
use mathlib.Core.List.{List, [], ◌∷◌, ◌++◌, flatten}
use Prim.Native.Nat.{ℕ, ◌+◌, ◌≤◌, ◌<◌}
use native.Mathlib.Omega.{arith}
use lib.ListN.{length, take, drop, length-drop}
use lib.Seq.{take-add, length-take-le}
use Rattle.key_lines.specs.Deciding.{undecided}
use Rattle.key_lines.proofs.Laws.{undecided-short}
use Rattle.input_calls.specs.declared.Got.TheVariants.{Bytes}
use Rattle.input_calls.specs.declared.Input.{Input}
use Rattle.input_calls.specs.Reading.{Read, Gave}
use Rattle.input_reading.proofs.Given.{read-bytes, gave-none, gave-append, gave_one, flatten_append, flatten_one}

-- the parts that the reads gave stand at the front of the head
abbrev pub Stands : Input → Input → ℕ → List ℕ → Type 0
Stands input at done head = (parts : List (List ℕ)) × (Gave input parts at × (flatten parts ≡ take done head))

pub none-stands : (input : Input) (head : List ℕ) → Stands input input 0 head
unfolding flatten
none-stands input head = ([], (gave-none input input refl, refl))

-- one read behind the first bytes, which stay
module _ (input at : Input) (done : ℕ) (before : List ℕ) (s : Stands input at done before) (next : Input) (head : List ℕ) (within : done ≤ length head)
    (same : take done head ≡ take done before) (read : Read at next (drop done head)) where
  module _ (n : ℕ) (e : next.last ≡ Bytes n) where
    pub bytes_fit : (0 < n) × (done + n ≤ length head)
    bytes_fit =
        let b = read-bytes at next (drop done head) read n e in
        (b.0.0, omega (arith, b.0.1.0, length-drop done head))

    pub bytes_stand : Stands input next (done + n) head
    bytes_stand = (
      s.0 ++ take n (drop done head) ∷ [],
      (
        gave-append input at next s.0 (take n (drop done head) ∷ []) s.1.0 (gave_one at next (drop done head) n read e),
        flatten_append s.0 (take n (drop done head) ∷ [])
            ∙ ap (λ (l : List ℕ). flatten s.0 ++ l) (flatten_one (take n (drop done head)))
            ∙ ap (λ (l : List ℕ). l ++ take n (drop done head)) (s.1.1 ∙ sym same)
            ∙ sym (take-add done n head),
      ),
    )

    -- more is read where they leave the key's line open
    pub still_room : undecided (take (done + n) head) ≡ true → done + n < 18
    still_room e =
        let l = length-take-le (done + n) head bytes_fit.1 in
        omega (arith, undecided-short (take (done + n) head) e, l)
