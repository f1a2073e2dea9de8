-- Laws of reads: what one gave, one that is made again, and what several gave one after another.
use mathlib.Core.Path.{◌≡◌, refl, sym, ap, subst, ◌∙◌}
use mathlib.Core.Bool.{Bool, true, false}
use mathlib.Core.List.{List, [], ◌∷◌, ◌++◌, flatten, append-nil, append_assoc}
use mathlib.Core.Logic.{◌⊎◌}
use Prim.Native.Nat.{ℕ, ◌+◌, ◌<◌}
use native.Mathlib.Omega.{arith}
use lib.ListN.{length, take, length-append}
use Rattle.io.specs.Counts.{IsPrefixLen}
use Rattle.input_calls.specs.declared.Got.{Got}
use Rattle.input_calls.specs.declared.Got.TheVariants.{Bytes, Interrupted}
use Rattle.input_calls.specs.declared.Input.{Input}
use Rattle.input_calls.specs.Reading.{given, over, InFront, Reading, Read, NonEmpty, Gave}

-- ---- what a read gave

module _ (input next : Input) (l : List ℕ) (r : Read input next l) where
  -- where no call was made, the last one gave the end or failed
  made : over next.last ≡ false → over input.last ≡ false
  made e = go (over input.last) refl r
    where
      go : (b : Bool) → over input.last ≡ b → Reading b input next l → over input.last ≡ false
      go true t s = sym (ap (λ (x : Input). over x.last) s) ∙ e
      go false t s = t

  counted : over next.last ≡ false → InFront next.last l × (next.bytes ≡ input.bytes + given next.last)
  counted e = subst (λ (b : Bool). Reading b input next l) (made e) r

  pub read-bytes : (n : ℕ) → next.last ≡ Bytes n → ((0 < n) × IsPrefixLen n l) × (next.bytes ≡ input.bytes + n)
  read-bytes n e =
      let c = counted (ap over e) in
      (subst (λ (g : Got). InFront g l) e c.0, c.1 ∙ ap (λ (g : Got). input.bytes + given g) e)

  pub read_none : given next.last ≡ 0 → next.bytes ≡ input.bytes
  read_none e = go (over input.last) r
    where
      go : (b : Bool) → Reading b input next l → next.bytes ≡ input.bytes
      go true s = ap (λ (x : Input). x.bytes) s
      go false s = omega (arith, s.1)

-- ---- a read that is made again

-- the input before its first call, or behind calls that were interrupted
abbrev pub Waiting : Input → Input → ℕ → Type 0
Waiting input at turns =
    ((at ≡ input) × (turns ≡ 0)) ⊎ ((over input.last ≡ false) × ((at.last ≡ Interrupted) × (at.bytes ≡ input.bytes)))

-- ---- what reads gave one after another

pub gave-none : (input next : Input) → next.bytes ≡ input.bytes → Gave input [] next
unfolding flatten
gave-none input next e = (tt, omega arith)

nonempty_append : (xs ys : List (List ℕ)) → NonEmpty xs → NonEmpty ys → NonEmpty (xs ++ ys)
nonempty_append [] ys p q = q
nonempty_append (x ∷ xs) ys p q = (p.0, nonempty_append xs ys p.1 q)

pub flatten_append : (xs ys : List (List ℕ)) → flatten (xs ++ ys) ≡ flatten xs ++ flatten ys
unfolding flatten
flatten_append [] ys = refl
flatten_append (x ∷ xs) ys = ap (λ (l : List ℕ). x ++ l) (flatten_append xs ys) ∙ sym (append_assoc x (flatten xs) (flatten ys))

pub gave-append : (a b c : Input) (xs ys : List (List ℕ)) → Gave a xs b → Gave b ys c → Gave a (xs ++ ys) c
gave-append a b c xs ys p q =
    let both = ap length (flatten_append xs ys) ∙ length-append (flatten xs) (flatten ys) in
    (nonempty_append xs ys p.0 q.0, omega (arith, p.1, q.1, both))

pub flatten_one : (l : List ℕ) → flatten (l ∷ []) ≡ l
unfolding flatten
flatten_one l = append-nil l

pub gave_one : (input next : Input) (l : List ℕ) (n : ℕ) → Read input next l → next.last ≡ Bytes n → Gave input (take n l ∷ []) next
gave_one input next l n r e =
    let b = read-bytes input next l r n e in
    let one = ap length (flatten_one (take n l)) in
    ((omega (arith, b.0.0, b.0.1.1), tt), omega (arith, b.0.1.1, b.1, one))
