-- Laws of lists whose entries follow a rule: one lane of entries, and four lanes side by side.
use mathlib.Core.Path.{◌≡◌, ◌∙◌}
use mathlib.Core.Logic.{◌⊎◌, inl, inr, ◌≢◌}
use mathlib.Core.List.{List}
use Prim.Native.Nat.{ℕ, ◌+◌, ◌≤◌, ◌<◌}
use native.Mathlib.Decide.{ℕ_discrete}
use native.Mathlib.Omega.{arith}
use lib.ListN.{length, get_or, set, length-set}
use lib.Seq.{get_or-set_same, get_or-set_other}
use Rattle.windows.specs.Flags.{Filled}

-- ---- entries that follow a rule

module _ {A : Type 0} {d : A} {rule : ℕ → A} where
  -- one more, behind them
  pub filled_more : (n c : ℕ) (l : List A) (v : A) → Filled d rule n c l → c < length l → v ≡ rule c → Filled d rule n (c + 1) (set l c v)
  filled_more n c l v f h e = record { entry = λ i a b. go i a b (ℕ_discrete i c) }
    where
      go : (i : ℕ) → n ≤ i → i < c + 1 → Dec (i ≡ c) → get_or (set l c v) i d ≡ rule i
      go i a b (yes q) = rw q (get_or-set_same l c v d h ∙ e)
      go i a b (no q) = get_or-set_other l c i v d q ∙ f.entry i a (omega arith)

  -- a store elsewhere
  pub filled-other : (n c j : ℕ) (l : List A) (v : A) → Filled d rule n c l → (j < n) ⊎ (c ≤ j) → Filled d rule n c (set l j v)
  filled-other n c j l v f o = record { entry = λ i a b. get_or-set_other l j i v d (apart i a b o) ∙ f.entry i a b }
    where
      apart : (i : ℕ) → n ≤ i → i < c → (j < n) ⊎ (c ≤ j) → i ≢ j
      apart i a b (inl h) e = omega arith
      apart i a b (inr h) e = omega arith

-- ---- four lanes of 256 entries, j of each filled

module _ {A : Type 0} (d : A) (rule : ℕ → A) where
  abbrev pub LanesFilled : ℕ → List A → Type 0
  LanesFilled j l =
      Filled d rule 0 j l
      × Filled d rule 256 (j + 256) l
      × Filled d rule 512 (j + 512) l
      × Filled d rule 768 (j + 768) l

  pub lanes-more : (j : ℕ) (l : List A) (u v w x : A) → j < 256 → length l ≡ 1024 → LanesFilled j l
      → u ≡ rule j → v ≡ rule (j + 256) → w ≡ rule (j + 512) → x ≡ rule (j + 768)
      → LanesFilled (j + 1) (set (set (set (set l j u) (j + 256) v) (j + 512) w) (j + 768) x)
  lanes-more j l u v w x h n (p, q, r, s) eu ev ew ex =
      let l1 = set l j u in
      let l2 = set l1 (j + 256) v in
      let l3 = set l2 (j + 512) w in
      let e2 : j + 256 + 1 ≡ j + 1 + 256 = omega arith in
      let e3 : j + 512 + 1 ≡ j + 1 + 512 = omega arith in
      let e4 : j + 768 + 1 ≡ j + 1 + 768 = omega arith in
      let long : length l3 ≡ 1024 = simp length-set n in (
        filled-other 0 (j + 1) (j + 768) l3 x
            (filled-other 0 (j + 1) (j + 512) l2 w
            (filled-other 0 (j + 1) (j + 256) l1 v (filled_more 0 j l u p (omega arith) eu) (inr (omega arith)))
            (inr (omega arith)))
            (inr (omega arith)),
        rw e2 at
            (filled-other 256 (j + 256 + 1) (j + 768) l3 x
            (filled-other 256 (j + 256 + 1) (j + 512) l2 w
            (filled_more 256 (j + 256) l1 v (filled-other 256 (j + 256) j l u q (inl (omega arith))) (simp length-set (omega arith)) ev)
            (inr (omega arith)))
            (inr (omega arith))),
        rw e3 at
            (filled-other 512 (j + 512 + 1) (j + 768) l3 x
            (filled_more 512 (j + 512) l2 w
            (filled-other 512 (j + 512) (j + 256) l1 v (filled-other 512 (j + 512) j l u r (inl (omega arith))) (inl (omega arith)))
            (simp length-set (omega arith)) ew)
            (inr (omega arith))),
        rw e4 at
            (filled_more 768 (j + 768) l3 x
            (filled-other 768 (j + 768) (j + 512) l2 w
            (filled-other 768 (j + 768) (j + 256) l1 v (filled-other 768 (j + 768) j l u s (inl (omega arith))) (inl (omega arith)))
            (inl (omega arith)))
            (omega arith) ex),
      )
