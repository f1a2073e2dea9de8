-- Lists of calls of any level: where each call keeps the mark true of the book's file and is refused as the book names it, so does
-- every list of calls.
use mathlib.Core.Path.{◌≡◌, refl, ap, ap₂, ◌∙◌}
use mathlib.Core.List.{List, [], ◌∷◌, ◌++◌, map}
use Prim.Native.Nat.{ℕ}
use Rattle.refusals.specs.Refusals.{Answer, state_of, number_of}
use Rattle.book.specs.Runs.{Level, book_step, run, Honest}

-- one call beside one step of the book
abbrev pub Keeps : Level → ℕ → Type 0
Keeps L key =
    (kept : L.Kept) (c : L.Call) → (number_of (book_step L key kept c) ≡ 0 → L.Brings key kept c)
    → (state_of (L.step key (L.truth key kept) c) ≡ L.truth key (state_of (book_step L key kept c)))
    × (number_of (L.step key (L.truth key kept) c) ≡ number_of (book_step L key kept c))

-- the list theorem, once for every level
pub in_step : (L : Level) (key : ℕ) → Keeps L key → (kept : L.Kept) (s : L.State) (calls : List L.Call) → s ≡ L.truth key kept
    → Honest L key kept calls
    → ((run (L.step key) s calls).0 ≡ L.truth key (run (book_step L key) kept calls).0)
    × ((run (L.step key) s calls).1 ≡ (run (book_step L key) kept calls).1)
unfolding run
in_step L key keeps kept s [] t h = (t, refl)
in_step L key keeps kept s (c ∷ cs) t h =
    let o = keeps kept c h.0 in
    let rest = in_step L key keeps (state_of (book_step L key kept c)) (state_of (L.step key s c)) cs (rw t o.0) h.1 in
    (rest.0, ap₂ {C = List ℕ} (λ (x : ℕ) (xs : List ℕ). x ∷ xs) (rw t o.1) rest.1)

-- one call, then the others
pub run-next : {S C : Type 0} (step : S → C → Answer S S) (s : S) (c : C) (cs : List C) (a : Answer S S) → step s c ≡ a
    → run step s (c ∷ cs) ≡ ((run step (state_of a) cs).0, number_of a ∷ (run step (state_of a) cs).1)
unfolding run
run-next step s c cs a e = ap {B = _ × List ℕ} (λ x. ((run step (state_of x) cs).0, number_of x ∷ (run step (state_of x) cs).1)) e

-- a list behind a list
pub run-append : {S C : Type 0} (step : S → C → Answer S S) (s : S) (cs ds : List C) → (run step s (cs ++ ds)).0 ≡ (run step (run step s cs).0 ds).0
unfolding run
run-append step s [] ds = refl
run-append step s (c ∷ cs) ds = run-append step (state_of (step s c)) cs ds

-- calls of one type as calls of another
pub run-map : {S C D : Type 0} (one : S → C → Answer S S) (other : S → D → Answer S S) (f : C → D) → ((s : S) (c : C) → other s (f c) ≡ one s c)
    → (s : S) (cs : List C) → run other s (map f cs) ≡ run one s cs
unfolding run
run-map one other f e s [] = refl
run-map one other f e s (c ∷ cs) =
    run-next other s (f c) (map f cs) (one s c) (e s c)
    ∙ ap {B = _ × List ℕ} (λ r. (r.0, number_of (one s c) ∷ r.1)) (run-map one other f e (state_of (one s c)) cs)
