-- Laws of lanes of a part: each fed for itself, and joined.
use mathlib.Core.Path.{◌≡◌, refl, sym, ap, ap₂, ◌∙◌}
use mathlib.Core.List.{List, [], ◌∷◌, ◌++◌}
use Prim.Native.Nat.{ℕ, zero, suc, ◌+◌, ◌-◌, ◌*◌, ◌%◌, ◌^◌, ◌≤◌, ◌<◌}
use native.Mathlib.Nat.{le_refl, add_comm, zero-mul, one-mul, suc-mul, mul-le-mul_right}
use native.Mathlib.Omega.{arith}
use lib.ListN.{length, get_or, take, drop, take-append-drop, length-drop}
use lib.Pow.{pow_pos}
use lib.Seq.{drop-drop, drop_at, length-take-le, take-add, take_all, take-take}
use Rattle.gf2.specs.Polynomials.{◌⊕◌, ◌⊗◌, rem}
use Rattle.gf2.specs.Moduli.{Proper}
use Rattle.gf2.specs.declared.Modulus.{Modulus}
use Rattle.gf2.proofs.Products.{⊗-pow}
use Rattle.gf2.proofs.Residues.{rem-⊕}
use Rattle.gf2.proofs.Powers.{rem_shl, rem-⊗-right}
use Rattle.files.specs.Files.{bits, value_from}
use Rattle.files.proofs.Values.{value-append, value-⊕, length-bits, bits-append, rem-from}
use Rattle.big_endian.proofs.Pieces.{Going, going-first, going-four, going-all}
use Rattle.table_lanes.specs.Lanes.{EachLane, FourMore, FedLane}

-- the length of a lane
pub lane-length : (p : List ℕ) (a b n : ℕ) → b ≡ a + n → b ≤ length p → length (take (b - a) (drop a p)) ≡ n
lane-length p a b n e l =
    let d : b - a ≡ n = omega arith in
    length-take-le (b - a) (drop a p) (rw length-drop (omega arith)) ∙ d

-- ---- a lane: the n bytes of a part from place a on

drop-take : (i n : ℕ) (l : List ℕ) → i ≤ n → i ≤ length l → drop i (take n l) ≡ take (n - i) (drop i l)
drop-take i n l le h =
    let e : n ≡ i + (n - i) = omega arith in
    ap (λ (m : ℕ). drop i (take m l)) e ∙ ap (drop i) (take-add i (n - i) l) ∙ drop_at (take i l) (take (n - i) (drop i l)) i (length-take-le i l h)

module _ (p : Modulus) (proper : Proper p) (f : ℕ) (part : List ℕ) (a n : ℕ) (l : a + n ≤ length part) where
  abbrev lane : List ℕ
  lane = take n (drop a part)

  length-lane : length (take n (drop a part)) ≡ n
  length-lane = length-take-le n (drop a part) (rw length-drop (omega arith))

  -- c bytes of the lane are bytes of the part
  lane-piece : (i c : ℕ) → i + c ≤ n → take c (drop i (take n (drop a part))) ≡ take c (drop (a + i) part)
  lane-piece i c h =
      ap (take c) (drop-take i n (drop a part) (omega arith) (rw length-drop (omega arith)))
      ∙ take-take c (n - i) (drop i (drop a part)) (omega arith)
      ∙ ap (take c) (drop-drop i a part)

  -- four bytes more
  pub lane-more : (i j x y : ℕ) → i + 4 ≤ n → j ≡ a + i → Going p f (take n (drop a part)) 0 i (x % 2 ^ p.degree) → FourMore p part j x y
      → Going p f (take n (drop a part)) 0 (i + 4) (y % 2 ^ p.degree)
  lane-more i j x y h e g m =
      going-four p proper f lane 0 i (x % 2 ^ p.degree) g _ (y % 2 ^ p.degree) (rw length-lane h)
      (ap (λ (q : List ℕ). value_from 0 (bits q)) (sym (lane-piece i 4 h ∙ ap (λ (m : ℕ). take 4 (drop m part)) (sym e))))
      m

  pub lane-fed : (i x r : ℕ) → n ≤ i → Going p f (take n (drop a part)) 0 i (x % 2 ^ p.degree) → r ≡ x % 2 ^ p.degree → FedLane p f part a n r
  lane-fed i x r h g e = e ∙ going-all p proper f lane 0 i (x % 2 ^ p.degree) g (rw length-lane h)

-- ---- four lanes of n bytes, the first behind f, the others behind nothing: x stands for each lane's start and its bytes before i

abbrev pub LanesGoing : Modulus → ℕ → List ℕ → ℕ → ℕ → List ℕ → Type 0
LanesGoing p f part n i x = EachLane (λ j. Going p (get_or (f ∷ []) j 0) (take n (drop (j * n) part)) 0 i (get_or x j 0 % 2 ^ p.degree))

pub lanes-first : (p : Modulus) (f : ℕ) (part : List ℕ) (n : ℕ) → f < 2 ^ p.degree → LanesGoing p f part n 0 (f ∷ 0 ∷ 0 ∷ 0 ∷ [])
lanes-first p f part n l j h = lane j h
  where
    lane : EachLane (λ j. Going p (get_or (f ∷ []) j 0) (take n (drop (j * n) part)) 0 0 (get_or (f ∷ 0 ∷ 0 ∷ 0 ∷ []) j 0 % 2 ^ p.degree))
    lane zero b = going-first p f (take n (drop (0 * n) part)) l
    lane (suc zero) b = going-first p 0 (take n (drop (1 * n) part)) (pow_pos p.degree)
    lane (suc (suc zero)) b = going-first p 0 (take n (drop (2 * n) part)) (pow_pos p.degree)
    lane (suc (suc (suc zero))) b = going-first p 0 (take n (drop (3 * n) part)) (pow_pos p.degree)
    lane (suc (suc (suc (suc j)))) b = absurd (omega arith)

module _ (p : Modulus) (proper : Proper p) (f : ℕ) (part : List ℕ) (n : ℕ) (l : 4 * n ≤ length part) where
  inside : EachLane (λ j. j * n + n ≤ length part)
  inside j h = omega (arith, suc-mul j n, mul-le-mul_right n h, l)

  pub lanes-more : (i : ℕ) (x y : List ℕ) → i + 4 ≤ n → LanesGoing p f part n i x → EachLane (λ j. FourMore p part (i + j * n) (get_or x j 0) (get_or y j 0))
      → LanesGoing p f part n (i + 4) y
  lanes-more i x y h g m j b =
      lane-more p proper (get_or (f ∷ []) j 0) part (j * n) n (inside j b) i (i + j * n) (get_or x j 0) (get_or y j 0) h (add_comm i (j * n)) (g j b) (m j b)

  pub lanes-fed : (i : ℕ) (x y : List ℕ) → n ≤ i → LanesGoing p f part n i x → EachLane (λ j. get_or y j 0 ≡ get_or x j 0 % 2 ^ p.degree)
      → EachLane (λ j. FedLane p (get_or (f ∷ []) j 0) part (j * n) n (get_or y j 0))
  lanes-fed i x y h g e j b = lane-fed p proper (get_or (f ∷ []) j 0) part (j * n) n (inside j b) i (get_or x j 0) _ h (g j b) (e j b)

-- ---- lanes, each fed for itself, all but the first from 0

lanes-join : {key : ℕ} (pos : 0 < key) (f : ℕ) (p q : List ℕ)
    → rem key (rem key (value_from f (bits p)) ⊗ rem key (2 ^ (8 * length q))) ⊕ rem key (value_from 0 (bits q)) ≡ rem key (value_from f (bits (p ++ q)))
lanes-join {key} pos f p q =
    ap (λ (x : ℕ). x ⊕ rem key (value_from 0 (bits q)))
    (rem-⊗-right pos (rem key (value_from f (bits p))) (2 ^ (8 * length q))
    ∙ ap (rem key) (⊗-pow (8 * length q) (rem key (value_from f (bits p))))
    ∙ rem_shl pos (value_from f (bits p)) (8 * length q))
    ∙ sym (rem-⊕ pos (value_from f (bits p) * 2 ^ (8 * length q)) (value_from 0 (bits q)))
    ∙ ap (rem key)
    (ap (λ (n : ℕ). value_from f (bits p) * 2 ^ n ⊕ value_from 0 (bits q)) (sym (length-bits q))
    ∙ sym (value-⊕ (value_from f (bits p)) (bits q))
    ∙ sym (value-append f (bits p) (bits q))
    ∙ ap (value_from f) (sym (bits-append p q)))

module _ {key : ℕ} (pos : 0 < key) (f : ℕ) (p : List ℕ) where
  -- the lane of n bytes from place a to place b joined
  pub lane-joined : (a b n x y t r : ℕ) → b ≡ a + n → b ≤ length p
      → x ≡ rem key (value_from f (bits (take a p)))
      → y ≡ rem key (value_from 0 (bits (take n (drop a p))))
      → t ≡ rem key (2 ^ (8 * n))
      → r ≡ rem key (x ⊗ t) ⊕ y
      → r ≡ rem key (value_from f (bits (take b p)))
  lane-joined a b n x y t r e l ex ey et er =
      let long : length (take n (drop a p)) ≡ n = length-take-le n (drop a p) (rw length-drop (omega arith)) in
      er
      ∙ ap₂ (λ (u v : ℕ). u ⊕ v) (ap₂ (λ (u v : ℕ). rem key (u ⊗ v)) ex (et ∙ ap (λ (u : ℕ). rem key (2 ^ (8 * u))) (sym long))) ey
      ∙ lanes-join pos f (take a p) (take n (drop a p))
      ∙ ap (λ (w : List ℕ). rem key (value_from f (bits w))) (sym (take-add a n p) ∙ ap (λ (u : ℕ). take u p) (sym e))

  -- four lanes of n bytes joined one after the other
  pub four-joined : (n t r : ℕ) (x : List ℕ) → 4 * n ≤ length p
      → EachLane (λ j. get_or x j 0 ≡ rem key (value_from (get_or (f ∷ []) j 0) (bits (take n (drop (j * n) p)))))
      → t ≡ rem key (2 ^ (8 * n))
      → (let join : ℕ → ℕ → ℕ = λ u v. rem key (u ⊗ t) ⊕ v in r ≡ join (join (join (get_or x 0 0) (get_or x 1 0)) (get_or x 2 0)) (get_or x 3 0))
      → r ≡ rem key (value_from f (bits (take (4 * n) p)))
  four-joined n t r x l e et er =
      let join : ℕ → ℕ → ℕ = λ u v. rem key (u ⊗ t) ⊕ v in
      let ab = join (get_or x 0 0) (get_or x 1 0) in
      let abc = join ab (get_or x 2 0) in
      let start : rem key (value_from f (bits (take n (drop (0 * n) p)))) ≡ rem key (value_from f (bits (take (1 * n) p))) =
      ap₂ (λ (k m : ℕ). rem key (value_from f (bits (take m (drop k p))))) (zero-mul n) (sym (one-mul n)) in
      let two = lane-joined (1 * n) (2 * n) n (get_or x 0 0) (get_or x 1 0) t ab (omega arith) (omega (arith, l))
      (e 0 (omega arith) ∙ start) (e 1 (omega arith)) et refl in
      let three = lane-joined (2 * n) (3 * n) n ab (get_or x 2 0) t abc (omega arith) (omega (arith, l)) two (e 2 (omega arith)) et refl in
      lane-joined (3 * n) (4 * n) n abc (get_or x 3 0) t r (omega arith) l three (e 3 (omega arith)) et er

  -- and what is left behind them
  pub lane-rest : (b x r : ℕ) → x ≡ rem key (value_from f (bits (take b p))) → r ≡ rem key (value_from x (bits (take (length p - b) (drop b p))))
      → r ≡ rem key (value_from f (bits p))
  lane-rest b x r ex er =
      er
      ∙ ap₂ (λ (u : ℕ) (q : List ℕ). rem key (value_from u (bits q))) ex (take_all (length p - b) (drop b p) (rw length-drop (le_refl (length p - b))))
      ∙ rem-from pos (value_from f (bits (take b p))) (bits (drop b p))
      ∙ ap (rem key)
      (sym (value-append f (bits (take b p)) (bits (drop b p)))
      ∙ ap (value_from f) (sym (bits-append (take b p) (drop b p)))
      ∙ ap (λ (q : List ℕ). value_from f (bits q)) (take-append-drop b p))
