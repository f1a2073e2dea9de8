-- When a polynomial over GF(2) is irreducible, after Berlekamp: where squaring modulo it kills no residue of at most two thirds of its degree
-- but 0 and fixes none but 0 and 1. Squaring is linear, so both can be tested by elimination. Two thirds are enough: where no residue but 0
-- and 1 is fixed, p is a power of one irreducible polynomial, and where q^e with e above 1 is p, q^((e + 1) / 2) is killed.
use mathlib.Core.Path.{◌≡◌, refl, sym, ap, ◌∙◌}
use mathlib.Core.Logic.{◌≢◌, ◌⊎◌, inl, inr, ⊎_elim}
use Prim.Native.Nat.{ℕ, zero, suc, ◌+◌, ◌*◌, ◌/◌, ◌^◌, ◌≤◌, ◌<◌}
use native.Mathlib.Nat.{le_refl, lt_of_lt_of_le}
use native.Mathlib.Decide.{ℕ_discrete, dec_lt}
use native.Mathlib.Omega.{arith}
use lib.Pow.{pow_mono}
use Rattle.gf2.specs.Polynomials.{◌⊕◌, ◌⊗◌, degree, rem, Divides}
use Rattle.gf2.specs.Criterion.{Rigid, RigidIrreducible, IrreducibleRigid}
use Rattle.gf2.proofs.Sums.{⊕-eq, ⊕-lt, xor}
use Rattle.gf2.proofs.Products.{one-⊗, ⊗-one, ⊗_comm, ⊗_assoc, ring}
use Rattle.gf2.proofs.Degrees.{degree-is, degree-eq, degree-from, deg_hi, deg-le, deg-zero}
use Rattle.gf2.proofs.Divisors.{dvd_by, dvd-left, dvd-⊕, dvd-⊗, dvd_trans, dvd-small}
use Rattle.gf2.proofs.Residues.{rem_lt, rem-dvd, rem_cong, rem-⊗, rem_of_dvd, dvd_of_rem-zero}
use Rattle.gf2.proofs.Irreducibles.{Bezout, bezout, euclid_lemma, pos-left, pos-right, factor_degrees, factor_lt, whole}

dvd-one : (d : ℕ) → Divides d 1 → d ≡ 1
dvd-one d h = whole d 1 h (le_refl 1) (rw (degree-eq 1 0 refl) (pos-right h.quotient d 1 h.product (le_refl 1)))

-- p = q ⊗ d, and the factors have no common divisor: u ⊗ q is idempotent modulo p, so it is 0 or 1 there
module _ (p q d u v : ℕ) (r : Rigid p) (is : q ⊗ d ≡ p) (one : u ⊗ q ⊕ v ⊗ d ≡ 1) where
  pos : 0 < p
  pos = omega (arith, r.proper)

  w : ℕ
  w = u ⊗ q

  e : ℕ
  e = rem p w

  square : Divides p (w ⊗ w ⊕ w)
  unfolding w
  square = dvd_by (dvd-left (u ⊗ v) p) (ap (λ (x : ℕ). u ⊗ v ⊗ x) (sym is) ∙ expand ∙ ap (λ (x : ℕ). w ⊗ w ⊕ w ⊗ x) one ∙ simp ⊗-one)
    where
      expand : u ⊗ v ⊗ (q ⊗ d) ≡ u ⊗ q ⊗ (u ⊗ q) ⊕ u ⊗ q ⊗ (u ⊗ q ⊕ v ⊗ d)
      expand = simp ring

  idempotent : rem p (e ⊗ e) ≡ e
  unfolding e
  idempotent = sym (rem-⊗ pos w w) ∙ rem_cong pos (w ⊗ w) w square

  d-divides : Divides d p
  d-divides = dvd_by (dvd-left q d) is

  q-divides : Divides q p
  q-divides = dvd_by (dvd-left d q) (⊗_comm d q ∙ is)

  trivial : (d ≡ 1) ⊎ (d ≡ p)
  unfolding e w
  trivial = go (dec_lt 1 e)
    where
      at_zero : e ≡ 0 → d ≡ 1
      at_zero z = dvd-one d (dvd_by (dvd-⊕ (dvd_trans d-divides (dvd_of_rem-zero pos w z)) (dvd-left v d)) one)

      at_one : e ≡ 1 → d ≡ p
      at_one o = sym (one-⊗ d) ∙ ap (λ (x : ℕ). x ⊗ d) (sym q-one) ∙ is
        where
          q-one : q ≡ 1
          q-one = dvd-one q (dvd_by (dvd-⊕ (dvd-left u q) (dvd_trans q-divides (rem-dvd pos w))) (rw o (simp xor)))

      small : (n : ℕ) → ¬ (1 < n) → (n ≡ 0) ⊎ (n ≡ 1)
      small zero h = inl refl
      small (suc zero) h = inr refl
      small (suc (suc n)) h = absurd (omega arith)

      go : Dec (1 < e) → (d ≡ 1) ⊎ (d ≡ p)
      go (yes l) = absurd (r.no_idempotent e l (rem_lt pos w) idempotent)
      go (no n) = ⊎_elim (λ z. inl (at_zero z)) (λ o. inr (at_one o)) (small e n)

-- p = m ⊗ (g ⊗ g) with g not 1
module _ (p : ℕ) (r : Rigid p) where
  whole_pos : 0 < p
  whole_pos = omega (arith, r.proper)

  -- where m divides g, m ⊗ g is nilpotent modulo p, and of at most two thirds of its degree
  no_cube : (m g : ℕ) → m ⊗ (g ⊗ g) ≡ p → Divides m g → ⊥
  no_cube m g is d = r.no_nilpotent (m ⊗ g) some short (rem_of_dvd whole_pos (m ⊗ g ⊗ (m ⊗ g)) nilpotent)
    where
      split : m ⊗ g ⊗ g ≡ p
      split = ⊗_assoc m g g ∙ is

      some : 0 < m ⊗ g
      some = pos-left (m ⊗ g) g p split whole_pos

      g-pos : 0 < g
      g-pos = pos-right (m ⊗ g) g p split whole_pos

      short : m ⊗ g < 2 ^ (2 * degree p / 3 + 1)
      short =
          lt_of_lt_of_le (deg_hi (m ⊗ g) (degree (m ⊗ g)) (degree-is (m ⊗ g) some))
          (pow_mono
          (omega (
            arith,
            factor_degrees (m ⊗ g) g p split whole_pos,
            factor_degrees m g (m ⊗ g) refl some,
            factor_degrees d.quotient m g d.product g-pos,
          )))

      nilpotent : Divides p (m ⊗ g ⊗ (m ⊗ g))
      nilpotent = dvd_by (dvd-left m p) (ap (λ (x : ℕ). m ⊗ x) (sym is) ∙ sorted)
        where
          sorted : m ⊗ (m ⊗ (g ⊗ g)) ≡ m ⊗ g ⊗ (m ⊗ g)
          sorted = simp ring

  -- c = g / q divides m, and n = m / c has no common divisor with g: so n is 1
  rest-one : (g c n q u v : ℕ) → n ⊗ (c ⊗ (g ⊗ g)) ≡ p → q ⊗ c ≡ g → u ⊗ n ⊕ v ⊗ g ≡ 1 → g ≢ 1 → n ≡ 1
  rest-one g c n q u v is dq one ne = go (trivial p n d (u ⊗ (a ⊗ a ⊕ (a ⊗ b ⊕ b ⊗ b))) (v ⊗ v ⊗ v ⊗ q) r is combined)
    where
      a : ℕ
      a = u ⊗ n

      b : ℕ
      b = v ⊗ g

      d : ℕ
      d = c ⊗ (g ⊗ g)

      combined : u ⊗ (a ⊗ a ⊕ (a ⊗ b ⊕ b ⊗ b)) ⊗ n ⊕ v ⊗ v ⊗ v ⊗ q ⊗ d ≡ 1
      combined =
          regroup ∙ ap (λ (x : ℕ). u ⊗ (a ⊗ a ⊕ (a ⊗ b ⊕ b ⊗ b)) ⊗ n ⊕ v ⊗ v ⊗ v ⊗ (x ⊗ (g ⊗ g))) dq
          ∙ cubed ∙ ap (λ (x : ℕ). x ⊗ (x ⊗ x)) one ∙ simp one-⊗
        where
          regroup : u ⊗ (a ⊗ a ⊕ (a ⊗ b ⊕ b ⊗ b)) ⊗ n ⊕ v ⊗ v ⊗ v ⊗ q ⊗ (c ⊗ (g ⊗ g))
              ≡ u ⊗ (a ⊗ a ⊕ (a ⊗ b ⊕ b ⊗ b)) ⊗ n ⊕ v ⊗ v ⊗ v ⊗ (q ⊗ c ⊗ (g ⊗ g))
          regroup = simp ring

          cubed : u ⊗ (a ⊗ a ⊕ (a ⊗ b ⊕ b ⊗ b)) ⊗ n ⊕ v ⊗ v ⊗ v ⊗ (g ⊗ (g ⊗ g)) ≡ (u ⊗ n ⊕ v ⊗ g) ⊗ ((u ⊗ n ⊕ v ⊗ g) ⊗ (u ⊗ n ⊕ v ⊗ g))
          cubed = simp ring

      go : (d ≡ 1) ⊎ (d ≡ p) → n ≡ 1
      go (inl e) = absurd (ne (dvd-one g (dvd_by (dvd-left (c ⊗ g) g) (⊗_assoc c g g ∙ e))))
      go (inr e) = deg-zero n (rw zero-degree at (degree-is n (pos-left n (c ⊗ (g ⊗ g)) p is whole_pos)))
        where
          zero-degree : degree n ≡ 0
          zero-degree = omega (arith, factor_degrees n (c ⊗ (g ⊗ g)) p is whole_pos, ap degree e)

  -- a divisor s of m / c and g divides c too: its square goes from m to g ⊗ g
  abbrev Smaller : ℕ → Type 0
  Smaller m = (m' g' : ℕ) → degree m' < degree m → m' ⊗ (g' ⊗ g') ≡ p → g' ≢ 1 → ⊥

  moved : (m g s i j : ℕ) → m ⊗ (g ⊗ g) ≡ p → i ⊗ s ⊗ (j ⊗ s) ≡ m → g ≢ 1 → s ≢ 1 → Smaller m → ⊥
  moved m g s i j is em ne sn again = again (i ⊗ j) (g ⊗ s) less (sorted ∙ ap (λ (x : ℕ). x ⊗ (g ⊗ g)) em ∙ is) not-one
    where
      not-one : g ⊗ s ≢ 1
      not-one e = ne (dvd-one g (dvd_by (dvd-left s g) (⊗_comm s g ∙ e)))

      sorted : i ⊗ j ⊗ (g ⊗ s ⊗ (g ⊗ s)) ≡ i ⊗ s ⊗ (j ⊗ s) ⊗ (g ⊗ g)
      sorted = simp ring

      out : i ⊗ j ⊗ (s ⊗ s) ≡ m
      out = rearranged ∙ em
        where
          rearranged : i ⊗ j ⊗ (s ⊗ s) ≡ i ⊗ s ⊗ (j ⊗ s)
          rearranged = simp ring

      m-pos : 0 < m
      m-pos = pos-left m (g ⊗ g) p is whole_pos

      less : degree (i ⊗ j) < degree m
      less =
          deg-le (i ⊗ j) (degree (i ⊗ j)) (degree m) (degree-is (i ⊗ j) (pos-left (i ⊗ j) (s ⊗ s) m out m-pos))
          (factor_lt (i ⊗ j) (s ⊗ s) m out m-pos (λ e. sn (dvd-one s (dvd_by (dvd-left s s) e))))

  -- with c the greatest common divisor of m and g, and s that of n = m / c and g
  parted : (m g : ℕ) → m ⊗ (g ⊗ g) ≡ p → g ≢ 1 → Smaller m → (z : Bezout m g) → Bezout z.left.quotient g → ⊥
  parted m g is ne again z y = by_gcd (ℕ_discrete s 1)
    where
      c : ℕ
      c = z.gcd

      n : ℕ
      n = z.left.quotient

      s : ℕ
      s = y.gcd

      s-m : Divides s m
      s-m = dvd_by (dvd-⊗ c y.left) (⊗_comm c n ∙ z.left.product)

      s-c : Divides s c
      s-c = dvd_by (dvd-⊕ (dvd-⊗ z.u s-m) (dvd-⊗ z.v y.right)) z.combines

      apart : n ⊗ (c ⊗ (g ⊗ g)) ≡ p
      apart = sym (⊗_assoc n c (g ⊗ g)) ∙ ap (λ (x : ℕ). x ⊗ (g ⊗ g)) z.left.product ∙ is

      by_gcd : Dec (s ≡ 1) → ⊥
      by_gcd (yes o) = no_cube m g is (rw (sym (one-⊗ c) ∙ ap (λ (x : ℕ). x ⊗ c) (sym n-one) ∙ z.left.product) at z.right)
        where
          n-one : n ≡ 1
          n-one = rest-one g c n z.right.quotient y.u y.v apart z.right.product (y.combines ∙ o) ne
      by_gcd (no sn) = moved m g s y.left.quotient s-c.quotient is (rw (y.left.product, s-c.product) z.left.product) ne sn again

  parts : (m g : ℕ) → m ⊗ (g ⊗ g) ≡ p → g ≢ 1 → Smaller m → ⊥
  parts m g is ne again = let z = bezout m g in parted m g is ne again z (bezout z.left.quotient g)

  -- at most n squares are moved
  no_square : (n m g : ℕ) → degree m ≤ n → m ⊗ (g ⊗ g) ≡ p → g ≢ 1 → ⊥
  no_square zero m g l is ne = parts m g is ne (λ m' g' h is' ne'. omega arith)
  no_square (suc n) m g l is ne = parts m g is ne (λ m' g' h is' ne'. no_square n m' g' (omega arith) is' ne')

pub rigid_irreducible : RigidIrreducible
rigid_irreducible p r = record { proper = r.proper; only = λ d h. split d h (bezout h.quotient d) }
  where
    split : (d : ℕ) (h : Divides d p) → Bezout h.quotient d → (d ≡ 1) ⊎ (d ≡ p)
    split d h z = go (ℕ_discrete z.gcd 1)
      where
        go : Dec (z.gcd ≡ 1) → (d ≡ 1) ⊎ (d ≡ p)
        go (yes o) = trivial p h.quotient d z.u z.v r h.product (z.combines ∙ o)
        go (no n) = absurd (no_square p r (degree (a ⊗ b)) (a ⊗ b) g (le_refl (degree (a ⊗ b))) (sorted ∙ product) n)
          where
            a : ℕ
            a = z.left.quotient

            b : ℕ
            b = z.right.quotient

            g : ℕ
            g = z.gcd

            product : a ⊗ g ⊗ (b ⊗ g) ≡ p
            product = rw (z.left.product, z.right.product) h.product

            sorted : a ⊗ b ⊗ (g ⊗ g) ≡ a ⊗ g ⊗ (b ⊗ g)
            sorted = simp ring

-- ---- and back

pub irreducible_rigid : IrreducibleRigid
irreducible_rigid p i = record { proper = i.proper; no_nilpotent = nil; no_idempotent = idem }
  where
    pos : 0 < p
    pos = omega (arith, i.proper)

    zero_of : (h : ℕ) → h < 2 ^ degree p → Divides p h → h ≡ 0
    zero_of h l k = dvd-small (degree p) (degree-is p pos) k l

    nil : (h : ℕ) → 0 < h → h < 2 ^ (2 * degree p / 3 + 1) → rem p (h ⊗ h) ≡ 0 → ⊥
    nil h n l e = ⊎_elim (λ k. omega (arith, zero_of h low k)) (λ k. omega (arith, zero_of h low k)) (euclid_lemma p h h i (dvd_of_rem-zero pos (h ⊗ h) e))
      where
        low : h < 2 ^ degree p
        low = lt_of_lt_of_le l (pow_mono (omega (arith, degree-from 1 p i.proper)))

    idem : (h : ℕ) → 1 < h → h < 2 ^ degree p → rem p (h ⊗ h) ≡ h → ⊥
    idem h n l e = ⊎_elim (λ k. omega (arith, zero_of h l k)) (λ k. omega (arith, ⊕-eq h 1 (zero_of (h ⊕ 1) sum_lt k))) (euclid_lemma p h (h ⊕ 1) i both)
      where
        both : Divides p (h ⊗ (h ⊕ 1))
        both = dvd_by (rem-dvd pos (h ⊗ h)) (rw e (simp ring))

        sum_lt : h ⊕ 1 < 2 ^ degree p
        sum_lt = ⊕-lt (degree p) h 1 l (omega arith)
