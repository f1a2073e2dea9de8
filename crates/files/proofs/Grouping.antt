-- Marks joined in any grouping, and the exclusive or of files: the claims of specs/Grouping.antt, proved.
use mathlib.Core.Path.{◌≡◌, refl, sym, ap, ap₂, ◌∙◌}
use mathlib.Core.List.{List, [], ◌∷◌, ◌++◌, zip_with}
use Prim.Native.Nat.{ℕ, zero, suc, ◌+◌, ◌-◌, ◌*◌, ◌/◌, ◌%◌, ◌^◌, ◌<◌}
use native.Mathlib.Nat.{add_assoc, add-zero, zero-add, mul_assoc, mul-one}
use native.Mathlib.Omega.{arith}
use lib.ListN.{length, get_or, take}
use lib.Pow.{pow-add}
use Rattle.lists.proofs.Lists.{length_zip_with, take_zip_with, append_zip_with, get_d_zip_with}
use Rattle.gf2.specs.Polynomials.{◌⊕◌, rem}
use Rattle.gf2.proofs.Sums.{⊕_shl, ⊕_shr, ⊕-mod, ⊕-bit, ⊕_swap, ⊕_dbl, ⊕_self, xor}
use Rattle.gf2.proofs.Residues.{rem-⊕, rem-small}
use Rattle.gf2.proofs.Powers.{rem-rem, rem_shl}
use Rattle.files.specs.Files.{low_bits, bits, value_from, fingerprint_from, mark_from, Part, part_length, part_bits, joined_from}
use Rattle.files.specs.Grouping.{JoinedAssoc, EmptyJoined, xor_lists, XorTwo, XorOurs, XorThree, xor_parts, Alike, XorParts, XorUsed}
use Rattle.files.proofs.Values.{length-low}
use Rattle.files.proofs.Parts.{alike-long, WellUsed, well-used, well-clear}
use Rattle.files.proofs.Marks.{mark-eq}

-- ---- three marks, and the empty file's

module _ {p : ℕ} (pos : 0 < p) (s : ℕ) where
  shifted : (f g h m n : ℕ)
      → rem p (rem p (f * 2 ^ m ⊕ g ⊕ s * 2 ^ m) * 2 ^ n ⊕ h ⊕ s * 2 ^ n) ≡ rem p (f * 2 ^ (m + n) ⊕ rem p (g * 2 ^ n ⊕ h ⊕ s * 2 ^ n) ⊕ s * 2 ^ (m + n))
  shifted f g h m n = simp (rem-⊕ pos, rem_shl pos, rem-rem pos, ⊕_shl, pow-add 2 m n, mul_assoc, xor)

  none-behind : (f : ℕ) → rem p (f * 2 ^ 0 ⊕ rem p s ⊕ s * 2 ^ 0) ≡ rem p f
  none-behind f = simp (mul-one, rem-⊕ pos, rem-rem pos, xor)

  none_in_front : (f n : ℕ) → rem p (rem p s * 2 ^ n ⊕ f ⊕ s * 2 ^ n) ≡ rem p f
  none_in_front f n = simp (rem-⊕ pos, rem_shl pos, xor)

pub joined_assoc : JoinedAssoc
unfolding joined_from
joined_assoc s key a b c pos =
    mark-eq (shifted pos s a.fingerprint b.fingerprint c.fingerprint b.length c.length) (add_assoc a.length b.length c.length)

pub empty-joined : EmptyJoined
unfolding joined_from mark_from fingerprint_from value_from
empty-joined s key m pos low =
    let reduced = rem-small pos m.fingerprint low in (
      mark-eq (none-behind pos s m.fingerprint ∙ reduced) (add-zero m.length),
      mark-eq (none_in_front pos s m.fingerprint m.length ∙ reduced) (zero-add m.length),
    )

-- ---- exclusive or of files

-- a bit of each comes in behind what was there
xor-bit : (s u x y : ℕ) → (s ⊕ u) * 2 + (x ⊕ y) % 2 ≡ (s * 2 + x % 2) ⊕ (u * 2 + y % 2)
xor-bit s u x y =
    sym (⊕-bit (s ⊕ u) ((x ⊕ y) % 2) (omega arith))
    ∙ ap₂ (λ (c d : ℕ). c ⊕ d) (⊕_dbl s u) (⊕-mod 1 x y)
    ∙ ⊕_swap (s * 2) (u * 2) (x % 2) (y % 2)
    ∙ ap₂ (λ (c d : ℕ). c ⊕ d) (⊕-bit s (x % 2) (omega arith)) (⊕-bit u (y % 2) (omega arith))

value-xor : (s u : ℕ) (a b : List ℕ) → length a ≡ length b → value_from (s ⊕ u) (xor_lists a b) ≡ value_from s a ⊕ value_from u b
unfolding value_from zip_with
value-xor s u [] [] l = refl
value-xor s u [] (y ∷ b) l = absurd (omega arith)
value-xor s u (x ∷ a) [] l = absurd (omega arith)
value-xor s u (x ∷ a) (y ∷ b) l =
    ap (λ (v : ℕ). value_from v (xor_lists a b)) (xor-bit s u x y) ∙ value-xor (s * 2 + x % 2) (u * 2 + y % 2) a b (omega arith)

pub xor-two : XorTwo
unfolding fingerprint_from
xor-two s u key a b pos l = ap (rem key) (value-xor s u a b l) ∙ rem-⊕ pos (value_from s a) (value_from u b)

pub xor_ours : XorOurs
xor_ours key a b pos l = ap (λ (s : ℕ). fingerprint_from s key (xor_lists a b)) (sym (⊕_self 1)) ∙ xor-two 1 1 key a b pos l

pub xor_three : XorThree
xor_three s key a b c pos l m =
    ap (λ (v : ℕ). fingerprint_from v key (xor_lists (xor_lists a b) c)) starts
    ∙ xor-two (s ⊕ s) s key (xor_lists a b) c pos (length_zip_with ◌⊕◌ a b l ∙ l ∙ m)
    ∙ ap (λ (v : ℕ). v ⊕ fingerprint_from s key c) (xor-two s s key a b pos l)
  where
    starts : s ≡ s ⊕ s ⊕ s
    starts = sym (simp xor)

-- ---- exclusive or of parts

low-xor : (n x y : ℕ) → low_bits n (x ⊕ y) ≡ xor_lists (low_bits n x) (low_bits n y)
unfolding low_bits zip_with
low-xor zero x y = refl
low-xor (suc n) x y =
    ap₂ {C = List ℕ} (λ (b : ℕ) (r : List ℕ). b ∷ r) (ap (λ (v : ℕ). v % 2) (⊕_shr n x y) ∙ ⊕-mod 1 (x / 2 ^ n) (y / 2 ^ n)) (low-xor n x y)

bits-xor : (a b : List ℕ) → length a ≡ length b → bits (xor_lists a b) ≡ xor_lists (bits a) (bits b)
unfolding bits zip_with
bits-xor [] [] l = refl
bits-xor [] (y ∷ b) l = absurd (omega arith)
bits-xor (x ∷ a) [] l = absurd (omega arith)
bits-xor (x ∷ a) (y ∷ b) l =
    ap₂ (λ (c d : List ℕ). c ++ d) (low-xor 8 x y) (bits-xor a b (omega arith))
    ∙ sym (append_zip_with ◌⊕◌ (low_bits 8 x) (low_bits 8 y) (bits a) (bits b) (length-low 8 x ∙ sym (length-low 8 y)))

module _ (a b : Part) (h : Alike a b) where
  long : Alike (xor_parts a b) a
  long = (length_zip_with ◌⊕◌ a.bytes b.bytes h.0, refl)

  parts-xor : part_bits (xor_parts a b) ≡ xor_lists (part_bits a) (part_bits b)
  unfolding part_bits
  parts-xor =
      ap₂ (λ (n : ℕ) (r : List ℕ). take n r) (alike-long (xor_parts a b) a long.0 long.1) (bits-xor a.bytes b.bytes h.0)
      ∙ take_zip_with ◌⊕◌ (part_length a) (bits a.bytes) (bits b.bytes)
      ∙ ap (λ (n : ℕ). xor_lists (take (part_length a) (bits a.bytes)) (take n (bits b.bytes))) (alike-long a b h.0 h.1)

  -- the unused bits of the final byte
  zeros-xor : WellUsed a → WellUsed b → get_or (xor_parts a b).bytes (length (xor_parts a b).bytes - 1) 0 % 2 ^ (8 - a.used) ≡ 0
  zeros-xor w v =
      let i = length a.bytes - 1 in
      ap (λ (n : ℕ). get_or (xor_parts a b).bytes (n - 1) 0 % 2 ^ (8 - a.used)) long.0
      ∙ ap (λ (x : ℕ). x % 2 ^ (8 - a.used)) (get_d_zip_with ◌⊕◌ (⊕_self 0) a.bytes b.bytes i h.0)
      ∙ ⊕-mod (8 - a.used) (get_or a.bytes i 0) (get_or b.bytes i 0)
      ∙ ap₂ (λ (x y : ℕ). x ⊕ y) w.zeros
      (ap₂ (λ (n u : ℕ). get_or b.bytes (n - 1) 0 % 2 ^ (8 - u)) h.0 h.1 ∙ v.zeros)
      ∙ ⊕_self 0

  parts-used : WellUsed a → WellUsed b → WellUsed (xor_parts a b)
  parts-used w v =
      record {
        from = w.from;
        to = w.to;
        none = λ z. w.none (sym long.0 ∙ z);
        zeros = zeros-xor w v;
      }

pub xor-parts : XorParts
xor-parts a b h = parts-xor a b h

pub xor-used : XorUsed
xor-used a b h ea eb = well-clear (xor_parts a b) (parts-used a b h (well-used a ea) (well-used b eb))
