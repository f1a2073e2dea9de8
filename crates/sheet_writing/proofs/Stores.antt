-- The stores of a sheet: the head, and the fingerprints behind it.
use mathlib.Core.Path.{◌≡◌, sym, ap, ap₂, ◌∙◌}
use mathlib.Core.List.{List, [], ◌++◌, append_assoc, append-nil}
use Prim.Native.Nat.{ℕ, ◌+◌, ◌*◌, ◌^◌, ◌≤◌, ◌<◌}
use native.Mathlib.Nat.{lt_of_lt_of_le, zero-add}
use native.Mathlib.Omega.{arith}
use lib.ListN.{length, take, drop, length-append, length-drop}
use lib.Pow.{pow_mono}
use lib.Seq.{sets, take_at, drop_at, drop-drop}
use Rattle.gf2.specs.Polynomials.{degree}
use Rattle.gf2.specs.Moduli.{polynomial, Proper}
use Rattle.gf2.specs.declared.Modulus.{Modulus}
use Rattle.lists.proofs.Lists.{all_map}
use Rattle.gf2.proofs.Monics.{monic-pos, monic-degree}
use Rattle.big_endian.specs.Numbers.{bytes_of, fields_of, numbers_at}
use Rattle.sheets.specs.Layout.{Layout, layout_of, field_widths, page_place, sheet_length}
use Rattle.big_endian.specs.Numbers.{bytes_in}
use Rattle.sheets.specs.Layout.{Contents, head_of, sheet_bytes}
use Rattle.sheets.specs.Sheets.{page_fingerprints}
use Rattle.big_endian.proofs.Numbers.{length-bytes_of, length-fields_of, sets_front, numbers-stored}
use Rattle.sheets.proofs.Versions.{place-first, length_from}
use Rattle.sheets.proofs.Layouts.{length-head}
use Rattle.sheets.proofs.Pages.{length-pages, fingerprints-lt}

-- u at the front, and v at the front of what is behind it
fronts : (u v b b' : List ℕ) (n m : ℕ) → length u ≡ n → length v ≡ m → n + m ≤ length b → b' ≡ sets b 0 u
    → take n b' ++ sets (drop n b') 0 v ≡ u ++ v ++ drop (n + m) b
fronts u v b b' n m eu ev h e =
    let front : b' ≡ u ++ drop n b = e ∙ sets_front u b n eu (omega arith) in
    rw (front, take_at u (drop n b) n eu, drop_at u (drop n b) n eu)
    (ap (λ (l : List ℕ). u ++ l) (sets_front v (drop n b) m ev (rw (length-drop n b) (omega arith)) ∙ ap (λ (l : List ℕ). v ++ l) (drop-drop m n b))
    ∙ sym (append_assoc u v (drop (n + m) b)))

-- head, and fingerprints
pub sheet_stores : (x : Contents) (c : ℕ) (b b' part : List ℕ) → length x.pages ≡ c → sheet_length (layout_of x.version) c ≤ length b
    → b' ≡ sets b 0 (bytes_in (field_widths (layout_of x.version)) (head_of x))
    → part ≡ sets (drop (page_place (layout_of x.version) 0) b') 0 (fields_of 8 x.pages ++ bytes_of 8 x.fingerprint)
    → take (page_place (layout_of x.version) 0) b' ++ part ≡ sheet_bytes x ++ drop (sheet_length (layout_of x.version) c) b
unfolding sheet_bytes
sheet_stores x c b b' part ec h e ep =
    let v = layout_of x.version in
    let head = bytes_in (field_widths v) (head_of x) in
    let pages = fields_of 8 x.pages in
    let last = bytes_of 8 x.fingerprint in
    let long : length (pages ++ last) ≡ 8 * c + 8 =
    length-append pages last ∙ ap₂ (λ (m n : ℕ). m + n) (length-fields_of 8 x.pages ∙ ap (λ (m : ℕ). 8 * m) ec) (length-bytes_of 8 x.fingerprint) in
    let from = length_from x.version c in
    let all : page_place v 0 + (8 * c + 8) ≡ sheet_length v c = omega (arith, from) in
    ap (λ (l : List ℕ). take (page_place v 0) b' ++ l) ep
    ∙ fronts head (pages ++ last) b b' (page_place v 0) (8 * c + 8) (length-head x ∙ place-first v) long (omega (arith, from, h)) e
    ∙ ap₂ (λ (u : List ℕ) (n : ℕ). u ++ drop n b) (sym (append_assoc head pages last)) all

-- the fields of c pages of s bits read back, after they were stored
pub pages-stored : (p : Modulus) → Proper p → (v : Layout) (s n : ℕ) (file b : List ℕ) → 8 * n ≤ length b
    → numbers_at 0 8 n (sets b 0 (fields_of 8 (page_fingerprints v (polynomial p) s n file))) ≡ page_fingerprints v (polynomial p) s n file
pages-stored p m v s n file b h =
    let key = polynomial p in
    let us = page_fingerprints v key s n file in
    let word : 2 ^ degree key ≤ 2 ^ 64 = rw (monic-degree p.degree p.low m.2) (pow_mono {i = p.degree} {j = 64} m.1) in
    let small = all_map (λ f (l : f < 2 ^ degree key). lt_of_lt_of_le l word) us (fingerprints-lt (monic-pos p.degree p.low m.2) v n s file) in
    let long = length-pages v key n s file in
    ap₂ (λ (c : ℕ) (fs : List ℕ). numbers_at 0 8 c (sets b 0 (fields_of 8 fs))) (sym long) (sym (append-nil us))
    ∙ numbers-stored us [] b 0 8 (rw (append-nil us, long, zero-add) h) small
