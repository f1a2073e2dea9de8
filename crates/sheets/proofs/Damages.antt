-- What a check finds. The file's fingerprint is the sheet's where the check says same. A file that differs from the sheet's own inside k
-- neighbouring bits is told by the first page that differs.
use mathlib.Core.Path.{◌≡◌, sym, ap, ap₂, subst, ◌∙◌}
use mathlib.Core.Logic.{◌≢◌}
use mathlib.Core.Bool.{Bool, true, false, cond}
use mathlib.Core.List.{List, [], ◌++◌, List-discrete}
use Prim.Native.Nat.{ℕ, zero, suc, ◌+◌, ◌-◌, ◌*◌, ◌^◌, ◌≤◌, ◌<◌}
use native.Mathlib.Nat.{zero-mul, suc-mul, not-suc-le-zero, le_refl}
use native.Mathlib.Decide.{ℕ_discrete, dec_lt}
use native.Mathlib.Omega.{arith}
use lib.ListN.{length, take, drop, replicate, length-drop, drop_of_length-le, take-append-drop}
use lib.Seq.{drop-drop, take_all}
use Rattle.lists.proofs.Lists.{all_take, all_drop}
use Rattle.gf2.specs.Polynomials.{rem, degree}
use Rattle.gf2.proofs.Congruences.{shift_cancels}
use Rattle.refusals.specs.Refusals.{Done, longest}
use Rattle.refusals.proofs.Laws.{done-clear, done-eq}
use Rattle.acceptance.specs.Keys.{accepted, polynomial_of, key_of}
use Rattle.acceptance.proofs.Laws.{accepted_iff, accepted-pos, whole-key}
use Rattle.files.specs.Files.{fingerprint, mark_of, Bits, part_bits}
use Rattle.files.specs.Bursts.{Burst}
use Rattle.files.proofs.Confusions.{burst_differs}
use Rattle.files.proofs.Bursts.{part_burst}
use Rattle.files.proofs.Parts.{part-bits_are}
use Rattle.sheets.specs.Layout.{Layout, layout_of, page_count, pages_for, Contents, sheet_bytes, contents_in}
use Rattle.sheets.specs.Sheets.{filled, page_of, page_fingerprints, contents_of, joined_pages, Same, pages_now, compared, check_tests, check_sheet}
use Rattle.sheets.specs.Inner.{zeros_behind}
use Rattle.sheets.specs.Claims.{SoundContents, First, SameFingerprint, FirstAltered, SomeAltered, BurstFound, NoBurstSame}
use Rattle.sheets.proofs.Keys.{key-pos}
use Rattle.sheets.proofs.Pages.{pages-count, count-le, length-pages, page-at, fingerprint-lt, with_zeros, pages-joined-print, zeros_are}
use Rattle.sheets.proofs.Sound.{formed, holds-sound}
use Rattle.sheets.proofs.Changes.{not_same, other-not-same}
use Rattle.sheets.proofs.Guarantee.{contents-back, checks, other_length, page_iff, same_iff}

-- ---- a comparison that says same

module _ (x : Contents) (sound : SoundContents x) (file : List ℕ) (says : compared x file ≡ Same) where
  told-length : length file ≡ x.length
  told-length = go (ℕ_discrete (length file) x.length)
    where
      go : Dec (length file ≡ x.length) → length file ≡ x.length
      go (yes e) = e
      go (no n) = absurd (other-not-same (sym (other_length x file n) ∙ says))

  told-pages : x.pages ≡ pages_now x file
  told-pages = (same_iff x sound file told-length).0 says

  abbrev v : Layout
  v = layout_of x.version

  abbrev size : ℕ
  size = 8 * x.page_size

  abbrev key : ℕ
  key = polynomial_of x.key

  abbrev zeros : ℕ → ℕ
  zeros n = zeros_behind v size n

  -- the file's fingerprint is the sheet's, though they are not compared: with the same zeros behind them they are the pages joined
  pub told-fingerprint : fingerprint (polynomial_of x.key) file ≡ x.fingerprint
  unfolding contents_of
  told-fingerprint =
      let i = (accepted_iff key).0 sound.key in
      shift_cancels key (fingerprint key file) x.fingerprint (zeros (length file)) i.2 (omega arith) (fingerprint-lt pos file)
      sound.fingerprint
      (sym (pages-joined-print pos v size file (omega (arith, some)))
      ∙ ap (λ (c : ℕ). (joined_pages v key size (length file) (mark_of key []) (page_fingerprints v key size c file)).fingerprint)
      (sym (pages-count x.page_size (length file) some))
      ∙ ap₂ (λ (n : ℕ) (fs : List ℕ). (joined_pages v key size n (mark_of key []) fs).fingerprint) told-length (sym told-pages)
      ∙ sound.joined
      ∙ ap (λ (m : ℕ). rem key (x.fingerprint * 2 ^ m))
      (zeros_are v key size x.length x.pages (omega (arith, some)) (sound.count ∙ pages-count x.page_size x.length some)
      ∙ ap zeros (sym told-length)))
    where
      pos : 0 < key
      pos = key-pos x.key

      some : 0 < x.page_size
      some = omega (arith, sound.page_size.0)

-- so where a check says same, the file's fingerprint is the sheet's
pub same-fingerprint : SameFingerprint
unfolding check_sheet
same-fingerprint sheet w file same =
    told-fingerprint w.contents w.sound (part_bits file)
    (ap (λ (x : Contents). compared x (part_bits file)) (sym (contents-back sheet w))
    ∙ (done-clear (check_tests sheet file) tt (compared (contents_in sheet) (part_bits file)) Same same).1)

-- ---- the first page that differs

-- one page further
later : (s : ℕ) (a b : List ℕ) (i : ℕ) → take s a ≡ take s b → FirstAltered s (drop s a) (drop s b) i → FirstAltered s a b (suc i)
later s a b i e f =
    record {
      altered = λ h. f.altered (sym (further a i) ∙ h ∙ further b i);
      before = before;
    }
  where
    further : (l : List ℕ) (j : ℕ) → take s (drop (suc j * s) l) ≡ take s (drop (j * s) (drop s l))
    further l j =
        let n : s + j * s ≡ suc j * s = omega (arith, suc-mul j s) in
        ap (take s) (sym (drop-drop (j * s) s l ∙ ap (λ (m : ℕ). drop m l) n))

    before : (j : ℕ) → j < suc i → take s (drop (j * s) a) ≡ take s (drop (j * s) b)
    before zero l = rw (zero-mul s) e
    before (suc j) l = further a j ∙ f.before j (omega arith) ∙ sym (further b j)

altered-within : (s : ℕ) → 0 < s → (n : ℕ) (a b : List ℕ) → length a ≤ n → length a ≡ length b → a ≢ b → (i : ℕ) × FirstAltered s a b i
altered-within s pos zero a b l e ne = absurd (ne (sym (take_all 0 a l) ∙ take_all 0 b (omega arith)))
altered-within s pos (suc n) a b l e ne =
    go (List-discrete ℕ_discrete (take s a) (take s b))
    (altered-within s pos n (drop s a) (drop s b) (omega (arith, length-drop s a)) (omega (arith, length-drop s a, length-drop s b)))
  where
    go : Dec (take s a ≡ take s b) → (drop s a ≢ drop s b → (i : ℕ) × FirstAltered s (drop s a) (drop s b) i) → (i : ℕ) × FirstAltered s a b i
    go (no d) rest = (0, record { altered = λ h. d (rw (zero-mul s) at h); before = λ j h. absurd (not-suc-le-zero h) })
    go (yes d) rest =
        let r = rest (λ h. ne (sym (take-append-drop s a) ∙ ap₂ (λ (u w : List ℕ). u ++ w) d h ∙ take-append-drop s b)) in
        (suc r.0, later s a b r.0 d r.1)

pub some-altered : SomeAltered
some-altered s a b pos e ne = altered-within s pos (length a) a b (le_refl (length a)) e ne

-- ---- a change inside k neighbouring bits

-- pages of one length, whichever way a version takes them
taken_cancels : (v : Layout) (key s : ℕ) (a b : List ℕ) → accepted key ≡ true → length a ≡ length b
    → fingerprint key (page_of v s a) ≡ fingerprint key (page_of v s b) → fingerprint key a ≡ fingerprint key b
unfolding filled
taken_cancels v key s a b acc e = go v.filled
  where
    pos : 0 < key
    pos = accepted-pos key acc

    go : (f : Bool) → fingerprint key (cond f (filled s a) a) ≡ fingerprint key (cond f (filled s b) b) → fingerprint key a ≡ fingerprint key b
    go false h = h
    go true h =
        let i = (accepted_iff key).0 acc in
        shift_cancels key (fingerprint key a) (fingerprint key b) (s - length a) i.2 (omega arith) (fingerprint-lt pos a) (fingerprint-lt pos b)
        (with_zeros pos (s - length a) a
        ∙ h
        ∙ ap (λ (n : ℕ). fingerprint key (b ++ replicate (s - n) 0)) (sym e)
        ∙ sym (with_zeros pos (s - length a) b))

-- in pages of s bits
module _ (v : Layout) (key s : ℕ) (a b : List ℕ) (acc : accepted key ≡ true) (some : 0 < s) (ha : Bits a) (hb : Bits b) (burst : Burst (degree key) a b)
    (i : ℕ) (f : FirstAltered s a b i) where
  abbrev page : List ℕ → List ℕ
  page l = take s (drop (i * s) l)

  -- the page begins inside the file
  inside : i * s < length a
  inside = go (dec_lt (i * s) (length a))
    where
      go : Dec (i * s < length a) → i * s < length a
      go (yes l) = l
      go (no l) =
          absurd
          (f.altered
          (ap (take s) (drop_of_length-le a {i = i * s} (omega arith) ∙ sym (drop_of_length-le b {i = i * s} (omega (arith, burst.same_length))))))

  below : i < page_count s (length a)
  below = count-le s (length a) (suc i) some (omega (arith, suc-mul i s, inside))

  page-bits : (l : List ℕ) → Bits l → Bits (page l)
  page-bits l h = all_take (λ x. x < 2) s (drop (i * s) l) (all_drop (λ x. x < 2) (i * s) l h)

  prints-differ : fingerprint key (page_of v s (page a)) ≢ fingerprint key (page_of v s (page b))
  prints-differ e =
      let d = (accepted_iff key).0 acc in
      let part = part_burst (degree key) s (i * s) a b (omega arith) burst in
      burst_differs key (page a) (page b) d.2 (omega arith) (page-bits a ha) (page-bits b hb) f.altered part
      (taken_cancels v key s (page a) (page b) acc part.same_length e)

  pub first-differs : (c : ℕ) → c ≡ page_count s (length a) → First (page_fingerprints v key s c a) (page_fingerprints v key s c b) i
  first-differs c e =
      let inside : i < c = omega (arith, below, e) in
      record {
        below = rw (length-pages v key c s a) inside;
        differ = λ h. prints-differ (sym (page-at v key s c i a inside) ∙ h ∙ page-at v key s c i b inside);
        equal = λ j l. page-at v key s c j a (omega (arith, l, inside))
            ∙ ap (λ (q : List ℕ). fingerprint key (page_of v s q)) (f.before j l)
            ∙ sym (page-at v key s c j b (omega (arith, l, inside)));
      }

-- it is found on the first page that it alters
pub burst_found : BurstFound
unfolding contents_of
burst_found version key s a part h ha used burst i f =
    let b = part_bits part in
    let v = layout_of version in
    let x = contents_of version (key_of key) s a in
    let acc = h.is-accepted in
    let whole : polynomial_of (key_of key) ≡ key = whole-key key (accepted-pos key acc) in
    let sound = holds-sound version key s a h in
    let some : 0 < s = omega (arith, h.page-size.0) in
    let fits : length b ≤ longest = omega (arith, burst.same_length, h.within) in
    let c = pages_for s (length a) in
    let first = first-differs v key (8 * s) a b acc (omega arith) ha (part-bits_are part) burst i f c (pages-count s (length a) some) in
    checks (sheet_bytes x) (formed x sound) part fits used
    ∙ ap Done
    ((page_iff x sound b (sym burst.same_length) i).1
    (rw whole
    (subst (λ (m : ℕ). First (page_fingerprints v key (8 * s) c a) (page_fingerprints v key (8 * s) (pages_for s m) b) i) burst.same_length first)))

-- so no file that differs inside k neighbouring bits is told as the same
pub no_burst_same : NoBurstSame
no_burst_same version key s a b h ha used burst ne same =
    let r = some-altered (8 * s) a (part_bits b) (omega (arith, h.page-size.0)) burst.same_length ne in
    not_same (done-eq _ _ (sym (burst_found version key s a b h ha used burst r.0 r.1) ∙ same))
