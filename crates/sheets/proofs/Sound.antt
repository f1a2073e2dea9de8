-- When a sheet is read: no test of reading holds of the bytes exactly where they are a sheet's with sound fields.
use mathlib.Core.Path.{◌≡◌, refl, sym, ap, ◌∙◌}
use mathlib.Core.Bool.{Bool, true, false, ◌||◌, not}
use mathlib.Core.List.{List, [], ◌∷◌, ◌++◌}
use Prim.Native.Nat.{ℕ, ◌*◌, ◌%◌, ◌^◌, ◌≤◌, ◌<◌}
use native.Mathlib.Nat.{lt_of_lt_of_le, mul-mod_right}
use native.Mathlib.Omega.{arith}
use lib.Dec.{ltb, leb, eqb, lit<}
use lib.ListN.{length}
use lib.Pow.{pow_mono}
use borrow.Author.Tests.{eq-eqb, le-ltb, lt-leb, ltb-false, leb-false, eqb-true, not-false}
use Rattle.lists.specs.Lists.{All}
use Rattle.gf2.specs.Polynomials.{degree, rem}
use Rattle.lists.proofs.Lists.{all_map}
use Rattle.refusals.specs.Refusals.{longest}
use Rattle.refusals.proofs.Laws.{Clear}
use Rattle.acceptance.specs.declared.Key.{Key}
use Rattle.acceptance.specs.Keys.{accepted, polynomial_of, key_of, outside}
use Rattle.lists.proofs.Truth.{or-neither}
use Rattle.acceptance.proofs.Laws.{accepted_iff, accepted-pos, accepted-range, range-key, whole-key, key_iff}
use Rattle.files.specs.Files.{Bytes, fingerprint, mark_of}
use Rattle.big_endian.specs.Numbers.{number_at}
use Rattle.sheets.specs.Layout.{letters, letters_width, version_in, fingerprint_width, Layout, layouts, known, layout_of}
use Rattle.sheets.specs.Layout.{page_place, sheet_length, pages_for, Contents, sheet_bytes, field_in, key_in, length_in, pages_in, contents_in}
use Rattle.sheets.specs.Sheets.{page_fingerprints, contents_of, joined_pages, some_unreduced, pages_joined, file_filled, head_wrong, read_tests}
use Rattle.sheets.specs.Claims.{highest, SoundContents, WellFormed, Holds}
use Rattle.big_endian.proofs.Numbers.{number_lt, length-numbers_at}
use Rattle.sheets.proofs.Keys.{key-pos, key_width, key_narrow, key_fits, key_back, number-back, degree-held}
use Rattle.sheets.proofs.Versions.{widths_are, three_wide, unit-some, length-fits, length_from, least_needed, known_small}
use Rattle.sheets.proofs.Layouts.{Fits, length-sheet, field_back, version-back, length_back, read_back, write_back}
use Rattle.sheets.proofs.Pages.{pages-count, fingerprint-lt, fingerprints-lt, length-pages, pages-joined-print, zeros_are}

-- ---- reduced fingerprints

pub list_reduced : (k : ℕ) (fs : List ℕ) → All (λ g. g < 2 ^ k) fs → some_unreduced k fs ≡ false
unfolding some_unreduced
list_reduced k [] h = refl
list_reduced k (g ∷ fs) h = rw (lt-leb (2 ^ k) g h.0) (list_reduced k fs h.1)

pub all-reduced : (k : ℕ) (fs : List ℕ) (f : ℕ) → All (λ g. g < 2 ^ k) fs → f < 2 ^ k → some_unreduced k (fs ++ f ∷ []) ≡ false
unfolding some_unreduced
all-reduced k [] f h l = rw (lt-leb (2 ^ k) f l)
all-reduced k (g ∷ fs) f h l = rw (lt-leb (2 ^ k) g h.0) (all-reduced k fs f h.1 l)

pub none-unreduced : (k : ℕ) (fs : List ℕ) (f : ℕ) → some_unreduced k (fs ++ f ∷ []) ≡ false → All (λ g. g < 2 ^ k) fs × (f < 2 ^ k)
unfolding some_unreduced
none-unreduced k [] f e = (tt, leb-false (2 ^ k) f (or-neither (leb (2 ^ k) f) false e).0)
none-unreduced k (g ∷ fs) f e =
    let o = or-neither (leb (2 ^ k) g) (some_unreduced k (fs ++ f ∷ [])) e in
    let i = none-unreduced k fs f o.1 in
    ((leb-false (2 ^ k) g o.0, i.0), i.1)

-- ---- sound fields fit the layout

pub sound-fits : (x : Contents) → SoundContents x → Fits x
sound-fits x h =
    let v = layout_of x.version in
    record {
      fields =
          rw (widths_are x.version) (
            lit< tt,
            (
              known_small x.version h.version,
              (key_fits x.key h.in_range v.paired h.held, (length-fits x.version x.length h.length, (omega (arith, h.page_size), tt))),
            ),
          );
      key = key_back x.key h.in_range v.paired;
      pages = all_map (λ f l. lt_of_lt_of_le l small) x.pages h.pages;
      fingerprint = lt_of_lt_of_le h.fingerprint small;
      whole = h.whole;
      count = h.count;
    }
  where
    small : 2 ^ degree (polynomial_of x.key) ≤ 2 ^ 64
    small = pow_mono ((accepted_iff (polynomial_of x.key)).0 h.key).1

pub sound_back : (x : Contents) → SoundContents x → contents_in (sheet_bytes x) ≡ x
sound_back x h = read_back x (sound-fits x h) (three_wide x.version)

-- ---- the tests of reading

-- number 12 does not apply where the page size is 16 to 4,096, and only there
size-clear : (s : ℕ) → 16 ≤ s → s ≤ 4096 → (ltb s 16 || ltb 4096 s) ≡ false
size-clear s a b = rw (le-ltb s 16 a, le-ltb 4096 s b)

pub size_bounds : (s : ℕ) → (ltb s 16 || ltb 4096 s) ≡ false → (16 ≤ s) × (s ≤ 4096)
size_bounds s e = let o = or-neither (ltb s 16) (ltb 4096 s) e in (ltb-false s 16 o.0, ltb-false 4096 s o.1)

or-clear : {a b c : Bool} → a ≡ false → b ≡ false → c ≡ false → (a || b || c) ≡ false
or-clear x y z = rw (x, y, z)

pub sound-clear : (x : Contents) → SoundContents x → Clear (read_tests layouts (sheet_bytes x))
sound-clear x h =
    let f = sound-fits x h in
    let k = (key_iff x.key).1 (h.key, range-key x.key h.in_range) in
    let total = sheet_length (layout_of x.version) (length x.pages) in
    let least = sheet_length (layout_of x.version) 0 in
    let long : least ≤ total = omega (arith, length_from x.version 0, length_from x.version (length x.pages)) in
    let fits : length_in (layout_of x.version) (sheet_bytes x) ≤ longest = rw (length_back x f (three_wide x.version)) h.length in
    rw (sound_back x h, length-sheet x, field_back x f 0 (omega arith), version-back x f) (
      or-clear
          (or-clear (le-ltb total 27 (omega (arith, long, least_needed x.version))) refl (ap not h.version))
          (le-ltb total least long)
          (le-ltb longest (length_in (layout_of x.version) (sheet_bytes x)) fits),
      (
        k.0,
        (
          k.1,
          (
            size-clear x.page_size h.page_size.0 h.page_size.1,
            (
              or-clear (ap not (eq-eqb total total refl)) (all-reduced (degree (polynomial_of x.key)) x.pages x.fingerprint h.pages h.fingerprint)
                  (ap not (eq-eqb (pages_joined x).fingerprint (file_filled x) h.joined)),
              tt,
            ),
          ),
        ),
      ),
    )

-- none of three tests holds
pub neither : (a b c : Bool) → (a || b || c) ≡ false → (a ≡ false) × (b ≡ false) × (c ≡ false)
neither a b c e = let x = or-neither (a || b) c e in let y = or-neither a b x.0 in (y.0, y.1, x.1)

-- size, letters, version, the version's least size and the limit of lengths are right
pub record HeadRight (sheet : List ℕ) : Type 0 where
  pub long : 27 ≤ length sheet
  pub letters : number_at 0 letters_width sheet ≡ Rattle.sheets.specs.Layout.letters
  pub version : known layouts (version_in sheet) ≡ true
  pub least : sheet_length (layout_of (version_in sheet)) 0 ≤ length sheet
  pub length-fits : length_in (layout_of (version_in sheet)) sheet ≤ longest

pub head-right : (sheet : List ℕ) → head_wrong layouts sheet ≡ false → HeadRight sheet
head-right sheet e =
    let v = layout_of (version_in sheet) in
    let a = ltb (length sheet) 27 in
    let b = not (eqb (number_at 0 letters_width sheet) letters) in
    let c = not (known layouts (version_in sheet)) in
    let m = neither (a || b || c) (ltb (length sheet) (sheet_length v 0)) (ltb longest (length_in v sheet)) e in
    let n = neither a b c m.0 in
    record {
      long = ltb-false (length sheet) 27 n.0;
      letters = eqb-true (number_at 0 letters_width sheet) letters (not-false _ n.1);
      version = not-false _ n.2;
      least = ltb-false (length sheet) (sheet_length v 0) m.1;
      length-fits = ltb-false longest (length_in v sheet) m.2;
    }

-- what the tests say of the bytes where none holds
module _ (sheet : List ℕ) (c : Clear (read_tests layouts sheet)) where
  head : HeadRight sheet
  head = head-right sheet c.0

  x : Contents
  x = contents_in sheet

  abbrev total : ℕ
  total = sheet_length (layout_of x.version) (length x.pages)

  body : (not (eqb (length sheet) total) ≡ false)
      × (some_unreduced (degree (polynomial_of x.key)) (x.pages ++ x.fingerprint ∷ []) ≡ false)
      × (not (eqb (pages_joined x).fingerprint (file_filled x)) ≡ false)
  unfolding x
  body =
      neither (not (eqb (length sheet) total)) (some_unreduced (degree (polynomial_of x.key)) (x.pages ++ x.fingerprint ∷ []))
      (not (eqb (pages_joined x).fingerprint (file_filled x))) c.1.1.1.1.0

  count : length x.pages ≡ pages_in (layout_of (version_in sheet)) sheet
  unfolding x contents_in
  count =
      let v = layout_of (version_in sheet) in
      length-numbers_at (page_place v 0) fingerprint_width (pages_in v sheet) sheet

  pub clear-total : length sheet ≡ sheet_length (layout_of (version_in sheet)) (pages_in (layout_of (version_in sheet)) sheet)
  unfolding x contents_in
  clear-total = eqb-true (length sheet) total (not-false _ body.0) ∙ ap (sheet_length (layout_of (version_in sheet))) count

  abbrev v : Layout
  v = layout_of (version_in sheet)

  key-small : field_in v 2 sheet < 2 ^ (8 * key_width v)
  key-small = rw (widths_are (version_in sheet)) (number_lt _ (key_width v) sheet (omega (arith, head.long, key_narrow v)))

  in_range : outside (key_in v sheet) ≡ false
  unfolding contents_in
  in_range = c.1.0

  pub clear-contents : SoundContents (contents_in sheet)
  unfolding x contents_in
  clear-contents =
      let fs = none-unreduced (degree (polynomial_of x.key)) x.pages x.fingerprint body.1 in
      record {
        version = head.version;
        in_range = in_range;
        key = ((key_iff x.key).0 (in_range, c.1.1.0)).0;
        held = degree-held v.paired (field_in v 2 sheet) in_range key-small;
        length = head.length-fits;
        whole = mul-mod_right (layout_of (version_in sheet)).length_unit (field_in (layout_of (version_in sheet)) 3 sheet);
        page_size = size_bounds x.page_size c.1.1.1.0;
        count = count;
        pages = fs.0;
        fingerprint = fs.1;
        joined = eqb-true (pages_joined x).fingerprint (file_filled x) (not-false _ body.2);
      }

  pub clear-sound : Bytes sheet → WellFormed sheet
  clear-sound b =
      record {
        contents = contents_in sheet;
        sound = clear-contents;
        bytes = sym (write_back sheet b (three_wide (version_in sheet)) (unit-some (version_in sheet)) clear-total head.letters
            (number-back v.paired (field_in v 2 sheet) in_range));
      }

-- the bytes of sound numbers
abbrev pub formed : (x : Contents) → SoundContents x → WellFormed (sheet_bytes x)
formed x h = record { contents = x; sound = h; bytes = refl }

-- ---- the numbers of a file's sheet are sound

pub file-sound : (version : ℕ) (x : Key) (s : ℕ) (file : List ℕ) → known layouts version ≡ true
    → outside x ≡ false → accepted (polynomial_of x) ≡ true → x.degree ≤ highest (layout_of version)
    → length file ≤ longest → length file % (layout_of version).length_unit ≡ 0 → 16 ≤ s → s ≤ 4096
    → SoundContents (contents_of version x s file)
unfolding contents_of
file-sound version x s file v r a d n u lo hi =
    let key = polynomial_of x in
    let pos = key-pos x in
    let l = layout_of version in
    let count = pages_for s (length file) in
    let c = length-pages l key count (8 * s) file in
    let e = pages-count s (length file) (omega arith) in
    record {
      version = v;
      in_range = r;
      key = a;
      held = d;
      length = n;
      whole = u;
      page_size = (lo, hi);
      count = c;
      pages = fingerprints-lt pos l count (8 * s) file;
      fingerprint = fingerprint-lt pos file;
      joined =
          ap (λ (m : ℕ). (joined_pages l key (8 * s) (length file) (mark_of key []) (page_fingerprints l key (8 * s) m file)).fingerprint) e
          ∙ pages-joined-print pos l (8 * s) file (omega arith)
          ∙ ap (λ (m : ℕ). rem key (fingerprint key file * 2 ^ m)) (sym (zeros_are l key (8 * s) (length file) _ (omega arith) (c ∙ e)));
    }

pub holds-sound : (version key s : ℕ) (file : List ℕ) → Holds version key s file → SoundContents (contents_of version (key_of key) s file)
holds-sound version key s file h =
    file-sound version (key_of key) s file h.is_known (accepted-range key h.is-accepted)
    (ap accepted (whole-key key (accepted-pos key h.is-accepted)) ∙ h.is-accepted)
    h.has_room h.within h.whole h.page-size.0 h.page-size.1
